use Rattle.std.proofs.Common.{refl}
use Rattle.csv_io.proofs.StackFacts.{cells-last, cells-next, cells-start}
use Rattle.csv_io.proofs.stack.append_all.Goals as goal

pub parts-init : goal.parts-init
parts-init c = cells-start c.args.first.now _ c.args.more.now _ c.reverse.ensures.turned refl

pub parts-preserved : goal.parts-preserved
parts-preserved c = cells-next c.parts.first _ c.in-Some.next _ c.parts.more c.pop.new.self c.in-Some.ensures.last c.in_ok-append.ensures.added c.parts.invariant

pub returns : goal.returns
returns c = record {
  cells = cells-last c.parts.first _ c.parts.more c.in_default.ensures.last.0 c.parts.invariant;
  none = c.in_default.ensures.last.1;
}

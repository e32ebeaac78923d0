use Rattle.summarize_pieces.proofs.FirstSteps.{given-firsts}
use Rattle.summarize_pieces.proofs.ItemSteps.{push-firsts}
use Rattle.summarize_pieces.proofs.finish.push_item.Goals as goal

pub returns-in_ok-push_firsts-in-Some : goal.returns-in_ok-push_firsts-in-Some
returns-in_ok-push_firsts-in-Some c = record {
  pushed = λ u rows h g e. push-firsts c.args.e.now c.in-Some.columns.now u c.args.line.now c.push_firsts.new.line c.in-Some.ensures.some (c.in_ok-push_firsts-in-Some.ensures.pushed u (given-firsts c.args.e.now c.in-Some.columns.now u c.args.values.now c.in-Some.ensures.some h));
}

use Rattle.std.proofs.Common.{ap}
use Rattle.kql_cells.specs.Table.{Grid}
use Rattle.phase_pieces.proofs.TogetherLaws.{all-put, next-alike, next-rest, same-alike, start-alike, start-rest}
use Rattle.phase_pieces.proofs.together.put_together.Goals as goal

pub tables-init : goal.tables-init
tables-init c = record {
  alike = start-alike c.args.first c.args.more _ c.reverse.ensures.turned c.requires.kinds;
  rest = start-rest c.args.first c.args.more _ c.reverse.ensures.turned;
}

pub append-requires : goal.append-requires
append-requires c = (next-alike c.tables.made c.in-Some.next c.tables.left c.pop.new.self c.in-Some.ensures.last c.tables.invariant.alike).1

pub tables-preserved : goal.tables-preserved
tables-preserved c = record {
  alike = same-alike c.tables.made c.append.new.self c.pop.new.self (ap (λ (t : Grid). t.columns) c.in_ok-append.ensures.added) (next-alike c.tables.made c.in-Some.next c.tables.left c.pop.new.self c.in-Some.ensures.last c.tables.invariant.alike).0;
  rest = next-rest c.tables.made c.in-Some.next c.append.new.self _ c.tables.left c.pop.new.self c.in-Some.ensures.last c.in_ok-append.ensures.added c.tables.invariant.rest;
}

pub returns : goal.returns
returns c = record { table = all-put c.tables.made _ _ c.in_default.ensures.last.0 c.tables.invariant.rest }

use Rattle.std.proofs.Common.{◌≡◌, length}
use Rattle.kql_functions.specs.Find.{named_among}
use Rattle.kql_functions.specs.Names.{aggregate_name}
use Rattle.kql_functions.proofs.aggregate.aggregate_among.Given as goal

abbrev pub invariant-names : goal.invariant-names
invariant-names l = named_among aggregate_name l.left l.name ≡ named_among aggregate_name l.fn.aggregates l.fn.name

abbrev pub decreases-names : goal.decreases-names
decreases-names l = length l.left

use Rattle.std.proofs.Common.{◌≡◌, length, map}
use Rattle.bind_operators.specs.Faults.{unless}
use Rattle.bind_query.specs.Operators.{arg_place}
use Rattle.bind_query.specs.Union.{table_clashes}
use Rattle.bind_query.proofs.union.first_clash.Given as goal

abbrev pub invariant-each : goal.invariant-each
invariant-each l = unless {X = Unit {0}} (table_clashes l.columns (map arg_place l.tables) l.others) tt ≡ unless {X = Unit {0}} (table_clashes l.fn.columns (map arg_place l.fn.tables) l.fn.others) tt

abbrev pub decreases-each : goal.decreases-each
decreases-each l = length l.tables

use Rattle.std.proofs.Common.{◌≡◌, ◌++◌, length}
use Rattle.std.specs.Prelude.{reverse}
use Rattle.kql_values.specs.Kept.{all_named}
use Rattle.pattern_run.proofs.lift.with_tables.Given as goal

abbrev pub invariant-tables : goal.invariant-tables
invariant-tables l = l.all ++ all_named (reverse l.left) ≡ l.fn.catalogue ++ all_named l.fn.tables

abbrev pub decreases-tables : goal.decreases-tables
decreases-tables l = length l.left

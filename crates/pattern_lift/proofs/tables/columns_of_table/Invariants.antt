use Rattle.std.proofs.Common.{◌≡◌, length}
use Rattle.pattern_lift.specs.Derived.{columns_of_table}
use Rattle.pattern_lift.proofs.tables.columns_of_table.Given as goal

abbrev pub invariant-tables : goal.invariant-tables
invariant-tables l = columns_of_table l.left l.name ≡ columns_of_table l.fn.tables l.fn.name

abbrev pub decreases-tables : goal.decreases-tables
decreases-tables l = length l.left

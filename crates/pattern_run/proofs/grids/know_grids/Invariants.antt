use Rattle.std.proofs.Common.{length}
use Rattle.kql_values.specs.Kept.{all_named}
use Rattle.pattern_run.specs.LawOfPatterns.{AreGrids}
use Rattle.pattern_run.proofs.grids.know_grids.Given as goal

-- where those that are left are tables, all are
abbrev pub invariant-tables : goal.invariant-tables
invariant-tables l = AreGrids (all_named l.left) → AreGrids (all_named l.fn.tables)

abbrev pub decreases-tables : goal.decreases-tables
decreases-tables l = length l.left

use Rattle.std.proofs.Common.{◌≡◌, length}
use Rattle.pattern_laws.specs.Tested.{tables_are_unmarked}
use Rattle.pattern_places.proofs.marks.tables_are_unmarked.Given as goal

abbrev pub invariant-tables : goal.invariant-tables
invariant-tables l = tables_are_unmarked l.marks l.left ≡ tables_are_unmarked l.fn.marks l.fn.tables

abbrev pub decreases-tables : goal.decreases-tables
decreases-tables l = length l.left

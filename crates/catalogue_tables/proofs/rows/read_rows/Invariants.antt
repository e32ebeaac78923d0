use Rattle.std.proofs.Common.{◌≡◌, ◌≤◌, ◌+◌, length}
use Rattle.std.specs.Prelude.{IfSome}
use Rattle.kql_outside.specs.Calls.{NoneFailed}
use Rattle.kql_words.specs.Sizes.{size_top}
use Rattle.catalogue_tables.specs.Tables.{files_rows, no_rows}
use Rattle.catalogue_tables.proofs.rows.read_rows.Given as goal

abbrev pub invariant-files : goal.invariant-files
invariant-files g l = record {
  few : l.room ≤ size_top;
  numbers : l.number + length l.left ≤ 1000;
  files : g.F.Shelf.files l.shelf ≡ g.F.Shelf.files l.initial.shelf;
  calls : NoneFailed (g.F.Shelf.calls l.initial.shelf) (g.F.Shelf.calls l.shelf);
  later : g.F.Shelf.faults l.initial.shelf ≤ g.F.Shelf.faults l.shelf;
  left : IfSome (g.F.Shelf.files l.initial.shelf) (λ files. files_rows files l.number l.room l.table l.left ≡ files_rows files l.first l.fn.room (no_rows l.entry.schema) l.entry.files);
}

abbrev pub decreases-files : goal.decreases-files
decreases-files g l = length l.left

use Rattle.std.proofs.Common.{◌≡◌, ◌≤◌, ◌+◌, length, map}
use Rattle.std.specs.Prelude.{IfSome}
use Rattle.kql_cells.specs.Catalogues.{table_name}
use Rattle.kql_outside.specs.Calls.{NoneFailed}
use Rattle.kql_words.specs.Sizes.{size_top}
use Rattle.catalogue_tables.specs.Entries.{AreClean}
use Rattle.catalogue_tables.specs.Tables.{after, entries_tables}
use Rattle.catalogue_tables.proofs.tables.add_entries.Given as goal

abbrev pub invariant-entries : goal.invariant-entries
invariant-entries g l = record {
  clean : AreClean (map table_name l.tables) l.count l.left;
  few : l.count ≤ 256;
  room : l.room ≤ size_top;
  files : g.F.Shelf.files l.shelf ≡ g.F.Shelf.files l.initial.shelf;
  calls : NoneFailed (g.F.Shelf.calls l.initial.shelf) (g.F.Shelf.calls l.shelf);
  later : g.F.Shelf.faults l.initial.shelf ≤ g.F.Shelf.faults l.shelf;
  left : IfSome (g.F.Shelf.files l.initial.shelf) (λ files. after l.tables (entries_tables files l.count l.room l.left) ≡ after l.fn.tables (entries_tables files l.fn.count l.fn.room l.entries));
}

abbrev pub decreases-entries : goal.decreases-entries
decreases-entries g l = length l.left

use Rattle.std.proofs.Common.{◌≡◌, ◌≤◌, ◌+◌, drop, map, take}
use Rattle.std.specs.Prelude.{IfSome, option_map}
use Rattle.kql_cells.specs.Catalogues.{table_name}
use Rattle.kql_outside.specs.Calls.{NoneFailed}
use Rattle.kql_words.specs.Command.{name_in, texts}
use Rattle.kql_words.specs.Sizes.{size_top}
use Rattle.kql_program.specs.Files.{tables_behind, tables_from, tables_of}
use Rattle.kql_program.specs.Refusals.{after}
use Rattle.kql_program.proofs.StartFacts.{StartsLead}
use Rattle.kql_program.proofs.files.read_tables.Given as goal

abbrev pub invariant-loop-i : goal.invariant-loop-i
invariant-loop-i g l = record {
  few : l.room ≤ size_top;
  names : map table_name l.tables ≡ map name_in (texts (take l.i l.words));
  files : g.F.Shelf.files l.shelf ≡ g.F.Shelf.files l.initial.shelf;
  calls : NoneFailed (g.F.Shelf.calls l.initial.shelf) (g.F.Shelf.calls l.shelf);
  starts : IfSome (g.F.Shelf.files l.initial.shelf) (λ files. StartsLead files (option_map (λ path. path.now) l.catalogue) l.limit l.words l.i l.room (g.F.Shelf.starts l.initial.shelf) (g.F.Shelf.starts l.shelf));
  later : g.F.Shelf.faults l.initial.shelf ≤ g.F.Shelf.faults l.shelf;
  left : IfSome (g.F.Shelf.files l.initial.shelf) (λ files. after l.tables (tables_from files (tables_behind files (map name_in (texts l.words)) (option_map (λ path. path.now) l.catalogue)) (l.i + 1) l.room (drop l.i (texts l.words))) ≡ tables_of files l.limit (option_map (λ path. path.now) l.catalogue) (texts l.words));
}

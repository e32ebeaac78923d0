use Rattle.std.proofs.Common.{◌≡◌, ◌≤◌, ◌+◌, All, length}
use Rattle.std.specs.Prelude.{IfSome}
use Rattle.kql_outside.specs.Calls.{NoneFailed}
use Rattle.kql_words.specs.Command.{texts}
use Rattle.kql_words.specs.Sizes.{size_top}
use Rattle.kql_program.specs.Refusals.{after}
use Rattle.live_tables.specs.Growing.{has_columns_of}
use Rattle.kql_live.specs.LiveFiles.{live_batches}
use Rattle.kql_live.proofs.files.read_batches.Given as goal

abbrev pub invariant-files : goal.invariant-files
invariant-files g l = record {
  spare : l.spare ≤ size_top;
  number : l.number + length l.left ≡ 2 + length l.paths;
  count : length l.batches + length l.left ≡ length l.paths;
  columns : All (has_columns_of l.opening) l.batches;
  told : g.F.Shelf.files l.shelf ≡ g.F.Shelf.files l.initial.shelf;
  calls : NoneFailed (g.F.Shelf.calls l.initial.shelf) (g.F.Shelf.calls l.shelf);
  later : g.F.Shelf.faults l.initial.shelf ≤ g.F.Shelf.faults l.shelf;
  rest : IfSome (g.F.Shelf.files l.initial.shelf) (λ files. after l.batches (live_batches files l.opening.columns l.number l.spare (texts l.left)) ≡ live_batches files l.opening.columns 2 l.room (texts l.paths));
}

abbrev pub decreases-files : goal.decreases-files
decreases-files g l = length l.left

use Rattle.std.proofs.Common.{◌≡◌, [], length}
use Rattle.serde_json.specs.View.{items_view}
use Rattle.catalogue_file.specs.Catalogue.{entries_behind}
use Rattle.catalogue_file.proofs.catalogue.read_entries.Given as goal

abbrev pub invariant-tables : goal.invariant-tables
invariant-tables l = entries_behind l.entries (items_view l.left) ≡ entries_behind [] (items_view l.items)

abbrev pub decreases-tables : goal.decreases-tables
decreases-tables l = length l.left

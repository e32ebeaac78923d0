use Rattle.std.proofs.Common.{◌≡◌, [], length}
use Rattle.serde_json.specs.View.{items_view}
use Rattle.catalogue_file.specs.Entries.{files_behind}
use Rattle.catalogue_file.proofs.entry.push_files.Given as goal

abbrev pub invariant-files : goal.invariant-files
invariant-files l = files_behind l.files (items_view l.left) ≡ files_behind [] (items_view l.items)

abbrev pub decreases-files : goal.decreases-files
decreases-files l = length l.left

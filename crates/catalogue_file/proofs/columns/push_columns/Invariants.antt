use Rattle.std.proofs.Common.{◌≡◌, [], length}
use Rattle.serde_json.specs.View.{items_view}
use Rattle.catalogue_file.specs.Columns.{columns_behind}
use Rattle.catalogue_file.proofs.columns.push_columns.Given as goal

abbrev pub invariant-columns : goal.invariant-columns
invariant-columns l = columns_behind l.schema (items_view l.left) ≡ columns_behind [] (items_view l.items)

abbrev pub decreases-columns : goal.decreases-columns
decreases-columns l = length l.left

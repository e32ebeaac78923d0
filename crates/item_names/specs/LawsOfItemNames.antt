-- What holds of the names of items.
use Rattle.std.specs.Prelude.{◌≡◌, ℕ, List, length}
use Rattle.kql_cells.specs.declared.schema.Column.{Column}
use Rattle.kql_bound.specs.declared.expr.BExpr.{BExpr}
use Rattle.kql_meaning.specs.Results.{result_kinds}
use Rattle.item_names.specs.ItemNames.{item_names}

-- An item has as many names as its expression has result columns.
abbrev pub EachColumnHasItsName : Type 0
EachColumnHasItsName = (e : BExpr) (n : ℕ) (columns : List Column) → length (item_names e n) ≡ length (result_kinds e columns)

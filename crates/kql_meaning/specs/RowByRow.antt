-- Expressions that read one row at a time, and operators that take each row by itself.
use Rattle.std.specs.Prelude.{◌≡◌, Bool, true, false, ◌&&◌, List, ◌++◌}
use Rattle.std.specs.List.{list_all}
use Rattle.kql_cells.specs.Table.{Grid}
use Rattle.kql_cells.specs.declared.schema.Column.{Column}
use Rattle.kql_cells.specs.declared.value.Value.{Value}
use Rattle.kql_bound.specs.declared.expr.BExpr.{BExpr, fold-BExpr}
use Rattle.kql_bound.specs.declared.expr.BExpr.TheOpen.{BExpr-F}
use Rattle.kql_bound.specs.declared.expr.ChainSign.{ChainSign}
use Rattle.kql_bound.specs.declared.parts.BItem.{BItem}
use Rattle.kql_bound.specs.declared.parts.ExpandItem.{ExpandItem}

-- Whether an expression is plain: neither a window function nor an aggregate stands anywhere in it.
abbrev pub is_plain_step : BExpr-F Bool → Bool
is_plain_step (BExpr-F.Literal l) = true
is_plain_step (BExpr-F.Column n) = true
is_plain_step (BExpr-F.Step c) = true
is_plain_step (BExpr-F.Call f args) = list_all (λ b. b) args
is_plain_step (BExpr-F.Chain first links) = first && list_all (λ (l : ChainSign × Bool). l.1) links
is_plain_step (BExpr-F.Path whole steps) = whole && list_all (λ b. b) steps
is_plain_step (BExpr-F.Window f args) = false
is_plain_step (BExpr-F.Aggregate f args) = false

unfoldable pub is_plain : BExpr → Bool
is_plain = fold-BExpr Bool is_plain_step

-- Whether all of these items are.
unfoldable pub are_plain : List BItem → Bool
are_plain items = list_all (λ (b : BItem). is_plain b.expr) items

unfoldable pub are_plain_parts : List ExpandItem → Bool
are_plain_parts items = list_all (λ (item : ExpandItem). is_plain item.expr) items

-- A table of these columns and rows.
abbrev pub grid_of : List Column → List (List Value) → Grid
grid_of columns lines = record { columns = columns; lines = lines }

-- An operator that takes each row by itself: for rows and then others it gives what it gives for those, and then for the others.
abbrev pub TakesEachRow : (Grid → Grid) → Type 0
TakesEachRow f = (columns : List Column) (xs ys : List (List Value)) → (f (grid_of columns (xs ++ ys))).lines ≡ (f (grid_of columns xs)).lines ++ (f (grid_of columns ys)).lines

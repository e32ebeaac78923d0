-- The columns of a pattern, filled row by row.
use Rattle.std.specs.Prelude.{ℕ, ◌≡◌, true, List, [], ◌∷◌, filter, length, map, not, slice_get, take, IsSomeAnd}
use Rattle.kql_cells.specs.Keys.{absent}
use Rattle.kql_cells.specs.Ordered.{text_in}
use Rattle.kql_cells.specs.Table.{Grid}
use Rattle.kql_cells.specs.declared.schema.Column.{Column}
use Rattle.kql_cells.specs.declared.value.Value.{Value}
use Rattle.kql_bound.specs.declared.expr.BExpr.{BExpr}
use Rattle.kql_bound.specs.declared.parts.ParsePlan.{ParsePlan}
use Rattle.kql_bound.specs.declared.parts.PatItem.{PatItem}
use Rattle.kql_bound.specs.declared.parts.PatItem.TheVariants as item
use Rattle.kql_meaning.specs.Cuts.{is_end}
use Rattle.kql_meaning.specs.Expressions.{val}
use Rattle.kql_meaning.specs.Parse.{parsed_values, pattern_columns, piece_value}
use Rattle.kql_meaning.specs.Tables.{has_column, places, places_below}
use Rattle.kql_values.specs.Growing.{Growing}
use Rattle.kql_values.specs.Moves.{column_of}

-- Ends that do not fall, each a place of the text.
unfoldable pub AreEnds : List ℕ → ℕ → List ℕ → Type 0
AreEnds t start [] = Unit {0}
AreEnds t start (end ∷ ends) = (is_end t start end ≡ true) × AreEnds t end ends

-- The same rows, and another open row.
unfoldable pub has_row : Growing → List Value → Growing
has_row g row = record { grid = g.grid; row = row }

-- The next column of the open row is that of an item, where it is one.
unfoldable pub IsNextColumn : Growing → PatItem → Type 0
IsNextColumn g item.Star = Unit {0}
IsNextColumn g (item.Literal t) = Unit {0}
IsNextColumn g (item.Column name kind) = IsSomeAnd (slice_get g.grid.columns (length g.row)) (λ c. c.kind ≡ kind)

-- What an item's column gets of a piece, and what it gets where there is none.
unfoldable pub item_values : PatItem → List ℕ → List Value
item_values (item.Column name kind) piece = piece_value kind piece ∷ []
item_values _ piece = []

unfoldable pub item_absent : PatItem → List Value
item_absent (item.Column name kind) = absent kind ∷ []
item_absent _ = []

-- The table of the pieces of what values show, a row for each.
unfoldable pub parsed_grid : ParsePlan → List Value → Grid
parsed_grid p values = record { columns = pattern_columns p.pattern; lines = map (λ v. parsed_values p (text_in v)) values }

-- The same of the first values, and no open row.
unfoldable pub grown : ParsePlan → List Value → ℕ → Growing
grown p values i = record { grid = parsed_grid p (take i values); row = [] }

-- The places of the columns that have the name of none of these.
unfoldable pub places_without : List Column → List Column → List ℕ
places_without made columns = filter (λ j. not (has_column (column_of columns j).name made)) (places_below (length columns))

-- The values of an expression at all rows.
unfoldable pub values_down : BExpr → Grid → List Value
values_down e t = map (λ i. val e t i []) (places t)

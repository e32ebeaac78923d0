-- `join` and `lookup`. Two rows match where each pair of keys is the same and not null. Each kind takes all pairs (left, right) that
-- match, in an order of its own.
use Rattle.std.specs.Prelude.{ℕ, suc, Bool, not, ◌&&◌, List, [], ◌∷◌, ◌++◌, decimal, filter, find, length, map, unwrap_or, if◌then◌else◌}
use Rattle.std.specs.List.{flat_map, list_all, list_any, range_with_len}
use Rattle.kql_cells.specs.Seen.{row_at}
use Rattle.kql_cells.specs.Table.{Grid}
use Rattle.kql_cells.specs.declared.schema.Column.{Column}
use Rattle.kql_cells.specs.declared.value.Value.{Value}
use Rattle.kql_scalar_fns.specs.Choice.{is_null}
use Rattle.kql_bound.specs.declared.parts.JoinKind.{JoinKind}
use Rattle.kql_bound.specs.declared.parts.JoinKind.TheVariants as join
use Rattle.kql_bound.specs.declared.parts.JoinPlan.{JoinPlan}
use Rattle.kql_bound.specs.declared.parts.OnPair.{OnPair}
use Rattle.kql_meaning.specs.Groups.{firsts_of_keys}
use Rattle.kql_meaning.specs.Items.{cells_in, without}
use Rattle.kql_meaning.specs.Tables.{absent_row, cell, is_name_among, names_of, places}
use Rattle.kql_meaning.specs.Values.{same_key}

-- Whether two values match as keys.
unfoldable pub keys_match : Value → Value → Bool
keys_match v w = same_key v w && not (is_null v)

-- Whether row i of the left table and row j of the right table match.
unfoldable pub rows_match : List OnPair → Grid → Grid → ℕ → ℕ → Bool
rows_match on a b i j = list_all (λ (pair : OnPair). keys_match (cell a i pair.left) (cell b j pair.right)) on

-- The right rows that match row i of the left table, in right order.
unfoldable pub matches_right : List OnPair → Grid → Grid → ℕ → List ℕ
matches_right on a b i = filter (rows_match on a b i) (places b)

-- The left rows that match row j of the right table, in left order.
unfoldable pub matches_left : List OnPair → Grid → Grid → ℕ → List ℕ
matches_left on a b j = filter (λ i. rows_match on a b i j) (places a)

-- Whether a row of the left, or of the right table has a match.
unfoldable pub has_right : List OnPair → Grid → Grid → ℕ → Bool
has_right on a b i = list_any (rows_match on a b i) (places b)

unfoldable pub has_left : List OnPair → Grid → Grid → ℕ → Bool
has_left on a b j = list_any (λ i. rows_match on a b i j) (places a)

-- The columns that a join shows of its right table: `lookup` leaves out the right keys.
unfoldable pub shown_columns : JoinPlan → List Column → List Column
shown_columns j columns = if j.lookup then without (map (λ (pair : OnPair). pair.right) j.on) columns else columns

-- The cells of a right row that are shown.
unfoldable pub shown_row : JoinPlan → Grid → ℕ → List Value
shown_row j b k = cells_in (shown_columns j b.columns) b k

-- A left and a right row side by side; a left row without, and a right row without a match.
unfoldable pub both_rows : JoinPlan → Grid → Grid → ℕ → ℕ → List Value
both_rows j a b i k = row_at a.lines i ++ shown_row j b k

unfoldable pub left_alone : JoinPlan → Grid → Grid → ℕ → List Value
left_alone j a b i = row_at a.lines i ++ absent_row (shown_columns j b.columns)

unfoldable pub right_alone : JoinPlan → Grid → Grid → ℕ → List Value
right_alone j a b k = absent_row a.columns ++ shown_row j b k

-- These rows, or one where there is none.
unfoldable pub or_one : List (List Value) → List Value → List (List Value)
or_one [] row = row ∷ []
or_one (r ∷ rs) row = r ∷ rs

-- The rows that a left row gives with its matches, in right order, and those that a right row gives with its, in left order.
unfoldable pub pairs_of_left : JoinPlan → Grid → Grid → ℕ → List (List Value)
pairs_of_left j a b i = map (both_rows j a b i) (matches_right j.on a b i)

unfoldable pub pairs_of_right : JoinPlan → Grid → Grid → ℕ → List (List Value)
pairs_of_right j a b k = map (λ i. both_rows j a b i k) (matches_left j.on a b k)

-- For each left row, its matches in right order.
unfoldable pub inner_rows : JoinPlan → Grid → Grid → List (List Value)
inner_rows j a b = flat_map (pairs_of_left j a b) (places a)

-- As inner; a left row without a match stands in its place with absent right columns.
unfoldable pub left_outer_rows : JoinPlan → Grid → Grid → List (List Value)
left_outer_rows j a b = flat_map (λ i. or_one (pairs_of_left j a b i) (left_alone j a b i)) (places a)

-- For each right row, its matches in left order; a right row without a match stands in its place with absent left columns.
unfoldable pub right_outer_rows : JoinPlan → Grid → Grid → List (List Value)
right_outer_rows j a b = flat_map (λ k. or_one (pairs_of_right j a b k) (right_alone j a b k)) (places b)

-- The right rows without a match, in right order.
unfoldable pub unmatched_right_rows : JoinPlan → Grid → Grid → List (List Value)
unmatched_right_rows j a b = map (right_alone j a b) (filter (λ k. not (has_left j.on a b k)) (places b))

-- The left key of a row.
unfoldable pub left_key : List OnPair → Grid → ℕ → List Value
left_key on a i = map (λ (pair : OnPair). cell a i pair.left) on

-- The rows of each kind. The default, innerunique, is inner over the first left row of each key.
unfoldable pub join_rows : JoinKind → JoinPlan → Grid → Grid → List (List Value)
join_rows join.InnerUnique j a b = inner_rows j (firsts_of_keys (left_key j.on a) a) b
join_rows join.Inner j a b = inner_rows j a b
join_rows join.LeftOuter j a b = left_outer_rows j a b
join_rows join.RightOuter j a b = right_outer_rows j a b
join_rows join.FullOuter j a b = left_outer_rows j a b ++ unmatched_right_rows j a b
join_rows join.LeftSemi j a b = map (row_at a.lines) (filter (has_right j.on a b) (places a))
join_rows join.LeftAnti j a b = map (row_at a.lines) (filter (λ i. not (has_right j.on a b i)) (places a))
join_rows join.RightSemi j a b = map (row_at b.lines) (filter (has_left j.on a b) (places b))
join_rows join.RightAnti j a b = map (row_at b.lines) (filter (λ k. not (has_left j.on a b k)) (places b))

-- A name with each number from 1 at its end; one more than there are names, so that one of them is free.
unfoldable pub numbered_names : List (List ℕ) → List ℕ → List (List ℕ)
numbered_names taken name = map (λ n. name ++ decimal n) (range_with_len 1 (suc (length taken)))

-- A name with the smallest number at its end that gives a name that is none of these.
unfoldable pub first_free : List (List ℕ) → List ℕ → List ℕ
first_free taken name = unwrap_or (find (λ n. not (is_name_among taken n)) (numbered_names taken name)) name

-- The name of a right column: its own, or where that stands in the result already, with the smallest number at its end that gives a
-- name not yet in the result.
unfoldable pub free_name : List (List ℕ) → List ℕ → List ℕ
free_name taken name = if is_name_among taken name then first_free taken name else name

-- The right columns under the names that they get, one after another.
unfoldable pub renamed : List (List ℕ) → List Column → List Column
renamed taken [] = []
renamed taken (c ∷ cs) = record { name = free_name taken c.name; kind = c.kind } ∷ renamed (taken ++ free_name taken c.name ∷ []) cs

-- The left columns, and then the right ones.
unfoldable pub both_columns : JoinPlan → List Column → List Column → List Column
both_columns j left right = left ++ renamed (names_of left) (shown_columns j right)

-- The columns of each kind: semi and anti kinds give one side's.
unfoldable pub join_columns : JoinKind → JoinPlan → List Column → List Column → List Column
join_columns join.LeftSemi j left right = left
join_columns join.LeftAnti j left right = left
join_columns join.RightSemi j left right = right
join_columns join.RightAnti j left right = right
join_columns _ j left right = both_columns j left right

unfoldable pub join_table : JoinPlan → Grid → Grid → Grid
join_table j a b = record { columns = join_columns j.kind j a.columns b.columns; lines = join_rows j.kind j a b }

-- The groups of a range of a table's rows, with what the aggregates keep of each.
use Rattle.std.specs.Prelude.{◌≡◌, ◌≤◌, ◌<◌, ◌-◌, ◌==◌, ◌&&◌, ◌++◌, ℕ, ℤ, All, true, List, [], ◌∷◌, filter, length, map, slice_get, take, if◌then◌else◌, FitsSigned, None, Option, Some}
use Rattle.std.specs.Int.{w64}
use Rattle.std.specs.List.{AllByRecursion, range_with_len}
use Rattle.kql_cells.specs.Keys.{same_keys}
use Rattle.kql_cells.specs.Table.{Grid, gathered}
use Rattle.kql_cells.specs.declared.schema.Column.{Column}
use Rattle.kql_cells.specs.declared.value.Value.{Value}
use Rattle.kql_values.specs.Grids.{HaveLength, row_of}
use Rattle.kql_keys.specs.Numbers.{distinct}
use Rattle.kql_keys.specs.Places.{places_of}
use Rattle.kql_functions.specs.declared.aggregate.Aggregate.{Aggregate}
use Rattle.kql_bound.specs.declared.expr.BExpr.{BExpr}
use Rattle.kql_bound.specs.declared.parts.BItem.{BItem}
use Rattle.kql_bound.specs.declared.parts.GroupPlan.{GroupPlan}
use Rattle.kql_meaning.specs.Expressions.{val, values_in}
use Rattle.kql_meaning.specs.FittingOperators.{summarize_fits}
use Rattle.kql_meaning.specs.Groups.{key_by}
use Rattle.kql_meaning.specs.Items.{items_values}
use Rattle.kql_meaning.specs.Values.{number_of}
use Rattle.kql_scalar_fns.specs.Arguments.{argument}
use Rattle.kql_fit_laws.specs.LawsOfRows.{IsTable}
use Rattle.kql_scalar.specs.Rows.{rows}
use Rattle.agg_folds.specs.Calls.{call_of, needs}
use Rattle.agg_folds.specs.Folds.{chosen_row, folded}
use Rattle.agg_folds.specs.States.{Kept, fold_of, place_in}
use Rattle.agg_folds.specs.declared.call.FoldCall.{FoldCall}
use Rattle.summarize_op.specs.Grouped.{AreFormed}
use Rattle.summarize_op.specs.Passes.{group_args}
use Rattle.summarize_pieces.specs.Calls.{calls_of, further_args}

-- The keys of the rows of a range, each once, in order of first occurrence. Without keys all rows are one group, also where there is none.
unfoldable pub keys_in : List BItem → Grid → ℕ → ℕ → List (List Value)
keys_in [] t from to = [] ∷ []
keys_in (key ∷ keys) t from to = distinct same_keys (map (key_by (key ∷ keys) t) (rows from to))

-- The rows of a range that have a key.
unfoldable pub rows_with : List BItem → Grid → ℕ → ℕ → List Value → List ℕ
rows_with keys t from to k = filter (λ i. same_keys (key_by keys t i) k) (rows from to)

-- What the arguments that a call reads are at a row and at rows.

unfoldable pub args_of : Aggregate × List BExpr → Grid → ℕ → List Value
args_of (f, args) t i = values_in (take (needs f) args) t i []

unfoldable pub args_at : Aggregate × List BExpr → Grid → List ℕ → List (List Value)
args_at c t is = map (args_of c t) is

unfoldable pub call_over : Aggregate × List BExpr → List Column → FoldCall
call_over (f, args) columns = call_of f args columns

-- What is kept of a call over rows: its fold, and the values of its further columns at the row that is chosen, where there is a row.

pub record GroupKept : Type 0 where
  pub kept : Kept
  pub further : List Value

unfoldable pub further_at : List BExpr → Grid → Option ℕ → List Value
further_at es t None = []
further_at es t (Some i) = values_in es t i []

unfoldable pub state_at : Aggregate × List BExpr → Grid → List ℕ → GroupKept
state_at c t is = record {
  kept = fold_of (call_over c t.columns) (args_at c t is);
  further = further_at (further_args c) t (slice_get is (chosen_row (call_over c t.columns) (args_at c t is)));
}

unfoldable pub state_in : Aggregate × List BExpr → List BItem → Grid → ℕ → ℕ → List Value → GroupKept
state_in c keys t from to k = state_at c t (rows_with keys t from to k)

-- What a call gives for the rows of a range that have a key.
unfoldable pub value_for : Aggregate × List BExpr → List BItem → Grid → ℕ → ℕ → List Value → Value
value_for c keys t from to k = folded (call_over c t.columns) (args_at c t (rows_with keys t from to k))

-- The row of a key: the key, and behind it what the items give for the rows that have it.
unfoldable pub group_line : GroupPlan → Grid → List Value → List Value
group_line g t k = k ++ items_values g.items (gathered t (rows_with g.keys t 0 (length t.lines) k)) 0

-- What is known of groups: how many rows they are made of, how many values a key has, the key of each group in their order, the calls, and
-- for each of these what is kept of each group.
pub record Grouped : Type 0 where
  pub count : ℕ
  pub width : ℕ
  pub keys : List (List Value)
  pub calls : List FoldCall
  pub states : List (List GroupKept)

-- The groups of the rows of a range.
unfoldable pub groups_in : GroupPlan → Grid → ℕ → ℕ → Grouped
groups_in g t from to = record {
  count = to - from;
  width = length g.keys;
  keys = keys_in g.keys t from to;
  calls = map (λ c. call_over c t.columns) (calls_of g.items);
  states = map (λ c. map (state_in c g.keys t from to) (keys_in g.keys t from to)) (calls_of g.items);
}

-- The first argument of each call is stored at each row of a range: a number there has 64 bits.
pub record AreStored (g : GroupPlan) (t : Grid) (from to : ℕ) : Type 0 where
  pub each : AllByRecursion (λ c. (i : ℕ) → from ≤ i → i < to → (n : ℤ) → number_of (argument (args_of c t i) 0) ≡ Some n → FitsSigned w64 n) (calls_of g.items)

-- What groups are: those of the rows of a range.
pub record AreGroupsOf (g : GroupPlan) (t : Grid) (from to : ℕ) (x : Grouped) : Type 0 where
  pub groups : x ≡ groups_in g t from to
  pub stored : AreStored g t from to

-- Groups of a range of a table, and of the range behind it.
pub record AreNeighbours (a b : Grouped) : Type 0 where
  pub plan : GroupPlan
  pub table : Grid
  pub from : ℕ
  pub middle : ℕ
  pub to : ℕ
  pub fits : summarize_fits plan table.columns ≡ true
  pub whole : IsTable table
  pub first : from ≤ middle
  pub second : middle ≤ to
  pub range : to ≤ length table.lines
  pub left : AreGroupsOf plan table from middle a
  pub right : AreGroupsOf plan table middle to b

-- The groups of all rows of some table with these columns.
pub record AreAllGroups (g : GroupPlan) (columns : List Column) (x : Grouped) : Type 0 where
  pub table : Grid
  pub whole : IsTable table
  pub named : table.columns ≡ columns
  pub groups : x ≡ groups_in g table 0 (length table.lines)

-- For each call what is kept of each group, and of more groups than so many.
pub record AreAligned (k : ℕ) (calls : List FoldCall) (states : List (List GroupKept)) : Type 0 where
  pub many : length calls ≡ length states
  pub each : All (λ s. k < length s) states

-- The values of further columns that are kept of a group, for each call.

unfoldable pub kept_row : Option GroupKept → List Value
kept_row None = []
kept_row (Some s) = s.further

unfoldable pub kept_rows : List (List GroupKept) → ℕ → List (List Value)
kept_rows states k = map (λ s. kept_row (slice_get s k)) states

-- What is read of the rows of a range before they are grouped: how many values a key has, the key of each row, and for each call the values
-- of the arguments that it reads and of its further columns.

pub record Called : Type 0 where
  pub call : FoldCall
  pub columns : List (List Value)
  pub further : List (List Value)

pub record Piece : Type 0 where
  pub width : ℕ
  pub keys : List (List Value)
  pub calls : List Called

unfoldable pub values_along : BExpr → Grid → ℕ → ℕ → List Value
values_along e t from to = map (λ i. val e t i []) (rows from to)

unfoldable pub columns_along : List BExpr → Grid → ℕ → ℕ → List (List Value)
columns_along es t from to = map (λ e. values_along e t from to) es

unfoldable pub called : Grid → ℕ → ℕ → Aggregate × List BExpr → Called
called t from to (f, args) = record {
  call = call_of f args t.columns;
  columns = columns_along (take (needs f) args) t from to;
  further = columns_along (further_args (f, args)) t from to;
}

unfoldable pub piece_of : GroupPlan → Grid → ℕ → ℕ → Piece
piece_of g t from to = record {
  width = length g.keys;
  keys = map (key_by g.keys t) (rows from to);
  calls = map (called t from to) (calls_of g.items);
}

-- Without keys all rows are one group, also where there is none.
unfoldable pub group_keys : ℕ → List (List Value) → List (List Value)
group_keys width keys = if (width == 0) && (length keys == 0) then [] ∷ [] else distinct same_keys keys

-- Columns of so many well formed values.
pub record CanBeFolded (count : ℕ) (c : Called) : Type 0 where
  pub long : HaveLength count c.columns
  pub form : AreFormed c.columns
  pub further : HaveLength count c.further

-- What is kept of the rows of a number, and of those of each of so many.

unfoldable pub cells_of : List (List Value) → Option ℕ → List Value
cells_of columns None = []
cells_of columns (Some i) = row_of columns i

-- What is kept of a fold: with it, what columns have at the row that it chose of these.
unfoldable pub group_of : List (List Value) → List ℕ → Kept → GroupKept
group_of columns rows k = record { kept = k; further = cells_of columns (slice_get rows (place_in k.state)) }

-- The numbers of the rows that columns are read at: none where there is no column.
unfoldable pub numbers_read : List (List Value) → List ℕ → List ℕ
numbers_read [] numbers = []
numbers_read (column ∷ columns) numbers = numbers

unfoldable pub group_state : Called → List ℕ → ℕ → GroupKept
group_state c numbers g = record {
  kept = fold_of c.call (group_args c.columns numbers g);
  further = cells_of c.further (slice_get (places_of numbers g) (chosen_row c.call (group_args c.columns numbers g)));
}

unfoldable pub group_states : Called → List ℕ → ℕ → List GroupKept
group_states c numbers count = map (group_state c numbers) (range_with_len 0 count)

pub record ColumnsStored (count : ℕ) (columns : List (List Value)) : Type 0 where
  pub each : (i : ℕ) → i < count → (n : ℤ) → number_of (argument (row_of columns i) 0) ≡ Some n → FitsSigned w64 n

-- A piece that was read of a table with a plan that fits its columns.
pub record IsRead (p : Piece) : Type 0 where
  pub plan : GroupPlan
  pub table : Grid
  pub from : ℕ
  pub to : ℕ
  pub fits : summarize_fits plan table.columns ≡ true
  pub whole : IsTable table
  pub order : from ≤ to
  pub range : to ≤ length table.lines
  pub piece : p ≡ piece_of plan table from to

-- Worked examples: small tables, and what the definitions make of them.
use Rattle.std.specs.Prelude.{◌≡◌, ℕ, Bool, true, false, List, [], ◌∷◌, Some, codes, map, pos, negsuc}
use Rattle.kql_cells.specs.Table.{Grid}
use Rattle.kql_cells.specs.declared.schema.Column.{Column}
use Rattle.kql_cells.specs.declared.value.Kind.TheVariants as kind
use Rattle.kql_cells.specs.declared.value.Value.{Value}
use Rattle.kql_cells.specs.declared.value.Value.TheVariants as value
use Rattle.kql_bound.specs.declared.parts.JoinKind.{JoinKind}
use Rattle.kql_bound.specs.declared.parts.JoinKind.TheVariants as kind_of_join
use Rattle.kql_bound.specs.declared.parts.JoinPlan.{JoinPlan}
use Rattle.kql_bound.specs.declared.parts.PatItem.{PatItem}
use Rattle.kql_bound.specs.declared.parts.PatItem.TheVariants as item
use Rattle.kql_functions.specs.declared.func.ComparisonFunc.{ComparisonFunc}
use Rattle.kql_functions.specs.declared.func.ComparisonFunc.TheVariants as comparison
use Rattle.kql_functions.specs.declared.func.Func.TheVariants as func
use Rattle.kql_functions.specs.declared.aggregate.Aggregate.{Aggregate}
use Rattle.kql_functions.specs.declared.aggregate.Aggregate.TheVariants as aggregate
use Rattle.kql_bound.specs.declared.expr.BExpr.{BExpr}
use Rattle.kql_bound.specs.declared.expr.BExpr.TheVariants as expr
use Rattle.kql_functions.specs.declared.window.Window.TheVariants as window
use Rattle.kql_cells.specs.declared.dynamic.Dyn.{Dyn}
use Rattle.kql_cells.specs.declared.dynamic.Dyn.TheVariants as dyn
use Rattle.kql_dynamic.specs.Arrays.{array}
use Rattle.kql_bound.specs.declared.literal.Lit.{Lit}
use Rattle.kql_bound.specs.declared.parts.BItem.{BItem}
use Rattle.kql_bound.specs.declared.parts.BKey.{BKey}
use Rattle.kql_bound.specs.declared.parts.Expand.{Expand}
use Rattle.kql_bound.specs.declared.parts.ParsePlan.{ParsePlan}
use Rattle.kql_bound.specs.declared.parts.SeriesPlan.{SeriesPlan}
use Rattle.kql_meaning.specs.Extend.{extend_table}
use Rattle.kql_meaning.specs.Summarize.{group_rows}
use Rattle.kql_meaning.specs.Where.{where_table}
use Rattle.kql_bound.specs.declared.parts.Output.{Output}
use Rattle.kql_bound.specs.declared.parts.Output.TheVariants as output
use Rattle.kql_bound.specs.declared.parts.ScanPlan.{ScanPlan}
use Rattle.kql_functions.specs.declared.func.SearchPlace.TheVariants as place
use Rattle.kql_texts.specs.declared.folding.Fold.TheVariants as fold_of
use Rattle.kql_meaning.specs.Scan.{scan_table}
use Rattle.kql_meaning.specs.MakeSeries.{series_table}
use Rattle.kql_meaning.specs.MvExpand.{expand_table}
use Rattle.kql_meaning.specs.Sort.{sort_table, top_table}
use Rattle.kql_meaning.specs.Cuts.{cut}
use Rattle.kql_meaning.specs.Join.{join_columns, join_rows}
use Rattle.kql_meaning.specs.Numbers.{terms}
use Rattle.kql_meaning.specs.Parse.{cut_values, parse_table}
use Rattle.kql_meaning.specs.Partition.{partition_table}
use Rattle.kql_meaning.specs.TakeAndCount.{count_table, take_table}
use Rattle.kql_meaning.specs.Union.{union_table}

-- A table of these columns and rows.
abbrev pub table : List Column → List (List Value) → Grid
table columns lines = record { columns = columns; lines = lines }

abbrev pub longs : List ℕ → Column
longs name = record { name = name; kind = kind.Long }

abbrev pub strings : List ℕ → Column
strings name = record { name = name; kind = kind.Text }

abbrev pub dynamics : List ℕ → Column
dynamics name = record { name = name; kind = kind.Dynamic }

abbrev pub n : ℕ → Value
n k = value.Long (pos k)

abbrev pub t : List ℕ → Value
t text = value.Text text

abbrev pub null : Value
null = value.Null

-- Joins.

-- k:long, v: 1 x, 1 y, null b, 3 z.
abbrev pub left : Grid
left = table (longs (codes "k") ∷ strings (codes "v") ∷ [])
    ((n 1 ∷ t (codes "x") ∷ []) ∷ (n 1 ∷ t (codes "y") ∷ []) ∷ (null ∷ t (codes "b") ∷ []) ∷ (n 3 ∷ t (codes "z") ∷ []) ∷ [])

-- k:long, w: null p, 1 q, 2 r, 1 s.
abbrev pub right : Grid
right = table (longs (codes "k") ∷ strings (codes "w") ∷ [])
    ((null ∷ t (codes "p") ∷ []) ∷ (n 1 ∷ t (codes "q") ∷ []) ∷ (n 2 ∷ t (codes "r") ∷ []) ∷ (n 1 ∷ t (codes "s") ∷ []) ∷ [])

-- On k.
abbrev pub on_k : JoinKind → Bool → JoinPlan
on_k kind lookup = record { kind = kind; lookup = lookup; «on» = record { left = codes "k"; right = codes "k" } ∷ [] }

-- The rows that a kind of join gives of them.
abbrev pub joined : JoinKind → List (List Value)
joined kind = join_rows kind (on_k kind false) left right

abbrev pub both : Value → List ℕ → Value → List ℕ → List Value
both k v l w = k ∷ t v ∷ l ∷ t w ∷ []

abbrev pub one : Value → List ℕ → List Value
one k v = k ∷ t v ∷ []

abbrev pub JoinInner : Type 0
JoinInner = joined kind_of_join.Inner ≡
    (both (n 1) (codes "x") (n 1) (codes "q") ∷ both (n 1) (codes "x") (n 1) (codes "s") ∷ both (n 1) (codes "y") (n 1) (codes "q") ∷ both (n 1) (codes "y") (n 1) (codes "s") ∷ [])

abbrev pub JoinInnerUnique : Type 0
JoinInnerUnique = joined kind_of_join.InnerUnique ≡ (both (n 1) (codes "x") (n 1) (codes "q") ∷ both (n 1) (codes "x") (n 1) (codes "s") ∷ [])

abbrev pub JoinLeftOuter : Type 0
JoinLeftOuter = joined kind_of_join.LeftOuter ≡
    (both (n 1) (codes "x") (n 1) (codes "q") ∷ both (n 1) (codes "x") (n 1) (codes "s") ∷ both (n 1) (codes "y") (n 1) (codes "q") ∷ both (n 1) (codes "y") (n 1) (codes "s") ∷ both null (codes "b") null [] ∷ both (n 3) (codes "z") null [] ∷ [])

abbrev pub JoinRightOuter : Type 0
JoinRightOuter = joined kind_of_join.RightOuter ≡
    (both null [] null (codes "p") ∷ both (n 1) (codes "x") (n 1) (codes "q") ∷ both (n 1) (codes "y") (n 1) (codes "q") ∷ both null [] (n 2) (codes "r") ∷ both (n 1) (codes "x") (n 1) (codes "s") ∷ both (n 1) (codes "y") (n 1) (codes "s") ∷ [])

abbrev pub JoinFullOuter : Type 0
JoinFullOuter = joined kind_of_join.FullOuter ≡
    (both (n 1) (codes "x") (n 1) (codes "q") ∷ both (n 1) (codes "x") (n 1) (codes "s") ∷ both (n 1) (codes "y") (n 1) (codes "q") ∷ both (n 1) (codes "y") (n 1) (codes "s") ∷ both null (codes "b") null [] ∷ both (n 3) (codes "z") null [] ∷ both null [] null (codes "p") ∷ both null [] (n 2) (codes "r") ∷ [])

abbrev pub JoinSemis : Type 0
JoinSemis = (joined kind_of_join.LeftSemi ≡ (one (n 1) (codes "x") ∷ one (n 1) (codes "y") ∷ [])) × (joined kind_of_join.RightSemi ≡ (one (n 1) (codes "q") ∷ one (n 1) (codes "s") ∷ []))

abbrev pub JoinAntis : Type 0
JoinAntis = (joined kind_of_join.LeftAnti ≡ (one null (codes "b") ∷ one (n 3) (codes "z") ∷ [])) × (joined kind_of_join.RightAnti ≡ (one null (codes "p") ∷ one (n 2) (codes "r") ∷ []))

-- The columns: a right name that stands there already gets the smallest free number; `lookup` leaves out the right keys.
abbrev pub JoinColumns : Type 0
JoinColumns = join_columns kind_of_join.Inner (on_k kind_of_join.Inner false) left.columns right.columns ≡ (longs (codes "k") ∷ strings (codes "v") ∷ longs (codes "k1") ∷ strings (codes "w") ∷ [])

abbrev pub LookupColumns : Type 0
LookupColumns = join_columns kind_of_join.LeftOuter (on_k kind_of_join.LeftOuter true) left.columns right.columns ≡ (longs (codes "k") ∷ strings (codes "v") ∷ strings (codes "w") ∷ [])

abbrev pub LookupRows : Type 0
LookupRows = join_rows kind_of_join.Inner (on_k kind_of_join.Inner true) left right ≡
    ((n 1 ∷ t (codes "x") ∷ t (codes "q") ∷ []) ∷ (n 1 ∷ t (codes "x") ∷ t (codes "s") ∷ []) ∷ (n 1 ∷ t (codes "y") ∷ t (codes "q") ∷ []) ∷ (n 1 ∷ t (codes "y") ∷ t (codes "s") ∷ []) ∷ [])

-- Partition: the first row of each key, keys in order of first occurrence; null is a key.
abbrev pub PartitionTakesFirsts : Type 0
PartitionTakesFirsts = partition_table (codes "k") (take_table 1) left ≡ table left.columns (one (n 1) (codes "x") ∷ one null (codes "b") ∷ one (n 3) (codes "z") ∷ [])

abbrev pub PartitionCounts : Type 0
PartitionCounts = partition_table (codes "k") count_table right ≡ table (longs (codes "Count") ∷ []) ((n 1 ∷ []) ∷ (n 2 ∷ []) ∷ (n 1 ∷ []) ∷ [])

-- Union.
abbrev pub UnionOuter : Type 0
UnionOuter = union_table false (take_table 1 left) (take_table 2 right ∷ []) ≡ table (longs (codes "k") ∷ strings (codes "v") ∷ strings (codes "w") ∷ [])
    ((n 1 ∷ t (codes "x") ∷ t [] ∷ []) ∷ (null ∷ t [] ∷ t (codes "p") ∷ []) ∷ (n 1 ∷ t [] ∷ t (codes "q") ∷ []) ∷ [])

abbrev pub UnionInner : Type 0
UnionInner = union_table true (take_table 1 left) (take_table 2 right ∷ []) ≡ table (longs (codes "k") ∷ []) ((n 1 ∷ []) ∷ (null ∷ []) ∷ (n 1 ∷ []) ∷ [])

-- Range: 1, 3 and 5.
abbrev pub RangeTerms : Type 0
RangeTerms = terms (pos 1) (pos 5) (pos 2) ≡ (pos 1 ∷ pos 3 ∷ pos 5 ∷ [])

-- Parse: `id=x id=42 end`, by `* "id=" Id:long " " Rest`.
abbrev pub message : List ℕ
message = codes "id=x id=42 end"

abbrev pub pattern : List PatItem
pattern = item.Star ∷ item.Literal (codes "id=") ∷ item.Column (codes "Id") kind.Long ∷ item.Literal (codes " ") ∷ item.Column (codes "Rest") kind.Text ∷ []

abbrev pub ParseSimple : Type 0
ParseSimple = cut_values pattern message (cut false pattern message) ≡ (n 42 ∷ t (codes "end") ∷ [])

abbrev pub ParseRelaxed : Type 0
ParseRelaxed = cut_values pattern message (cut true pattern message) ≡ (null ∷ t (codes "id=42 end") ∷ [])

-- The same by `* "id=" Id:long *`.
abbrev pub number_then_star : List PatItem
number_then_star = item.Star ∷ item.Literal (codes "id=") ∷ item.Column (codes "Id") kind.Long ∷ item.Star ∷ []

abbrev pub ParseNumber : Type 0
ParseNumber = cut_values number_then_star message (cut false number_then_star message) ≡ (n 42 ∷ [])

-- Expressions.
abbrev pub column : List ℕ → BExpr
column name = expr.Column name

abbrev pub literal : ℕ → BExpr
literal k = expr.Literal (record { kind = kind.Long; value = n k })

abbrev pub compared : ComparisonFunc → BExpr → BExpr → BExpr
compared f a b = expr.Call (func.Comparison f) (a ∷ b ∷ [])

abbrev pub named : List ℕ → BExpr → BItem
named name e = record { names = name ∷ []; expr = e }

abbrev pub aggregate_of : Aggregate → List ℕ → BExpr
aggregate_of f name = expr.Aggregate f (column name ∷ [])

-- Where: x:long is 1, null, 2. `x != 1` keeps the null and 2; `x == 1` keeps 1 alone.
abbrev pub some_longs : Grid
some_longs = table (longs (codes "x") ∷ []) ((n 1 ∷ []) ∷ (null ∷ []) ∷ (n 2 ∷ []) ∷ [])

abbrev pub WhereNotOne : Type 0
WhereNotOne = where_table (compared comparison.NotEqual (column (codes "x")) (literal 1)) some_longs ≡ table some_longs.columns ((null ∷ []) ∷ (n 2 ∷ []) ∷ [])

abbrev pub WhereNull : Type 0
WhereNull = where_table (compared comparison.Equal (column (codes "x")) (expr.Literal (record { kind = kind.Long; value = null }))) some_longs ≡ table some_longs.columns []

-- Windows: g, x:long is a 1, a 2, b 3, b null, b 4. `row_cumsum(x, g != prev(g))` and `prev(x, 1, -1)`.
abbrev pub runs : Grid
runs = table (strings (codes "g") ∷ longs (codes "x") ∷ [])
    ((t (codes "a") ∷ n 1 ∷ []) ∷ (t (codes "a") ∷ n 2 ∷ []) ∷ (t (codes "b") ∷ n 3 ∷ []) ∷ (t (codes "b") ∷ null ∷ []) ∷ (t (codes "b") ∷ n 4 ∷ []) ∷ [])

abbrev pub other_group : BExpr
other_group = compared comparison.NotEqual (column (codes "g")) (expr.Window window.Prev (column (codes "g") ∷ []))

abbrev pub running : BItem
running = named (codes "s") (expr.Window window.RowCumsum (column (codes "x") ∷ other_group ∷ []))

abbrev pub before : BItem
before = named (codes "p") (expr.Window window.Prev (column (codes "x") ∷ literal 1 ∷ expr.Literal (record { kind = kind.Long; value = value.Long (negsuc 0) }) ∷ []))

abbrev pub ExtendWindows : Type 0
ExtendWindows = (extend_table (running ∷ before ∷ []) runs).lines ≡
    ((t (codes "a") ∷ n 1 ∷ n 1 ∷ value.Long (negsuc 0) ∷ []) ∷ (t (codes "a") ∷ n 2 ∷ n 3 ∷ n 1 ∷ []) ∷ (t (codes "b") ∷ n 3 ∷ n 3 ∷ n 2 ∷ []) ∷ (t (codes "b") ∷ null ∷ n 3 ∷ n 3 ∷ []) ∷ (t (codes "b") ∷ n 4 ∷ n 7 ∷ null ∷ []) ∷ [])

-- Its columns: those of the table, and then those of the items, each of the type of its item.
abbrev pub WindowColumns : Type 0
WindowColumns = (extend_table (running ∷ before ∷ []) runs).columns ≡ (strings (codes "g") ∷ longs (codes "x") ∷ longs (codes "s") ∷ longs (codes "p") ∷ [])

-- `next(x)`, `next(x, 2, -1)` and `next(g)`: the x of row 4 is null, and behind the end of the table stands the default, else null or
-- the empty text.
abbrev pub minus_one : BExpr
minus_one = expr.Literal (record { kind = kind.Long; value = value.Long (negsuc 0) })

abbrev pub x_after : BItem
x_after = named (codes "u") (expr.Window window.Next (column (codes "x") ∷ []))

abbrev pub x_two_after : BItem
x_two_after = named (codes "w") (expr.Window window.Next (column (codes "x") ∷ literal 2 ∷ minus_one ∷ []))

abbrev pub g_after : BItem
g_after = named (codes "h") (expr.Window window.Next (column (codes "g") ∷ []))

abbrev pub ExtendNext : Type 0
ExtendNext = extend_table (x_after ∷ x_two_after ∷ g_after ∷ []) runs ≡
    table (strings (codes "g") ∷ longs (codes "x") ∷ longs (codes "u") ∷ longs (codes "w") ∷ strings (codes "h") ∷ [])
    ((t (codes "a") ∷ n 1 ∷ n 2 ∷ n 3 ∷ t (codes "a") ∷ []) ∷ (t (codes "a") ∷ n 2 ∷ n 3 ∷ null ∷ t (codes "b") ∷ []) ∷ (t (codes "b") ∷ n 3 ∷ null ∷ n 4 ∷ t (codes "b") ∷ []) ∷ (t (codes "b") ∷ null ∷ n 4 ∷ value.Long (negsuc 0) ∷ t (codes "b") ∷ []) ∷ (t (codes "b") ∷ n 4 ∷ null ∷ value.Long (negsuc 0) ∷ t [] ∷ []) ∷ [])

-- `row_number(1, g != prev(g))`, `row_number(5)`, `row_number()` and `row_number(long(null))`.
abbrev pub number_in_group : BItem
number_in_group = named (codes "r") (expr.Window window.RowNumber (literal 1 ∷ other_group ∷ []))

abbrev pub number_from_five : BItem
number_from_five = named (codes "q") (expr.Window window.RowNumber (literal 5 ∷ []))

abbrev pub number_from_one : BItem
number_from_one = named (codes "o") (expr.Window window.RowNumber [])

abbrev pub number_from_null : BItem
number_from_null = named (codes "z") (expr.Window window.RowNumber (expr.Literal (record { kind = kind.Long; value = null }) ∷ []))

abbrev pub ExtendRowNumbers : Type 0
ExtendRowNumbers = extend_table (number_in_group ∷ number_from_five ∷ number_from_one ∷ number_from_null ∷ []) runs ≡
    table (strings (codes "g") ∷ longs (codes "x") ∷ longs (codes "r") ∷ longs (codes "q") ∷ longs (codes "o") ∷ longs (codes "z") ∷ [])
    ((t (codes "a") ∷ n 1 ∷ n 1 ∷ n 5 ∷ n 1 ∷ null ∷ []) ∷ (t (codes "a") ∷ n 2 ∷ n 2 ∷ n 6 ∷ n 2 ∷ null ∷ []) ∷ (t (codes "b") ∷ n 3 ∷ n 1 ∷ n 7 ∷ n 3 ∷ null ∷ []) ∷ (t (codes "b") ∷ null ∷ n 2 ∷ n 8 ∷ n 4 ∷ null ∷ []) ∷ (t (codes "b") ∷ n 4 ∷ n 3 ∷ n 9 ∷ n 5 ∷ null ∷ []) ∷ [])

-- Summarize: by g, how many rows and the sum of x; and the sum where it passes the greatest long on the way.
abbrev pub SummarizeByGroup : Type 0
SummarizeByGroup = group_rows (named (codes "g") (column (codes "g")) ∷ []) (named (codes "count_") (expr.Aggregate aggregate.Count []) ∷ named (codes "sum_x") (aggregate_of aggregate.Sum (codes "x")) ∷ []) runs ≡
    ((t (codes "a") ∷ n 2 ∷ n 3 ∷ []) ∷ (t (codes "b") ∷ n 3 ∷ n 7 ∷ []) ∷ [])

abbrev pub greatest_first : Grid
greatest_first = table (longs (codes "x") ∷ []) ((n 9223372036854775807 ∷ []) ∷ (n 1 ∷ []) ∷ (value.Long (negsuc 0) ∷ []) ∷ [])

abbrev pub SummarizeExactly : Type 0
SummarizeExactly = group_rows [] (named (codes "sum_x") (aggregate_of aggregate.Sum (codes "x")) ∷ []) greatest_first ≡ ((n 9223372036854775807 ∷ []) ∷ [])

abbrev pub SummarizeNothing : Type 0
SummarizeNothing = group_rows [] (named (codes "sum_x") (aggregate_of aggregate.Sum (codes "x")) ∷ []) (table (longs (codes "x") ∷ []) []) ≡ ((n 0 ∷ []) ∷ [])

-- Scan: i:long, e is 1 A, 2 AB, 3 B, 4 B. Step s1 takes an A and sets n to 1; step s2 takes a B and sets n to the i of s1.
abbrev pub events : Grid
events = table (longs (codes "i") ∷ strings (codes "e") ∷ []) ((n 1 ∷ t (codes "A") ∷ []) ∷ (n 2 ∷ t (codes "AB") ∷ []) ∷ (n 3 ∷ t (codes "B") ∷ []) ∷ (n 4 ∷ t (codes "B") ∷ []) ∷ [])

abbrev pub has_letter : List ℕ → BExpr
has_letter letter = expr.Call (func.Search (record { place = place.Anywhere; «fold» = fold_of.Exact; negated = false })) (column (codes "e") ∷ expr.Literal (record { kind = kind.Text; value = t letter }) ∷ [])

abbrev pub i_of_s1 : BExpr
i_of_s1 = expr.Step (record { step = codes "s1"; column = codes "i"; number = 1; place = 0; default = record { kind = kind.Long; value = null } })

abbrev pub two_steps : ScanPlan
two_steps = record {
  match_id = Some (codes "m");
  declared = record { name = codes "n"; default = record { kind = kind.Long; value = n 0 } } ∷ [];
  steps = record { name = codes "s1"; output = output.All; condition = has_letter (codes "A"); sets = named (codes "n") (literal 1) ∷ [] }
      ∷ record { name = codes "s2"; output = output.All; condition = has_letter (codes "B"); sets = named (codes "n") i_of_s1 ∷ [] } ∷ [];
}

abbrev pub matched : ℕ → List ℕ → ℕ → ℕ → List Value
matched i e k id = n i ∷ t e ∷ n k ∷ n id ∷ []

abbrev pub ScanTwoSteps : Type 0
ScanTwoSteps = (scan_table two_steps events).lines ≡
    (matched 1 (codes "A") 1 0 ∷ matched 2 (codes "AB") 1 0 ∷ matched 2 (codes "AB") 1 1 ∷ matched 3 (codes "B") 2 1 ∷ matched 4 (codes "B") 2 1 ∷ [])

-- Its columns: those of the table, the declared one, and the match id.
abbrev pub ScanColumns : Type 0
ScanColumns = (scan_table two_steps events).columns ≡ (longs (codes "i") ∷ strings (codes "e") ∷ longs (codes "n") ∷ longs (codes "m") ∷ [])

-- The same two conditions over the same rows, without a declared column, where the steps have these outputs.
abbrev pub two_letters : Output → Output → ScanPlan
two_letters one two = record {
  match_id = Some (codes "m");
  declared = [];
  steps = record { name = codes "s1"; output = one; condition = has_letter (codes "A"); sets = [] }
      ∷ record { name = codes "s2"; output = two; condition = has_letter (codes "B"); sets = [] } ∷ [];
}

abbrev pub seen : ℕ → List ℕ → ℕ → List Value
seen i e id = n i ∷ t e ∷ n id ∷ []

abbrev pub all_seen : List (List Value) → Grid
all_seen lines = table (longs (codes "i") ∷ strings (codes "e") ∷ longs (codes "m") ∷ []) lines

-- The record of s1 is emitted when it goes on to s2.
abbrev pub ScanLastOfFirst : Type 0
ScanLastOfFirst = scan_table (two_letters output.Last output.All) events ≡
    all_seen (seen 1 (codes "A") 0 ∷ seen 2 (codes "AB") 0 ∷ seen 2 (codes "AB") 1 ∷ seen 3 (codes "B") 1 ∷ seen 4 (codes "B") 1 ∷ [])

-- The record of s2 is emitted when the next sequence comes there, and at the end; the one at row 3 is replaced.
abbrev pub ScanLastOfSecond : Type 0
ScanLastOfSecond = scan_table (two_letters output.All output.Last) events ≡
    all_seen (seen 1 (codes "A") 0 ∷ seen 2 (codes "AB") 1 ∷ seen 2 (codes "AB") 0 ∷ seen 4 (codes "B") 1 ∷ [])

-- At row 3 the record that is cleared goes before the one that goes on.
abbrev pub ScanLastOfBoth : Type 0
ScanLastOfBoth = scan_table (two_letters output.Last output.Last) events ≡
    all_seen (seen 1 (codes "A") 0 ∷ seen 2 (codes "AB") 0 ∷ seen 2 (codes "AB") 1 ∷ seen 4 (codes "B") 1 ∷ [])

-- A step that emits nothing.
abbrev pub ScanNoneOfFirst : Type 0
ScanNoneOfFirst = scan_table (two_letters output.Nothing output.All) events ≡
    all_seen (seen 2 (codes "AB") 0 ∷ seen 3 (codes "B") 1 ∷ seen 4 (codes "B") 1 ∷ [])

abbrev pub ScanNoneOfSecond : Type 0
ScanNoneOfSecond = scan_table (two_letters output.All output.Nothing) events ≡
    all_seen (seen 1 (codes "A") 0 ∷ seen 2 (codes "AB") 1 ∷ [])

-- A, A, B, A: s1 begins a new sequence at row 2, and its old record goes before it is replaced; at the end both steps hold a record, and
-- they go in the order of the steps.
abbrev pub letters_again : Grid
letters_again = table (longs (codes "i") ∷ strings (codes "e") ∷ []) ((n 1 ∷ t (codes "A") ∷ []) ∷ (n 2 ∷ t (codes "A") ∷ []) ∷ (n 3 ∷ t (codes "B") ∷ []) ∷ (n 4 ∷ t (codes "A") ∷ []) ∷ [])

abbrev pub ScanLastAtEnd : Type 0
ScanLastAtEnd = scan_table (two_letters output.Last output.Last) letters_again ≡
    all_seen (seen 1 (codes "A") 0 ∷ seen 2 (codes "A") 1 ∷ seen 4 (codes "A") 2 ∷ seen 3 (codes "B") 1 ∷ [])

-- Sort, over the keys 2, null, 1, 2, null.
abbrev pub keyed : Grid
keyed = table (longs (codes "k") ∷ strings (codes "v") ∷ [])
    (one (n 2) (codes "a") ∷ one null (codes "b") ∷ one (n 1) (codes "c") ∷ one (n 2) (codes "d") ∷ one null (codes "e") ∷ [])

abbrev pub by_k : Bool → Bool → BKey
by_k asc nulls_first = record { expr = column (codes "k"); asc = asc; nulls_first = nulls_first }

abbrev pub SortAscending : Type 0
SortAscending = (sort_table (by_k true true ∷ []) keyed).lines ≡
    (one null (codes "b") ∷ one null (codes "e") ∷ one (n 1) (codes "c") ∷ one (n 2) (codes "a") ∷ one (n 2) (codes "d") ∷ [])

abbrev pub SortDescending : Type 0
SortDescending = (sort_table (by_k false false ∷ []) keyed).lines ≡
    (one (n 2) (codes "a") ∷ one (n 2) (codes "d") ∷ one (n 1) (codes "c") ∷ one null (codes "b") ∷ one null (codes "e") ∷ [])

abbrev pub SortNullsFirst : Type 0
SortNullsFirst = (sort_table (by_k false true ∷ []) keyed).lines ≡
    (one null (codes "b") ∷ one null (codes "e") ∷ one (n 2) (codes "a") ∷ one (n 2) (codes "d") ∷ one (n 1) (codes "c") ∷ [])

abbrev pub TopTwo : Type 0
TopTwo = (top_table 2 (by_k false false ∷ []) keyed).lines ≡ (one (n 2) (codes "a") ∷ one (n 2) (codes "d") ∷ [])

-- The row of the greatest key: the first of two.
abbrev pub SummarizeGreatest : Type 0
SummarizeGreatest = group_rows [] (record { names = codes "k" ∷ codes "v" ∷ []; expr = expr.Aggregate aggregate.ArgMax (column (codes "k") ∷ column (codes "v") ∷ []) } ∷ []) keyed ≡ (one (n 2) (codes "a") ∷ [])

-- Make-series: t:long, g, x:long, in bins of 5 from 0 to 10 with 9 for an empty one; the row at 12 is left out.
abbrev pub timed : Grid
timed = table (longs (codes "t") ∷ strings (codes "g") ∷ longs (codes "x") ∷ [])
    ((n 1 ∷ t (codes "a") ∷ n 5 ∷ []) ∷ (n 2 ∷ t (codes "a") ∷ n 6 ∷ []) ∷ (n 7 ∷ t (codes "a") ∷ n 1 ∷ []) ∷ (n 12 ∷ t (codes "a") ∷ n 9 ∷ []) ∷ (n 3 ∷ t (codes "b") ∷ n 2 ∷ []) ∷ [])

abbrev pub of_longs : List ℕ → Value
of_longs ks = array (map (λ k. dyn.Long (pos k)) ks)

abbrev pub long_literal : ℕ → Lit
long_literal k = record { kind = kind.Long; value = n k }

abbrev pub bins_of_five : SeriesPlan
bins_of_five = record {
  items = record { name = codes "s"; expr = aggregate_of aggregate.Sum (codes "x"); default = long_literal 9 } ∷ [];
  axis = codes "t";
  from = long_literal 0;
  to = long_literal 10;
  step = long_literal 5;
  keys = named (codes "g") (column (codes "g")) ∷ [];
}

abbrev pub SeriesOfSums : Type 0
SeriesOfSums = (series_table bins_of_five timed).lines ≡ ((t (codes "a") ∷ of_longs (11 ∷ 1 ∷ []) ∷ of_longs (0 ∷ 5 ∷ []) ∷ []) ∷ (t (codes "b") ∷ of_longs (2 ∷ 9 ∷ []) ∷ of_longs (0 ∷ 5 ∷ []) ∷ []) ∷ [])

-- Its columns: the key, the array of the sums, and the array of the bins in the name of the axis.
abbrev pub SeriesColumns : Type 0
SeriesColumns = (series_table bins_of_five timed).columns ≡ (strings (codes "g") ∷ dynamics (codes "s") ∷ dynamics (codes "t") ∷ [])

-- Mv-expand: a and b are `[1,2]` and `[7,8,9]`, `[]` and `[]`, null and 5.
abbrev pub array_of : List ℕ → Value
array_of ks = value.Dynamic (dyn.Array (map (λ k. dyn.Long (pos k)) ks))

abbrev pub dynamic_long : ℕ → Value
dynamic_long k = value.Dynamic (dyn.Long (pos k))

abbrev pub lists : Grid
lists = table (record { name = codes "a"; kind = kind.Dynamic } ∷ record { name = codes "b"; kind = kind.Dynamic } ∷ [])
    ((array_of (1 ∷ 2 ∷ []) ∷ array_of (7 ∷ 8 ∷ 9 ∷ []) ∷ []) ∷ (array_of [] ∷ array_of [] ∷ []) ∷ (null ∷ dynamic_long 5 ∷ []) ∷ [])

abbrev pub both_lists : Expand
both_lists = record {
  array = false;
  items = record { name = codes "a"; expr = column (codes "a"); to = kind.Dynamic } ∷ record { name = codes "b"; expr = column (codes "b"); to = kind.Dynamic } ∷ [];
}

abbrev pub ExpandBoth : Type 0
ExpandBoth = (expand_table both_lists lists).lines ≡
    ((dynamic_long 1 ∷ dynamic_long 7 ∷ []) ∷ (dynamic_long 2 ∷ dynamic_long 8 ∷ []) ∷ (null ∷ dynamic_long 9 ∷ []) ∷ (null ∷ dynamic_long 5 ∷ []) ∷ [])

abbrev pub ExpandColumns : Type 0
ExpandColumns = (expand_table both_lists lists).columns ≡ (dynamics (codes "a") ∷ dynamics (codes "b") ∷ [])

-- A bag, of which each entry is a bag of its own, or `[key, value]`.
abbrev pub entry : List ℕ → ℕ → List ℕ × Dyn
entry key k = (key, dyn.Long (pos k))

abbrev pub bag_of : List (List ℕ × Dyn) → Value
bag_of entries = value.Dynamic (dyn.Bag entries)

abbrev pub pair_of : List ℕ → ℕ → Value
pair_of key k = value.Dynamic (dyn.Array (dyn.Text key ∷ dyn.Long (pos k) ∷ []))

abbrev pub bags : Grid
bags = table (dynamics (codes "d") ∷ []) ((bag_of (entry (codes "a") 2 ∷ entry (codes "b") 1 ∷ []) ∷ []) ∷ [])

abbrev pub parts_of_d : Bool → Expand
parts_of_d array = record { array = array; items = record { name = codes "d"; expr = column (codes "d"); to = kind.Dynamic } ∷ [] }

abbrev pub ExpandBag : Type 0
ExpandBag = expand_table (parts_of_d false) bags ≡ table (dynamics (codes "d") ∷ []) ((bag_of (entry (codes "a") 2 ∷ []) ∷ []) ∷ (bag_of (entry (codes "b") 1 ∷ []) ∷ []) ∷ [])

abbrev pub ExpandBagAsArrays : Type 0
ExpandBagAsArrays = expand_table (parts_of_d true) bags ≡ table (dynamics (codes "d") ∷ []) ((pair_of (codes "a") 2 ∷ []) ∷ (pair_of (codes "b") 1 ∷ []) ∷ [])

-- `[1,"7","x",true]` and null, as longs: in a column c of their own, and in the place of a.
abbrev pub dynamic_text : List ℕ → Value
dynamic_text text = value.Dynamic (dyn.Text text)

abbrev pub mixed : Value
mixed = value.Dynamic (dyn.Array (dyn.Long (pos 1) ∷ dyn.Text (codes "7") ∷ dyn.Text (codes "x") ∷ dyn.Bool true ∷ []))

abbrev pub mixed_lists : Grid
mixed_lists = table (longs (codes "i") ∷ dynamics (codes "a") ∷ strings (codes "v") ∷ []) ((n 1 ∷ mixed ∷ t (codes "p") ∷ []) ∷ (n 2 ∷ null ∷ t (codes "q") ∷ []) ∷ [])

abbrev pub as_longs : List ℕ → Expand
as_longs name = record { array = false; items = record { name = name; expr = column (codes "a"); to = kind.Long } ∷ [] }

abbrev pub ExpandToLong : Type 0
ExpandToLong = expand_table (as_longs (codes "c")) mixed_lists ≡ table (longs (codes "i") ∷ dynamics (codes "a") ∷ strings (codes "v") ∷ longs (codes "c") ∷ [])
    ((n 1 ∷ mixed ∷ t (codes "p") ∷ n 1 ∷ []) ∷ (n 1 ∷ mixed ∷ t (codes "p") ∷ n 7 ∷ []) ∷ (n 1 ∷ mixed ∷ t (codes "p") ∷ null ∷ []) ∷ (n 1 ∷ mixed ∷ t (codes "p") ∷ n 1 ∷ []) ∷ (n 2 ∷ null ∷ t (codes "q") ∷ null ∷ []) ∷ [])

abbrev pub ExpandInPlaceToLong : Type 0
ExpandInPlaceToLong = expand_table (as_longs (codes "a")) mixed_lists ≡ table (longs (codes "i") ∷ longs (codes "a") ∷ strings (codes "v") ∷ [])
    ((n 1 ∷ n 1 ∷ t (codes "p") ∷ []) ∷ (n 1 ∷ n 7 ∷ t (codes "p") ∷ []) ∷ (n 1 ∷ null ∷ t (codes "p") ∷ []) ∷ (n 1 ∷ n 1 ∷ t (codes "p") ∷ []) ∷ (n 2 ∷ null ∷ t (codes "q") ∷ []) ∷ [])

-- The whole of a parse, where m is that message: its columns, and its one row.
abbrev pub messages : Grid
messages = table (strings (codes "m") ∷ []) ((t message ∷ []) ∷ [])

abbrev pub by_pattern : Bool → ParsePlan
by_pattern relaxed = record { relaxed = relaxed; text = column (codes "m"); pattern = pattern }

abbrev pub ParseMessage : Type 0
ParseMessage = parse_table (by_pattern false) messages ≡ table (strings (codes "m") ∷ longs (codes "Id") ∷ strings (codes "Rest") ∷ []) ((t message ∷ n 42 ∷ t (codes "end") ∷ []) ∷ [])

abbrev pub ParseMessageRelaxed : Type 0
ParseMessageRelaxed = parse_table (by_pattern true) messages ≡ table (strings (codes "m") ∷ longs (codes "Id") ∷ strings (codes "Rest") ∷ []) ((t message ∷ null ∷ t (codes "id=42 end") ∷ []) ∷ [])

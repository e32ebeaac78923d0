-- The type and the value of an expression.
use Rattle.std.specs.Prelude.{ℕ, ◌-◌, List, [], ◌∷◌, Option, None, Some, bytes_eq, find, fold, map, option_and_then, option_map, slice_index_or}
use Rattle.kql_cells.specs.Table.{Grid}
use Rattle.kql_cells.specs.declared.schema.Column.{Column}
use Rattle.kql_cells.specs.declared.value.Kind.{Kind}
use Rattle.kql_cells.specs.declared.value.Kind.TheVariants as kind
use Rattle.kql_cells.specs.declared.value.Value.{Value}
use Rattle.kql_functions.specs.declared.func.DynamicFunc.TheVariants as dynamic
use Rattle.kql_functions.specs.declared.func.Func.{Func}
use Rattle.kql_functions.specs.declared.func.Func.TheVariants as func
use Rattle.kql_scalar_fns.specs.Applied.{applied}
use Rattle.kql_functions.specs.Kinds.{result_kind}
use Rattle.kql_bound.specs.Signs.{sign_func}
use Rattle.kql_functions.specs.declared.aggregate.Aggregate.{Aggregate}
use Rattle.kql_functions.specs.declared.aggregate.Aggregate.TheVariants as aggregate
use Rattle.kql_bound.specs.declared.expr.BExpr.{BExpr, fold-BExpr}
use Rattle.kql_bound.specs.declared.expr.BExpr.TheOpen.{BExpr-F}
use Rattle.kql_bound.specs.declared.expr.ChainSign.{ChainSign}
use Rattle.kql_bound.specs.declared.expr.StepColumn.{StepColumn}
use Rattle.kql_functions.specs.declared.window.Window.{Window}
use Rattle.kql_functions.specs.declared.window.Window.TheVariants as window
use Rattle.kql_meaning.specs.Aggregates.{aggregated}
use Rattle.kql_meaning.specs.Readings.{Reading, Records, kinds_of, values_at}
use Rattle.kql_meaning.specs.Tables.{cell}
use Rattle.kql_meaning.specs.Windows.{windowed}

-- Types.

-- The type of the column of a name.
unfoldable pub column_kind : List ℕ → List Column → Option Kind
column_kind name columns = option_map (λ (c : Column). c.kind) (find (λ c. bytes_eq c.name name) columns)

-- The types of all arguments, where each has one.
unfoldable pub all_known : List (Option Kind) → Option (List Kind)
all_known [] = Some []
all_known (k ∷ ks) = option_and_then (λ one. option_map (λ more. one ∷ more) (all_known ks)) k

-- The type that a function gives for arguments of these types.
unfoldable pub call_kind : Func → List (Option Kind) → Option Kind
call_kind f ks = option_and_then (result_kind f) (all_known ks)

-- The type of the first argument.
unfoldable pub first_kind : List (Option Kind) → Option Kind
first_kind [] = None
first_kind (k ∷ ks) = k

-- `prev` and `next` give the type of their column, `row_cumsum` that of its term, and `row_number` a long.
unfoldable pub window_kind : Window → List (Option Kind) → Option Kind
window_kind window.RowNumber ks = Some kind.Long
window_kind _ ks = first_kind ks

-- Counts and bits are longs, lists and sets are dynamic, and all else is of the type of the first argument.
unfoldable pub aggregate_kind : Aggregate → List (Option Kind) → Option Kind
aggregate_kind aggregate.Count ks = Some kind.Long
aggregate_kind aggregate.CountIf ks = Some kind.Long
aggregate_kind aggregate.CountDistinct ks = Some kind.Long
aggregate_kind aggregate.CountDistinctIf ks = Some kind.Long
aggregate_kind aggregate.MakeList ks = Some kind.Dynamic
aggregate_kind aggregate.MakeListIf ks = Some kind.Dynamic
aggregate_kind aggregate.MakeSet ks = Some kind.Dynamic
aggregate_kind aggregate.MakeSetIf ks = Some kind.Dynamic
aggregate_kind aggregate.BinaryAllAnd ks = Some kind.Long
aggregate_kind aggregate.BinaryAllOr ks = Some kind.Long
aggregate_kind aggregate.BinaryAllXor ks = Some kind.Long
aggregate_kind _ ks = first_kind ks

-- The look into a dynamic value.
abbrev pub look : Func
look = func.Dynamic dynamic.At

-- A chain nests to the left: what stands on the left is the first argument of the next sign.
unfoldable pub chain_kind : Option Kind → List (ChainSign × Option Kind) → Option Kind
chain_kind first links = fold (λ k link. call_kind (sign_func link.0) (k ∷ link.1 ∷ [])) first links

-- So does a path: what stands on the left is looked into at the next step.
unfoldable pub path_kind : Option Kind → List (Option Kind) → Option Kind
path_kind whole steps = fold (λ k step. call_kind look (k ∷ step ∷ [])) whole steps

-- Values.

-- The value of a chain, from those of its parts.
unfoldable pub chain_value : Value → List (ChainSign × Value) → Value
chain_value first links = fold (λ v link. applied (sign_func link.0) (v ∷ link.1 ∷ [])) first links

-- The value of a path, from those of its parts.
unfoldable pub path_value : Value → List Value → Value
path_value whole steps = fold (λ v step. applied look (v ∷ step ∷ [])) whole steps

-- A column of the record that is held for a step; the default where none is held.
unfoldable pub recorded : Option (List Value) → ℕ → Value → Value
recorded None place default = default
recorded (Some record_held) place default = slice_index_or record_held place default

-- `s.c`, where the step's number counts from 1.
unfoldable pub step_value : StepColumn → Records → Value
step_value c s = recorded (slice_index_or s (c.number - 1) None) c.place c.default.value

-- How an expression reads, from how its parts read.
abbrev pub reading_step : BExpr-F Reading → Reading
reading_step (BExpr-F.Literal l) = record { kind = λ columns. Some l.kind; at = λ t i s. l.value }
reading_step (BExpr-F.Column n) = record { kind = λ columns. column_kind n columns; at = λ t i s. cell t i n }
reading_step (BExpr-F.Step c) = record { kind = λ columns. Some c.default.kind; at = λ t i s. step_value c s }
reading_step (BExpr-F.Call f args) = record { kind = λ columns. call_kind f (kinds_of args columns); at = λ t i s. applied f (values_at args t i s) }
reading_step (BExpr-F.Chain first links) = record {
  kind = λ columns. chain_kind (first.kind columns) (map (λ (l : ChainSign × Reading). (l.0, l.1.kind columns)) links);
  at = λ t i s. chain_value (first.at t i s) (map (λ (l : ChainSign × Reading). (l.0, l.1.at t i s)) links);
}
reading_step (BExpr-F.Path whole steps) = record { kind = λ columns. path_kind (whole.kind columns) (kinds_of steps columns); at = λ t i s. path_value (whole.at t i s) (values_at steps t i s) }
reading_step (BExpr-F.Window f args) = record { kind = λ columns. window_kind f (kinds_of args columns); at = λ t i s. windowed f args t i s }
reading_step (BExpr-F.Aggregate f args) = record { kind = λ columns. aggregate_kind f (kinds_of args columns); at = λ t i s. aggregated f args t s }

-- How an expression reads over a table.
unfoldable pub reading : BExpr → Reading
reading = fold-BExpr Reading reading_step

-- The type of an expression over these columns.
unfoldable pub kind_of : BExpr → List Column → Option Kind
kind_of e columns = (reading e).kind columns

-- The value of an expression at row i of a table, with step records.
unfoldable pub val : BExpr → Grid → ℕ → Records → Value
val e t i s = (reading e).at t i s

-- The types of expressions.
unfoldable pub kinds_in : List BExpr → List Column → List (Option Kind)
kinds_in es columns = map (λ e. kind_of e columns) es

-- The type of a chain and of a path, from that of its first part and the expressions behind it.
unfoldable pub kind_along : List (ChainSign × BExpr) → List Column → Option Kind → Option Kind
kind_along links columns first = chain_kind first (map (λ (l : ChainSign × BExpr). (l.0, kind_of l.1 columns)) links)

unfoldable pub kind_down : List BExpr → List Column → Option Kind → Option Kind
kind_down steps columns whole = path_kind whole (kinds_in steps columns)

-- The values of expressions at a row.
unfoldable pub values_in : List BExpr → Grid → ℕ → Records → List Value
values_in es t i s = map (λ e. val e t i s) es

-- The value of a chain and of a path, from that of its first part and the expressions behind it.
unfoldable pub value_along : List (ChainSign × BExpr) → Grid → ℕ → Records → Value → Value
value_along links t i s first = chain_value first (map (λ (l : ChainSign × BExpr). (l.0, val l.1 t i s)) links)

unfoldable pub value_down : List BExpr → Grid → ℕ → Records → Value → Value
value_down steps t i s whole = path_value whole (values_in steps t i s)

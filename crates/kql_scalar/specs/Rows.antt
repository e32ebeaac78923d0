-- The rows of a range, and the places at which a part is true.
use Rattle.std.specs.Prelude.{◌≡◌, ℕ, ◌-◌, ◌<◌, Bool, List, [], ◌∷◌, Some, All, filter, fold, length}
use Rattle.std.specs.List.{range_with_len}
use Rattle.kql_cells.specs.Table.{Grid}
use Rattle.kql_cells.specs.Values.{IsWellFormed}
use Rattle.kql_cells.specs.declared.value.Value.{Value}
use Rattle.kql_functions.specs.declared.func.ComparisonFunc.{ComparisonFunc}
use Rattle.kql_functions.specs.declared.func.Func.{Func}
use Rattle.kql_functions.specs.declared.func.Func.TheVariants as func
use Rattle.kql_scalar_fns.specs.Applied.{applied}
use Rattle.kql_bound.specs.declared.expr.BExpr.{BExpr}
use Rattle.kql_meaning.specs.Expressions.{val}
use Rattle.kql_meaning.specs.Readings.{Records}
use Rattle.kql_meaning.specs.Tables.{cell_in}
use Rattle.kql_meaning.specs.Values.{holds}
use Rattle.kql_scalar.specs.Evaluated.{values_of}
use Rattle.kql_scalar.specs.Means.{means}
use Rattle.kql_scalar.specs.declared.node.Node.{Node}

-- The rows of a range, in order.
unfoldable pub rows : ℕ → ℕ → List ℕ
rows from to = range_with_len from (to - from)

-- Whether an expression is true at a row with step records, and outside scan.
unfoldable pub passes_with : BExpr → Grid → ℕ → Records → Bool
passes_with e t i s = holds (val e t i s)

unfoldable pub passes : BExpr → Grid → ℕ → Bool
passes e t i = holds (val e t i [])

-- Whether a call is.
unfoldable pub call_passes : Func → List Node → Grid → ℕ → Bool
call_passes f args t i = holds (applied f (values_of args t i []))

-- Those of these places at which all parts are true: each narrows what the parts before it left.
unfoldable pub passing_all : List Node → Grid → List ℕ → List ℕ
passing_all ns t places = fold (λ left n. filter (passes (means n) t) left) places ns

-- Whether a comparison of two values is true.
unfoldable pub compares : ComparisonFunc → Value → Value → Bool
compares f v w = holds (applied (func.Comparison f) (v ∷ w ∷ []))

-- The same of the cell in a column at a row, and a value.
unfoldable pub cell_compares : ComparisonFunc → Grid → ℕ → Value → ℕ → Bool
cell_compares f t place w i = compares f (cell_in t i (Some place)) w

-- Places below a count.
pub record AreBelow (count : ℕ) (places : List ℕ) : Type 0 where
  pub each : All (λ i. i < count) places

-- Two arguments that are a column and a constant.
pub record IsColumnTest (args : List Node) (t : Grid) (place : ℕ) (v : Value) : Type 0 where
  pub within : place < length t.columns
  pub form : IsWellFormed v
  pub values : (i : ℕ) → values_of args t i [] ≡ cell_in t i (Some place) ∷ v ∷ []

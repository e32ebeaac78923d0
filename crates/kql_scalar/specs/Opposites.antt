-- Comparisons whose opposite is a comparison.
use Rattle.std.specs.Prelude.{◌≡◌, ℕ, List}
use Rattle.kql_cells.specs.Table.{Grid}
use Rattle.kql_functions.specs.declared.func.ComparisonFunc.{ComparisonFunc}
use Rattle.kql_functions.specs.declared.func.ComparisonFunc.TheVariants as comparison_func
use Rattle.kql_functions.specs.declared.func.Func.TheVariants as func
use Rattle.kql_functions.specs.declared.func.LogicFunc.TheVariants as logic_func
use Rattle.kql_scalar.specs.Means.{ArePlaced}
use Rattle.kql_scalar.specs.Rows.{call_passes}
use Rattle.kql_scalar.specs.declared.node.Node.{Node}

-- The comparison that is true where another is false, and not known where that is not known.
unfoldable pub opposite_of : ComparisonFunc → ComparisonFunc
opposite_of comparison_func.Equal = comparison_func.NotEqual
opposite_of comparison_func.NotEqual = comparison_func.Equal
opposite_of comparison_func.Less = comparison_func.AtLeast
opposite_of comparison_func.AtMost = comparison_func.Greater
opposite_of comparison_func.Greater = comparison_func.AtMost
opposite_of comparison_func.AtLeast = comparison_func.Less
opposite_of comparison_func.EqualText = comparison_func.NotEqualText
opposite_of comparison_func.NotEqualText = comparison_func.EqualText
opposite_of comparison_func.In = comparison_func.NotIn
opposite_of comparison_func.NotIn = comparison_func.In
opposite_of comparison_func.InTexts = comparison_func.NotInTexts
opposite_of comparison_func.NotInTexts = comparison_func.InTexts
opposite_of comparison_func.Between = comparison_func.NotBetween
opposite_of comparison_func.NotBetween = comparison_func.Between

-- The opposite of an argument is a comparison of these parts.
pub record IsOpposite (args : List Node) (t : Grid) (f : ComparisonFunc) (parts : List Node) : Type 0 where
  pub placed : ArePlaced t.columns parts
  pub values : (i : ℕ) → call_passes (func.Logic logic_func.Not) args t i ≡ call_passes (func.Comparison f) parts t i

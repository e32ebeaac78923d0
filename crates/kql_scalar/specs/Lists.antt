-- Lists of constants in which a column is looked for.
use Rattle.std.specs.Prelude.{◌≡◌, ℕ, ◌<◌, Bool, true, false, not, List, ◌∷◌, [], Option, None, Some, if◌then◌else◌, length, refl}
use Rattle.std.specs.Bool.{one_answer}
use Rattle.std.specs.Cmp.{IsEquivalence}
use Rattle.std.proofs.Common.{ap, sym}
use Rattle.kql_cells.specs.Keys.{same_key, same_key-decides}
use Rattle.kql_cells.specs.Table.{Grid}
use Rattle.kql_cells.specs.declared.value.Value.{Value}
use Rattle.kql_functions.specs.declared.func.ComparisonFunc.{ComparisonFunc}
use Rattle.kql_functions.specs.declared.func.ComparisonFunc.TheVariants as comparison_func
use Rattle.kql_scalar_fns.specs.Arguments.{AreWellFormed}
use Rattle.kql_meaning.specs.Tables.{cell_in}
use Rattle.kql_scalar.specs.Evaluated.{values_of}
use Rattle.kql_scalar.specs.declared.node.Node.{Node}

pub same_key-equiv : IsEquivalence same_key
same_key-equiv = record {
  refl = λ x. (same_key-decides x x).1 refl;
  symm = λ x y. one_answer (same_key x y) (same_key y x) (same_key-decides x y) (λ e. sym ((same_key-decides y x).0 e), λ p. (same_key-decides y x).1 (sym p));
  congr = λ x y z e. ap (λ w. same_key w z) ((same_key-decides x y).0 e);
}

-- what is the same has the same of everything
pub same_key-alike : {X : Type 0} (f : Value → X) (x y : Value) → same_key x y ≡ true → f x ≡ f y
same_key-alike f x y e = ap f ((same_key-decides x y).0 e)

-- Whether a comparison looks into a list by case, and then whether its answer is turned round.
unfoldable pub list_sign : ComparisonFunc → Option Bool
list_sign comparison_func.In = Some false
list_sign comparison_func.NotIn = Some true
list_sign _ = None

unfoldable pub turned : Bool → Bool → Bool
turned negated b = if negated then not b else b

-- Parts that have these values at every row.
pub record AreConstants (parts : List Node) (t : Grid) (constants : List Value) : Type 0 where
  pub values : (i : ℕ) → values_of parts t i [] ≡ constants
  pub form : AreWellFormed constants

-- Arguments that are a column and constants.
pub record IsListTest (args : List Node) (t : Grid) (place : ℕ) (operands : List Value) : Type 0 where
  pub within : place < length t.columns
  pub values : (i : ℕ) → values_of args t i [] ≡ cell_in t i (Some place) ∷ operands

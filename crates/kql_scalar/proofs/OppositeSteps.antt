-- The opposite of a comparison is a comparison.
use Rattle.std.proofs.Common.{◌≡◌, ◌<◌, ◌≤◌, ℕ, Bool, true, false, List, [], length, get_or, filter, refl, ap, ap₂, subst, sym, ◌∙◌, arith}
use Rattle.std.specs.Prelude.{Option, Some, None, not, option_map}
use Rattle.std.specs.Ordering.{is_ge, is_gt, is_le, is_lt}
use Rattle.std.specs.declared.cmp.Ordering.{Ordering}
use Rattle.std.specs.declared.cmp.Ordering.TheVariants as ordering
use Rattle.std.proofs.lemmas.List.Elements.{filter_agree}
use Rattle.kql_cells.specs.Table.{Grid}
use Rattle.kql_cells.specs.declared.value.Value.{Value}
use Rattle.kql_cells.specs.declared.value.Value.TheVariants as value
use Rattle.kql_functions.specs.declared.func.ComparisonFunc.{ComparisonFunc}
use Rattle.kql_functions.specs.declared.func.ComparisonFunc.TheVariants as comparison_func
use Rattle.kql_functions.specs.declared.func.Func.{Func}
use Rattle.kql_functions.specs.declared.func.Func.TheVariants as func
use Rattle.kql_functions.specs.declared.func.LogicFunc.TheVariants as logic_func
use Rattle.kql_scalar_fns.specs.Applied.{applied}
use Rattle.kql_scalar_fns.specs.Arguments.{argument, bool_or_null}
use Rattle.kql_scalar_fns.specs.Comparison.{comparison}
use Rattle.kql_scalar_fns.specs.Logic.{logic, opposite, truth}
use Rattle.kql_meaning.specs.Expressions.{val}
use Rattle.kql_meaning.specs.Values.{holds}
use Rattle.kql_scalar.specs.Evaluated.{values_of}
use Rattle.kql_scalar.specs.Means.{ArePlaced, means}
use Rattle.kql_scalar.specs.Opposites.{IsOpposite, opposite_of}
use Rattle.kql_scalar.specs.Rows.{call_passes}
use Rattle.kql_scalar.specs.declared.node.Node.{Node}
use Rattle.kql_scalar.specs.declared.node.Node.TheVariants as N
use Rattle.kql_scalar.proofs.MeansSteps.{parts-item}
use Rattle.kql_scalar.proofs.NodeSteps.{node-Call, truth-cell, values-one}
use Rattle.kql_scalar.proofs.PartSteps.{placed_args}

not-twice : (b : Bool) → not (not b) ≡ b
not-twice true = refl
not-twice false = refl

opposite-twice : (o : Option Bool) → opposite (opposite o) ≡ o
opposite-twice None = refl
opposite-twice (Some true) = refl
opposite-twice (Some false) = refl

not-below : (o : Option Ordering) → opposite (option_map is_lt o) ≡ option_map is_ge o
not-below None = refl
not-below (Some ordering.Less) = refl
not-below (Some ordering.Equal) = refl
not-below (Some ordering.Greater) = refl

not-up-to : (o : Option Ordering) → opposite (option_map is_le o) ≡ option_map is_gt o
not-up-to None = refl
not-up-to (Some ordering.Less) = refl
not-up-to (Some ordering.Equal) = refl
not-up-to (Some ordering.Greater) = refl

not-above : (o : Option Ordering) → opposite (option_map is_gt o) ≡ option_map is_le o
not-above None = refl
not-above (Some ordering.Less) = refl
not-above (Some ordering.Equal) = refl
not-above (Some ordering.Greater) = refl

not-from : (o : Option Ordering) → opposite (option_map is_ge o) ≡ option_map is_lt o
not-from None = refl
not-from (Some ordering.Less) = refl
not-from (Some ordering.Equal) = refl
not-from (Some ordering.Greater) = refl

turned : (o p : Option Bool) → opposite o ≡ p → bool_or_null (opposite (truth (bool_or_null o))) ≡ bool_or_null p
turned o p e = ap (λ q. bool_or_null (opposite q)) (truth-cell o) ∙ ap bool_or_null e

opposite-compared : (f : ComparisonFunc) (vs : List Value) → bool_or_null (opposite (truth (comparison f vs))) ≡ comparison (opposite_of f) vs
unfolding comparison opposite_of truth
opposite-compared comparison_func.Equal vs = turned _ _ refl
opposite-compared comparison_func.NotEqual vs = turned _ _ (opposite-twice _)
opposite-compared comparison_func.Less vs = turned _ _ (not-below _)
opposite-compared comparison_func.AtMost vs = turned _ _ (not-up-to _)
opposite-compared comparison_func.Greater vs = turned _ _ (not-above _)
opposite-compared comparison_func.AtLeast vs = turned _ _ (not-from _)
opposite-compared comparison_func.EqualText vs = turned _ _ refl
opposite-compared comparison_func.NotEqualText vs = turned _ _ (opposite-twice _)
opposite-compared comparison_func.In vs = refl
opposite-compared comparison_func.NotIn vs = ap value.Bool (not-twice _)
opposite-compared comparison_func.InTexts vs = refl
opposite-compared comparison_func.NotInTexts vs = ap value.Bool (not-twice _)
opposite-compared comparison_func.Between vs = turned _ _ refl
opposite-compared comparison_func.NotBetween vs = turned _ _ (opposite-twice _)

opposite-passes : (args parts : List Node) (t : Grid) (a : Node) (f : ComparisonFunc) (i : ℕ) → 1 ≤ length args → length args < 2 → a ≡ get_or args 0 a → a ≡ N.Call (func.Comparison f) parts → call_passes (func.Logic logic_func.Not) args t i ≡ call_passes (func.Comparison (opposite_of f)) parts t i
unfolding call_passes applied logic argument
opposite-passes args parts t a f i low high at is =
    ap (λ vs. holds (bool_or_null (opposite (truth (argument vs 0))))) (values-one args a t i [] low high at)
    ∙ (ap (λ v. holds (bool_or_null (opposite (truth v)))) (ap (λ n. val (means n) t i []) is ∙ node-Call (func.Comparison f) parts t i [])
    ∙ ap holds (opposite-compared f (values_of parts t i [])))

pub opposite-test : (args parts these : List Node) (t : Grid) (a : Node) (g : Func) (f h : ComparisonFunc) → ArePlaced t.columns args → 1 ≤ length args → length args < 2 → a ≡ get_or args 0 a → a ≡ N.Call g parts → g ≡ func.Comparison f → h ≡ opposite_of f → these ≡ parts → IsOpposite args t h these
opposite-test args parts these t a g f h p low high at is compares turns same =
    let placed = parts-item t.columns args 0 a at (omega arith) p in
    let whole : a ≡ N.Call (func.Comparison f) parts = is ∙ ap (λ x. N.Call x parts) compares in
    record {
      placed = subst (ArePlaced t.columns) (sym same) (placed_args t.columns a g parts placed is);
      values = λ i. opposite-passes args parts t a f i low high at whole ∙ ap₂ (λ x ns. call_passes (func.Comparison x) ns t i) (sym turns) (sym same);
    }

pub opposite-placed : (args parts : List Node) (t : Grid) (f : ComparisonFunc) → IsOpposite args t f parts → ArePlaced t.columns parts
opposite-placed args parts t f h = h.placed

pub opposite-kept : (args parts : List Node) (t : Grid) (f : ComparisonFunc) (places : List ℕ) → IsOpposite args t f parts → filter (call_passes (func.Logic logic_func.Not) args t) places ≡ filter (call_passes (func.Comparison f) parts t) places
opposite-kept args parts t f places h = filter_agree (call_passes (func.Logic logic_func.Not) args t) (call_passes (func.Comparison f) parts t) h.values places

pub ruleset opposite_steps = (opposite-test)

pub ruleset not_steps = (opposite-placed, opposite-kept)

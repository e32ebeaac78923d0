-- Places at which one of several parts is true.
use Rattle.std.proofs.Common.{◌≡◌, ◌<◌, ◌+◌, ◌&&◌, ℕ, Bool, true, false, List, [], ◌∷◌, length, take, get_or, filter, refl, ap, ap₂, subst, sym, ◌∙◌, inl, inr}
use Rattle.std.specs.Prelude.{Option, Some, None, fold, not}
use Rattle.std.specs.List.{list_all}
use Rattle.std.proofs.Math.Bool.{and-true, and_assoc}
use Rattle.std.proofs.lemmas.Bool.{cases_Bool}
use Rattle.std.proofs.lemmas.List.Elements.{filter_agree}
use Rattle.std.proofs.lemmas.List.Sums.{fold_more}
use Rattle.kql_cells.specs.Table.{Grid}
use Rattle.kql_cells.specs.declared.value.Value.{Value}
use Rattle.kql_functions.specs.declared.func.Func.TheVariants as func
use Rattle.kql_functions.specs.declared.func.LogicFunc.TheVariants as logic_func
use Rattle.kql_scalar_fns.specs.Applied.{applied}
use Rattle.kql_scalar_fns.specs.Logic.{disjunction, either, either_known, is_true, truth}
use Rattle.kql_bound.specs.declared.expr.BExpr.{BExpr}
use Rattle.kql_meaning.specs.Values.{holds}
use Rattle.kql_scalar.specs.Evaluated.{values_of}
use Rattle.kql_scalar.specs.Means.{means}
use Rattle.kql_scalar.specs.Places.{without}
use Rattle.kql_scalar.specs.Joins.{failing_all, fails}
use Rattle.kql_scalar.specs.Rows.{AreBelow, call_passes, passes}
use Rattle.kql_scalar.specs.declared.node.Node.{Node}
use Rattle.kql_scalar.proofs.NodeSteps.{logic-Or}
use Rattle.kql_scalar.proofs.PlaceSteps.{without-kept}
use Rattle.kql_scalar.proofs.RowSteps.{below-along}

filter-true : (xs : List ℕ) → filter (λ i. true) xs ≡ xs
filter-true [] = refl
filter-true (x ∷ xs) = ap (λ ys. x ∷ ys) (filter-true xs)

filter-twice : (p q : ℕ → Bool) (xs : List ℕ) → filter q (filter p xs) ≡ filter (λ i. p i && q i) xs
filter-twice p q [] = refl
filter-twice p q (x ∷ xs) = elim (cases_Bool (p x)) [
  | inl e ↦ elim (cases_Bool (q x)) [
    | inl f ↦ rw (e, f, filter-twice p q xs) refl
    | inr f ↦ rw (e, f, filter-twice p q xs) refl
  ]
  | inr e ↦ rw (e, filter-twice p q xs) refl
]

-- What one part more leaves.

pub failing-none : (t : Grid) (places : List ℕ) → failing_all [] t places ≡ places
unfolding failing_all
failing-none t places = refl

failing-step : (ns : List Node) (k : ℕ) (d : Node) (t : Grid) (places : List ℕ) → k < length ns → failing_all (take (k + 1) ns) t places ≡ filter (fails (means (get_or ns k d)) t) (failing_all (take k ns) t places)
unfolding failing_all
failing-step ns k d t places l = fold_more (λ left n. filter (fails (means n) t) left) places ns k d l

pub failing-more : (ns : List Node) (k : ℕ) (n : Node) (t : Grid) (places left after : List ℕ) → k < length ns → n ≡ get_or ns k n → left ≡ failing_all (take k ns) t places → after ≡ filter (fails (means n) t) left → after ≡ failing_all (take (k + 1) ns) t places
failing-more ns k n t places left after l is made e =
    e ∙ (ap₂ (λ m xs. filter (fails (means m) t) xs) is made ∙ sym (failing-step ns k n t places l))

pub below-same : (n : ℕ) (xs ys : List ℕ) → AreBelow n xs → ys ≡ xs → AreBelow n ys
below-same n xs ys h e = subst (AreBelow n) (sym e) h

pub left-of : (e : BExpr) (t : Grid) (places these tried taken those left : List ℕ) → these ≡ places → tried ≡ these → taken ≡ filter (passes e t) tried → those ≡ taken → left ≡ without these those → left ≡ filter (fails e t) places
unfolding fails
left-of e t places these tried taken those left same copied kept read is =
    let all : tried ≡ places = copied ∙ same in
    let out : those ≡ filter (passes e t) places = read ∙ (kept ∙ ap (filter (passes e t)) all) in
    is ∙ (ap₂ without same out ∙ without-kept (passes e t) places)

-- A disjunction is true where not all of its parts fail.

false-both : (o q : Option Bool) → not (is_true (either o q)) ≡ (not (is_true o) && not (is_true q))
false-both (Some false) q = refl
false-both (Some true) q = refl
false-both None (Some true) = refl
false-both None (Some false) = refl
false-both None None = refl

abbrev is_off : Value → Bool
is_off v = not (holds v)

false-all : (o : Option Bool) (vs : List Value) → not (is_true (fold either_known o vs)) ≡ (not (is_true o) && list_all is_off vs)
unfolding holds
false-all o [] = sym (and-true (not (is_true o)))
false-all o (v ∷ vs) = false-all (either o (truth v)) vs ∙ (ap (λ b. b && list_all is_off vs) (false-both o (truth v)) ∙ and_assoc (not (is_true o)) (not (is_true (truth v))) (list_all is_off vs))

all_fail : List Node → Grid → ℕ → Bool
all_fail ns t i = list_all is_off (values_of ns t i [])

left-over : (ns : List Node) (t : Grid) (places : List ℕ) → failing_all ns t places ≡ filter (all_fail ns t) places
unfolding failing_all fails passes values_of all_fail
left-over [] t places = sym (filter-true places)
left-over (n ∷ ns) t places =
    left-over ns t (filter (fails (means n) t) places)
    ∙ filter-twice (fails (means n) t) (all_fail ns t) places

or-fails : (args : List Node) (t : Grid) (i : ℕ) → not (call_passes (func.Logic logic_func.Or) args t i) ≡ all_fail args t i
unfolding call_passes holds all_fail applied disjunction
or-fails args t i = ap (λ o. not (is_true o)) (logic-Or (values_of args t i [])) ∙ false-all (Some false) (values_of args t i [])

not-twice : (b : Bool) → not (not b) ≡ b
not-twice true = refl
not-twice false = refl

or-passes : (args : List Node) (t : Grid) (i : ℕ) → not (all_fail args t i) ≡ call_passes (func.Logic logic_func.Or) args t i
or-passes args t i = ap not (sym (or-fails args t i)) ∙ not-twice (call_passes (func.Logic logic_func.Or) args t i)

pub or-call : (args : List Node) (t : Grid) (places left those found : List ℕ) → left ≡ failing_all args t places → those ≡ left → found ≡ without places those → found ≡ filter (call_passes (func.Logic logic_func.Or) args t) places
or-call args t places left those found made read e =
    e
    ∙ (ap (without places) (read ∙ made ∙ left-over args t places)
    ∙ (without-kept (all_fail args t) places
    ∙ filter_agree (λ i. not (all_fail args t i)) (call_passes (func.Logic logic_func.Or) args t) (or-passes args t) places))

pub ruleset join_steps = (failing-none, failing-more, below-along, below-same, or-call)

pub ruleset left_steps = (left-of, below-same)

-- The laws of `and` and `or`.
use Rattle.std.proofs.Common.{◌≡◌, ◌<◌, ◌⊎◌, ◌∙◌, Bool, true, false, List, [], ◌∷◌, refl, sym, ap, inl, inr, arith}
use Rattle.std.specs.Prelude.{Contains, fold, Option, None, Some}
use Rattle.std.proofs.lemmas.List.Elements.{All-cons, All-head, All-tail}
use Rattle.kql_cells.specs.declared.value.Value.{Value}
use Rattle.kql_cells.specs.declared.value.Value.TheVariants as value
use Rattle.kql_scalar_fns.specs.Applied.{applied}
use Rattle.kql_scalar_fns.specs.Arguments.{bool_or_null}
use Rattle.kql_scalar_fns.specs.Laws.{AndIsThreeValued, AreAll, OrIsThreeValued}
use Rattle.kql_scalar_fns.specs.Logic.{both, both_known, conjunction, disjunction, either, either_known, logic, truth}
use Rattle.kql_scalar_fns.proofs.ListFacts.{cons-cases, here, later}

truth-of : (v : Value) (b : Bool) → v ≡ value.Bool b → truth v ≡ Some b
unfolding truth
truth-of v b e = rw e refl

truth-is : (v : Value) (b : Bool) → truth v ≡ Some b → v ≡ value.Bool b
unfolding truth
truth-is value.Null b e = cc
truth-is (value.Bool a) b e = let s : a ≡ b = cc in ap value.Bool s
truth-is (value.Long a) b e = cc
truth-is (value.Text a) b e = cc
truth-is (value.Moment a) b e = cc
truth-is (value.Span a) b e = cc
truth-is (value.Dynamic a) b e = cc

known-bool : (o : Option Bool) (b : Bool) → bool_or_null o ≡ value.Bool b → o ≡ Some b
known-bool (Some a) b e = let s : a ≡ b = cc in ap Some s
known-bool None b e = cc

-- ---- `and`

both-assoc : (a b c : Option Bool) → both (both a b) c ≡ both a (both b c)
both-assoc (Some true) b c = refl
both-assoc (Some false) b c = refl
both-assoc None (Some true) c = refl
both-assoc None (Some false) c = refl
both-assoc None None (Some true) = refl
both-assoc None None (Some false) = refl
both-assoc None None None = refl

both-true : (o : Option Bool) → both o (Some true) ≡ o
both-true (Some true) = refl
both-true (Some false) = refl
both-true None = refl

both-false : (o : Option Bool) → both o (Some false) ≡ Some false
both-false (Some true) = refl
both-false (Some false) = refl
both-false None = refl

both-from : (o : Option Bool) (vs : List Value) → fold both_known o vs ≡ both o (fold both_known (Some true) vs)
both-from o [] = sym (both-true o)
both-from o (v ∷ vs) = both-from (both o (truth v)) vs ∙ (both-assoc o (truth v) (fold both_known (Some true) vs) ∙ ap (both o) (sym (both-from (truth v) vs)))

conjunction-cons : (v : Value) (vs : List Value) → conjunction (v ∷ vs) ≡ both (truth v) (conjunction vs)
unfolding conjunction
conjunction-cons v vs = both-from (truth v) vs

false-of-both : (a b : Option Bool) → both a b ≡ Some false → (a ≡ Some false) ⊎ (b ≡ Some false)
false-of-both (Some true) b e = inr e
false-of-both (Some false) b e = inl refl
false-of-both None (Some true) e = cc
false-of-both None (Some false) e = inr refl
false-of-both None None e = cc

true-of-both : (a b : Option Bool) → both a b ≡ Some true → (a ≡ Some true) × (b ≡ Some true)
true-of-both (Some true) b e = (refl, e)
true-of-both (Some false) b e = cc
true-of-both None (Some true) e = cc
true-of-both None (Some false) e = cc
true-of-both None None e = cc

some-false : (vs : List Value) → conjunction vs ≡ Some false → Contains vs (value.Bool false)
unfolding conjunction
some-false [] e = cc
some-false (v ∷ vs) e = elim (false-of-both (truth v) (conjunction vs) (sym (conjunction-cons v vs) ∙ e)) [
  | inl a ↦ here v (value.Bool false) vs (truth-is v false a)
  | inr b ↦ later v (value.Bool false) vs (some-false vs b)
]

of-false : (vs : List Value) → Contains vs (value.Bool false) → conjunction vs ≡ Some false
of-false [] h = let l : h.0 < 0 = h.1 in absurd (omega arith)
of-false (v ∷ vs) h = elim (cons-cases v (value.Bool false) vs h) [
  | inl e ↦ conjunction-cons v vs ∙ ap (λ (o : Option Bool). both o (conjunction vs)) (truth-of v false e)
  | inr t ↦ conjunction-cons v vs ∙ (ap (both (truth v)) (of-false vs t) ∙ both-false (truth v))
]

all-true : (vs : List Value) → conjunction vs ≡ Some true → AreAll true vs
all-true [] e = λ k d l. absurd (omega arith)
all-true (v ∷ vs) e =
    let p = true-of-both (truth v) (conjunction vs) (sym (conjunction-cons v vs) ∙ e) in
    All-cons (λ (w : Value). w ≡ value.Bool true) v vs (truth-is v true p.0) (all-true vs p.1)

of-true : (vs : List Value) → AreAll true vs → conjunction vs ≡ Some true
unfolding conjunction
of-true [] h = refl
of-true (v ∷ vs) h = conjunction-cons v vs ∙ (
    ap (λ (o : Option Bool). both o (conjunction vs)) (truth-of v true (All-head (λ (w : Value). w ≡ value.Bool true) v vs h))
    ∙ of-true vs (All-tail (λ (w : Value). w ≡ value.Bool true) v vs h))

and-null : (vs : List Value) (o : Option Bool) → conjunction vs ≡ o → (¬ Contains vs (value.Bool false)) → (¬ AreAll true vs) → bool_or_null o ≡ value.Null
and-null vs (Some true) e p q = absurd (q (all-true vs e))
and-null vs (Some false) e p q = absurd (p (some-false vs e))
and-null vs None e p q = refl

pub and-three : AndIsThreeValued
unfolding applied logic
and-three vs = (
  (λ e. some-false vs (known-bool (conjunction vs) false e), λ h. ap bool_or_null (of-false vs h)),
  (λ e. all-true vs (known-bool (conjunction vs) true e), λ h. ap bool_or_null (of-true vs h)),
  and-null vs (conjunction vs) refl,
)

-- ---- `or`

either-assoc : (a b c : Option Bool) → either (either a b) c ≡ either a (either b c)
either-assoc (Some false) b c = refl
either-assoc (Some true) b c = refl
either-assoc None (Some false) c = refl
either-assoc None (Some true) c = refl
either-assoc None None (Some false) = refl
either-assoc None None (Some true) = refl
either-assoc None None None = refl

either-false : (o : Option Bool) → either o (Some false) ≡ o
either-false (Some false) = refl
either-false (Some true) = refl
either-false None = refl

either-true : (o : Option Bool) → either o (Some true) ≡ Some true
either-true (Some false) = refl
either-true (Some true) = refl
either-true None = refl

either-from : (o : Option Bool) (vs : List Value) → fold either_known o vs ≡ either o (fold either_known (Some false) vs)
either-from o [] = sym (either-false o)
either-from o (v ∷ vs) = either-from (either o (truth v)) vs ∙ (either-assoc o (truth v) (fold either_known (Some false) vs) ∙ ap (either o) (sym (either-from (truth v) vs)))

disjunction-cons : (v : Value) (vs : List Value) → disjunction (v ∷ vs) ≡ either (truth v) (disjunction vs)
unfolding disjunction
disjunction-cons v vs = either-from (truth v) vs

true-of-either : (a b : Option Bool) → either a b ≡ Some true → (a ≡ Some true) ⊎ (b ≡ Some true)
true-of-either (Some false) b e = inr e
true-of-either (Some true) b e = inl refl
true-of-either None (Some false) e = cc
true-of-either None (Some true) e = inr refl
true-of-either None None e = cc

false-of-either : (a b : Option Bool) → either a b ≡ Some false → (a ≡ Some false) × (b ≡ Some false)
false-of-either (Some false) b e = (refl, e)
false-of-either (Some true) b e = cc
false-of-either None (Some false) e = cc
false-of-either None (Some true) e = cc
false-of-either None None e = cc

some-true : (vs : List Value) → disjunction vs ≡ Some true → Contains vs (value.Bool true)
unfolding disjunction
some-true [] e = cc
some-true (v ∷ vs) e = elim (true-of-either (truth v) (disjunction vs) (sym (disjunction-cons v vs) ∙ e)) [
  | inl a ↦ here v (value.Bool true) vs (truth-is v true a)
  | inr b ↦ later v (value.Bool true) vs (some-true vs b)
]

or-of-true : (vs : List Value) → Contains vs (value.Bool true) → disjunction vs ≡ Some true
or-of-true [] h = let l : h.0 < 0 = h.1 in absurd (omega arith)
or-of-true (v ∷ vs) h = elim (cons-cases v (value.Bool true) vs h) [
  | inl e ↦ disjunction-cons v vs ∙ ap (λ (o : Option Bool). either o (disjunction vs)) (truth-of v true e)
  | inr t ↦ disjunction-cons v vs ∙ (ap (either (truth v)) (or-of-true vs t) ∙ either-true (truth v))
]

all-false : (vs : List Value) → disjunction vs ≡ Some false → AreAll false vs
all-false [] e = λ k d l. absurd (omega arith)
all-false (v ∷ vs) e =
    let p = false-of-either (truth v) (disjunction vs) (sym (disjunction-cons v vs) ∙ e) in
    All-cons (λ (w : Value). w ≡ value.Bool false) v vs (truth-is v false p.0) (all-false vs p.1)

or-of-false : (vs : List Value) → AreAll false vs → disjunction vs ≡ Some false
unfolding disjunction
or-of-false [] h = refl
or-of-false (v ∷ vs) h = disjunction-cons v vs ∙ (
    ap (λ (o : Option Bool). either o (disjunction vs)) (truth-of v false (All-head (λ (w : Value). w ≡ value.Bool false) v vs h))
    ∙ or-of-false vs (All-tail (λ (w : Value). w ≡ value.Bool false) v vs h))

or-null : (vs : List Value) (o : Option Bool) → disjunction vs ≡ o → (¬ Contains vs (value.Bool true)) → (¬ AreAll false vs) → bool_or_null o ≡ value.Null
or-null vs (Some false) e p q = absurd (q (all-false vs e))
or-null vs (Some true) e p q = absurd (p (some-true vs e))
or-null vs None e p q = refl

pub or-three : OrIsThreeValued
unfolding applied logic
or-three vs = (
  (λ e. some-true vs (known-bool (disjunction vs) true e), λ h. ap bool_or_null (or-of-true vs h)),
  (λ e. all-false vs (known-bool (disjunction vs) false e), λ h. ap bool_or_null (or-of-false vs h)),
  or-null vs (disjunction vs) refl,
)

-- The laws of the sets.
use Rattle.std.proofs.Common.{◌≡◌, ◌≢◌, ◌<◌, ◌+◌, ◌⊎◌, ◌||◌, ◌&&◌, ◌++◌, ◌∷◌, ◌∙◌, Bool, true, false, not, List, [], filter, refl, sym, ap, inl, inr, arith}
use Rattle.std.specs.Prelude.{◌↔◌, All, Contains}
use Rattle.std.specs.Bool.{Decides}
use Rattle.std.specs.List.{AllPairs}
use Rattle.std.proofs.lemmas.Bool.{cases_Bool, and_parts, and_from, or_cases, or_left, or_right, not-true, both_ways}
use Rattle.std.proofs.lemmas.List.Elements.{All-weaker, filter-append, filter_passes}
use Rattle.std.proofs.lemmas.List.Folds.{list_any-append}
use Rattle.std.proofs.lemmas.List.Kept.{AllPairs-cons, AllPairs-filter}
use Rattle.std.proofs.lemmas.Map.Made.{is_member-Decides, is_member-filter}
use Rattle.kql_cells.specs.declared.dynamic.Dyn.{Dyn}
use Rattle.kql_dynamic.specs.Laws.{DifferenceHolds, DifferenceInOrder, FirstsComeFirst, IntersectHolds, IntersectInOrder, UnionHolds, UnionInOrder, count_before}
use Rattle.kql_cells.specs.Same.{same, same-decides, same-equiv}
use Rattle.kql_dynamic.specs.Sets.{distinct, is_among}
use Rattle.kql_dynamic.proofs.PartLaws.{elements-Array}
use Rattle.kql_dynamic.proofs.SetFormLaws.{among-distinct, reflexive}

not-from : (b : Bool) → (b ≡ true → ⊥) → not b ≡ true
not-from true n = absurd (n refl)
not-from false n = refl

filter-all : (ys zs : List Dyn) → filter (λ y. not (is_among [] y)) zs ≡ zs
filter-all ys [] = refl
filter-all ys (z ∷ zs) = ap (λ l. z ∷ l) (filter-all ys zs)

-- ---- each once

differs : (x y : Dyn) → not (same x y) ≡ true → x ≢ y
differs x y n e = both_ways (same x y) (not-true (same x y) n) ((same-decides x y).1 e)

pub once : (xs : List Dyn) → AllPairs (λ x y. x ≢ y) (distinct xs)
once [] = λ i j d lt in_none. absurd (omega arith)
once (x ∷ xs) =
    AllPairs-cons (λ (a b : Dyn). a ≢ b) x (filter (λ y. not (same x y)) (distinct xs))
    (All-weaker (λ (y : Dyn). not (same x y) ≡ true) (λ y. x ≢ y) (differs x) (filter (λ y. not (same x y)) (distinct xs)) (filter_passes (λ y. not (same x y)) (distinct xs)))
    (AllPairs-filter (λ (a b : Dyn). a ≢ b) (λ y. not (same x y)) (distinct xs) (once xs))

-- ---- which

member : (xs : List Dyn) (d : Dyn) → Decides (is_among xs d) (Contains xs d)
member xs d = is_member-Decides same-decides xs d

held : (zs : List Dyn) (P : Type 0) (d : Dyn) → Decides (is_among zs d) P → Contains (distinct zs) d ↔ P
held zs P d h = (λ c. h.0 (sym (among-distinct zs d) ∙ (member (distinct zs) d).1 c), λ p. (member (distinct zs) d).0 (among-distinct zs d ∙ h.1 p))

in-either : (xs ys : List Dyn) (d : Dyn) → Decides (is_among (xs ++ ys) d) (Contains xs d ⊎ Contains ys d)
in-either xs ys d =
    let split = list_any-append (same d) xs ys in (
      λ e. elim (or_cases (is_among xs d) (is_among ys d) (sym split ∙ e)) [ inl a ↦ inl ((member xs d).0 a) | inr b ↦ inr ((member ys d).0 b) ],
      λ p. split ∙ elim p [ inl a ↦ or_left (is_among xs d) (is_among ys d) ((member xs d).1 a) | inr b ↦ or_right (is_among xs d) (is_among ys d) ((member ys d).1 b) ],
    )

alike : (test : Dyn → Bool) (d x : Dyn) → same d x ≡ true → test d ≡ test x
alike test d x e = ap test ((same-decides d x).0 e)

in-both : (xs ys : List Dyn) (d : Dyn) → Decides (is_among (filter (is_among ys) xs) d) (Contains xs d × Contains ys d)
in-both xs ys d =
    let split = is_member-filter same-equiv (is_among ys) d (alike (is_among ys) d) xs in (
      λ e. let q = and_parts (is_among xs d) (is_among ys d) (sym split ∙ e) in ((member xs d).0 q.0, (member ys d).0 q.1),
      λ p. split ∙ and_from (is_among xs d) (is_among ys d) ((member xs d).1 p.0) ((member ys d).1 p.1),
    )

in-first : (xs ys : List Dyn) (d : Dyn) → Decides (is_among (filter (λ x. not (is_among ys x)) xs) d) (Contains xs d × (¬ Contains ys d))
in-first xs ys d =
    let left = λ (x : Dyn). not (is_among ys x) in
    let split = is_member-filter same-equiv left d (alike left d) xs in (
      λ e. let q = and_parts (is_among xs d) (left d) (sym split ∙ e) in ((member xs d).0 q.0, λ c. both_ways (is_among ys d) (not-true (is_among ys d) q.1) ((member ys d).1 c)),
      λ p. split ∙ and_from (is_among xs d) (left d) ((member xs d).1 p.0) (not-from (is_among ys d) (λ e. p.1 ((member ys d).0 e))),
    )

pub union-holds : UnionHolds
union-holds xs ys = (distinct (xs ++ ys), rw (elements-Array xs, elements-Array ys) refl, once (xs ++ ys), λ d. held (xs ++ ys) (Contains xs d ⊎ Contains ys d) d (in-either xs ys d))

pub intersect-holds : IntersectHolds
intersect-holds xs ys =
    (distinct (filter (is_among ys) xs), rw (elements-Array xs, elements-Array ys) refl, once (filter (is_among ys) xs), λ d. held (filter (is_among ys) xs) (Contains xs d × Contains ys d) d (in-both xs ys d))

pub difference-holds : DifferenceHolds
difference-holds xs ys =
    let left = filter (λ (x : Dyn). not (is_among ys x)) xs in
    (distinct left, rw (elements-Array xs, elements-Array ys) refl, once left, λ d. held left (Contains xs d × (¬ Contains ys d)) d (in-first xs ys d))

-- ---- where

neither : (a b : Bool) → (not a && not b) ≡ not (a || b)
neither true b = refl
neither false b = refl

filter-filter : (p q r : Dyn → Bool) → ((x : Dyn) → (p x && q x) ≡ r x) → (xs : List Dyn) → filter p (filter q xs) ≡ filter r xs
filter-filter p q r h [] = refl
filter-filter p q r h (x ∷ xs) = elim (cases_Bool (q x)) [
  | inl y ↦ elim (cases_Bool (p x)) [
    | inl t ↦ let e : r x ≡ true = sym (h x) ∙ rw (t, y) refl in rw (y, t, e) (ap (λ l. x ∷ l) (filter-filter p q r h xs))
    | inr f ↦ let e : r x ≡ false = sym (h x) ∙ rw f refl in rw (y, f, e) (filter-filter p q r h xs)
  ]
  | inr n ↦ elim (cases_Bool (p x)) [
    | inl t ↦ let e : r x ≡ false = sym (h x) ∙ rw (t, n) refl in rw (n, e) (filter-filter p q r h xs)
    | inr f ↦ let e : r x ≡ false = sym (h x) ∙ rw f refl in rw (n, e) (filter-filter p q r h xs)
  ]
]

pub firsts-come-first : FirstsComeFirst
firsts-come-first [] ys = sym (filter-all ys (distinct ys))
firsts-come-first (x ∷ xs) ys =
    let p = λ (y : Dyn). not (same x y) in
    let q = λ (y : Dyn). not (is_among xs y) in
    let r = λ (y : Dyn). not (is_among (x ∷ xs) y) in
    let joint = filter-filter p q r (λ y. neither (same x y) (is_among xs y) ∙ ap (λ b. not (b || is_among xs y)) (same-equiv.symm x y)) (distinct ys) in
    ap (λ l. x ∷ l) (ap (filter p) (firsts-come-first xs ys) ∙ (filter-append p (distinct xs) (filter q (distinct ys)) ∙ ap (λ l. filter p (distinct xs) ++ l) joint))

-- ---- in the order of the first

both-orders : (a b : Bool) → (a && b) ≡ (b && a)
both-orders true true = refl
both-orders true false = refl
both-orders false true = refl
both-orders false false = refl

and-true : (a : Bool) → (a && true) ≡ a
and-true true = refl
and-true false = refl

passes-other : (p : Dyn → Bool) (x : Dyn) → p x ≡ false → (y : Dyn) → (p y && not (same x y)) ≡ p y
passes-other p x f y = elim (cases_Bool (same x y)) [
  | inl t ↦ let e : p y ≡ false = sym (alike p x y t) ∙ f in rw e refl
  | inr n ↦ rw n (and-true (p y))
]

-- the distinct ones of those that pass are those of the distinct ones that pass
distinct-filter : (p : Dyn → Bool) (xs : List Dyn) → distinct (filter p xs) ≡ filter p (distinct xs)
distinct-filter p [] = refl
distinct-filter p (x ∷ xs) =
    let q = λ (y : Dyn). not (same x y) in
    let less = distinct-filter p xs in
    elim (cases_Bool (p x)) [
      | inl t ↦
          let r = λ (y : Dyn). p y && q y in
          let turned = filter-filter q p r (λ y. both-orders (q y) (p y)) (distinct xs) ∙ sym (filter-filter p q r (λ y. refl) (distinct xs)) in
          rw (t, less) (ap (λ l. x ∷ l) turned)
      | inr f ↦ rw (f, less) (sym (filter-filter p q p (passes-other p x f) (distinct xs)))
    ]

pairs-weaker : (R S : Dyn → Dyn → Type 0) (P : Dyn → Type 0) → ((a b : Dyn) → P a → P b → R a b → S a b) → (zs : List Dyn) → All P zs → AllPairs R zs → AllPairs S zs
pairs-weaker R S P h zs each pairs i j d lt within = h _ _ (each i d (omega arith)) (each j d within) (pairs i j d lt within)

before-itself : (x : Dyn) (xs : List Dyn) → count_before (x ∷ xs) x ≡ 0
before-itself x xs = rw (reflexive x) refl

before-other : (x : Dyn) (xs : List Dyn) (y : Dyn) → not (same x y) ≡ true → count_before (x ∷ xs) y ≡ count_before xs y + 1
before-other x xs y n = rw (not-true (same x y) n) refl

pub rises : (xs : List Dyn) → AllPairs (λ a b. count_before xs a < count_before xs b) (distinct xs)
rises [] = λ i j d lt in_none. absurd (omega arith)
rises (x ∷ xs) =
    let q = λ (y : Dyn). not (same x y) in
    let R : Dyn → Dyn → Type 0 = λ a b. count_before (x ∷ xs) a < count_before (x ∷ xs) b in
    let rest = filter q (distinct xs) in
    let passes = filter_passes q (distinct xs) in
    AllPairs-cons R x rest
    (All-weaker (λ (y : Dyn). q y ≡ true) (R x) (λ y n. omega (arith, before-itself x xs, before-other x xs y n)) rest passes)
    (pairs-weaker (λ a b. count_before xs a < count_before xs b) R (λ y. q y ≡ true) (λ a b na nb lt. omega (arith, before-other x xs a na, before-other x xs b nb)) rest passes
    (AllPairs-filter (λ a b. count_before xs a < count_before xs b) q (distinct xs) (rises xs)))

pub union-in-order : UnionInOrder
union-in-order xs ys = (distinct (xs ++ ys), rw (elements-Array xs, elements-Array ys) refl, rises (xs ++ ys))

chosen-in-order : (p : Dyn → Bool) (xs : List Dyn) → AllPairs (λ a b. count_before xs a < count_before xs b) (distinct (filter p xs))
chosen-in-order p xs = rw (distinct-filter p xs) (AllPairs-filter (λ a b. count_before xs a < count_before xs b) p (distinct xs) (rises xs))

pub intersect-in-order : IntersectInOrder
intersect-in-order xs ys = (distinct (filter (is_among ys) xs), rw (elements-Array xs, elements-Array ys) refl, chosen-in-order (is_among ys) xs)

pub difference-in-order : DifferenceInOrder
difference-in-order xs ys =
    let left = λ (x : Dyn). not (is_among ys x) in
    (distinct (filter left xs), rw (elements-Array xs, elements-Array ys) refl, chosen-in-order left xs)

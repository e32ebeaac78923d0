-- Each value once, by its first occurrence.
use Rattle.std.proofs.Common.{◌≡◌, ◌⊎◌, ◌<◌, ◌+◌, ◌||◌, ◌++◌, ◌∷◌, ◌∙◌, ℕ, Bool, true, false, not, cond, if◌then◌else◌, List, [], filter, take, length, get_or, Option, None, Some, option_and_then, option_map, refl, sym, ap, inl, inr}
use mathlib.Core.Bool.{beq}
use Rattle.std.specs.List.{list_all, list_any}
use Rattle.std.proofs.lemmas.Bool.{cases_Bool, and_parts, and_from}
use Rattle.std.proofs.lemmas.List.{append-nil, take_more}
use Rattle.std.proofs.lemmas.List.Elements.{filter-append}
use Rattle.std.proofs.lemmas.List.Folds.{list_any-append}
use Rattle.std.proofs.lemmas.Map.Views.{any-filter_same}
use Rattle.kql_cells.specs.Dynamic.{is_well_formed_dynamic}
use Rattle.kql_cells.specs.Values.{IsWellFormed}
use Rattle.kql_cells.specs.declared.dynamic.Dyn.{Dyn}
use Rattle.kql_cells.specs.declared.value.Value.{Value}
use Rattle.kql_dynamic.specs.Parts.{argument, elements}
use Rattle.kql_cells.specs.Same.{same, same-decides, same-equiv}
use Rattle.kql_dynamic.specs.Arrays.{array}
use Rattle.kql_dynamic.specs.Sets.{chosen, distinct, is_among, of_two_arrays, set_difference, set_intersect, set_union, two_arrays}
use Rattle.kql_dynamic.proofs.FormLaws.{array-form, fits}
use Rattle.kql_dynamic.proofs.PartLaws.{elements-fit, or-null-form}
use Rattle.kql_dynamic.proofs.ArrayFormLaws.{argument-fits, list_all-join}

pub reflexive : (k : Dyn) → same k k ≡ true
reflexive k = (same-decides k k).1 refl

pub apart : (x k : Dyn) → (x ≡ k) ⊎ ((same x k ≡ false) × (same k x ≡ false))
apart x k = elim (cases_Bool (same x k)) [
  | inl t ↦ inl ((same-decides x k).0 t)
  | inr n ↦ elim (cases_Bool (same k x)) [
    | inl t ↦ inl (sym ((same-decides k x).0 t))
    | inr m ↦ inr (n, m)
  ]
]

-- a value is among the distinct ones exactly if it occurs
pub among-distinct : (xs : List Dyn) (d : Dyn) → is_among (distinct xs) d ≡ is_among xs d
among-distinct [] d = refl
among-distinct (x ∷ xs) d = elim (apart x d) [
  | inl e ↦ let t : same d x ≡ true = rw e (reflexive d) in rw t refl
  | inr n ↦
      let kept = any-filter_same (same d) (λ j. not (same x j)) true (λ j e. let p : d ≡ j = (same-decides d j).0 e in rw (← p, n.0) refl) (distinct xs) in
      rw (n.1, kept) (among-distinct xs d)
]

-- one more value comes last, if it is new
distinct-grow : (ks : List Dyn) (k : Dyn) → distinct (ks ++ k ∷ []) ≡ (if is_among (distinct ks) k then distinct ks else distinct ks ++ k ∷ [])
distinct-grow [] k = refl
distinct-grow (x ∷ ks) k =
    let F = distinct ks in
    let q = λ (j : Dyn). not (same x j) in
    let less = distinct-grow ks k in
    elim (apart x k) [
      | inl e ↦
          let t : same k x ≡ true = rw e (reflexive k) in
          let u : same x k ≡ true = rw e (reflexive k) in
          elim (cases_Bool (list_any (same k) F)) [
            | inl a ↦ rw (less, a, t) refl
            | inr a ↦ rw (less, a, t) (ap (λ l. x ∷ l) (rw (filter-append q F (k ∷ []), u) (append-nil (filter q F))))
          ]
      | inr n ↦
          let kept = any-filter_same (same k) q true (λ j e. let p : k ≡ j = (same-decides k j).0 e in rw (← p, n.0) refl) F in
          elim (cases_Bool (list_any (same k) F)) [
            | inl a ↦ rw (less, a, n.1, kept, a) refl
            | inr a ↦ rw (less, a, n.1, kept, a) (ap (λ l. x ∷ l) (rw (filter-append q F (k ∷ []), n.0) refl))
          ]
    ]

pub distinct-push : (ks : List Dyn) (k : Dyn) → distinct (ks ++ k ∷ []) ≡ (if is_among ks k then distinct ks else distinct ks ++ k ∷ [])
distinct-push ks k = distinct-grow ks k ∙ ap (λ b. if b then distinct ks else distinct ks ++ k ∷ []) (among-distinct ks k)

either : (a b : Bool) → cond b true a ≡ (a || (b || false))
either true true = refl
either true false = refl
either false true = refl
either false false = refl

-- one more is among them
pub among-push : (xs : List Dyn) (k d : Dyn) → cond (same k d) true (is_among xs d) ≡ is_among (xs ++ k ∷ []) d
among-push xs k d = either (is_among xs d) (same k d) ∙ (ap (λ b. is_among xs d || (b || false)) (same-equiv.symm k d) ∙ sym (list_any-append (same d) xs (k ∷ [])))

turned : (t : Bool) (xs : List Dyn) (k : Dyn) → (if t then xs else xs ++ k ∷ []) ≡ (if not t then xs ++ k ∷ [] else xs)
turned true xs k = refl
turned false xs k = refl

-- one more value in the list of distinct ones
pub distinct-step : (ks : List Dyn) (k : Dyn) (old new : List Dyn) (added : Bool) → old ≡ distinct ks → added ≡ not (is_among ks k) → new ≡ (if added then old ++ k ∷ [] else old) → new ≡ distinct (ks ++ k ∷ [])
distinct-step ks k old new added eo ea en = rw (en, ea, eo) (sym (turned (is_among ks k) (distinct ks) k) ∙ sym (distinct-push ks k))

wanted-is : (w b : Bool) → beq b w ≡ true → (if w then b else not b) ≡ true
wanted-is true true e = refl
wanted-is true false e = absurd cc
wanted-is false true e = absurd cc
wanted-is false false e = refl

wanted-not : (w b : Bool) → beq b w ≡ false → (if w then b else not b) ≡ false
wanted-not true true e = absurd cc
wanted-not true false e = refl
wanted-not false true e = refl
wanted-not false false e = absurd cc

pub chosen-taken : (w : Bool) (xs ys : List Dyn) (i : ℕ) (x : Dyn) (kept new : List Dyn) (b : Bool) → i < length xs → x ≡ get_or xs i x → kept ≡ chosen w (take i xs) ys → b ≡ is_among ys x → beq b w ≡ true → new ≡ kept ++ x ∷ [] → new ≡ chosen w (take (i + 1) xs) ys
chosen-taken w xs ys i x kept new b lt is ek eb t en =
    let p = λ (y : Dyn). if w then is_among ys y else not (is_among ys y) in
    let here : p x ≡ true = rw (← eb) (wanted-is w b t) in
    let more : take (i + 1) xs ≡ take i xs ++ x ∷ [] = take_more xs i x lt ∙ ap (λ (y : Dyn). take i xs ++ y ∷ []) (sym is) in
    en ∙ rw (more, ek) (sym (filter-append p (take i xs) (x ∷ []) ∙ rw here refl))

pub chosen-left : (w : Bool) (xs ys : List Dyn) (i : ℕ) (x : Dyn) (kept new : List Dyn) (b : Bool) → i < length xs → x ≡ get_or xs i x → kept ≡ chosen w (take i xs) ys → b ≡ is_among ys x → beq b w ≡ false → new ≡ kept → new ≡ chosen w (take (i + 1) xs) ys
chosen-left w xs ys i x kept new b lt is ek eb t en =
    let p = λ (y : Dyn). if w then is_among ys y else not (is_among ys y) in
    let here : p x ≡ false = rw (← eb) (wanted-not w b t) in
    let more : take (i + 1) xs ≡ take i xs ++ x ∷ [] = take_more xs i x lt ∙ ap (λ (y : Dyn). take i xs ++ y ∷ []) (sym is) in
    en ∙ rw (more, ek) (sym (filter-append p (take i xs) (x ∷ []) ∙ rw here (append-nil (filter p (take i xs)))))

-- ---- the form

list_all-filter : (p q : Dyn → Bool) (xs : List Dyn) → list_all p xs ≡ true → list_all p (filter q xs) ≡ true
list_all-filter p q [] h = refl
list_all-filter p q (x ∷ xs) h =
    let r = and_parts (p x) (list_all p xs) h in
    elim (cases_Bool (q x)) [
      | inl y ↦ rw y (and_from (p x) (list_all p (filter q xs)) r.0 (list_all-filter p q xs r.1))
      | inr n ↦ rw n (list_all-filter p q xs r.1)
    ]

list_all-distinct : (p : Dyn → Bool) (xs : List Dyn) → list_all p xs ≡ true → list_all p (distinct xs) ≡ true
list_all-distinct p [] h = refl
list_all-distinct p (x ∷ xs) h =
    let r = and_parts (p x) (list_all p xs) h in
    and_from (p x) (list_all p (filter (λ y. not (same x y)) (distinct xs))) r.0 (list_all-filter p (λ y. not (same x y)) (distinct xs) (list_all-distinct p xs r.1))

-- ---- the form of what is made of two arrays

pair-parts : (o p : Option (List Dyn)) (xs ys : List Dyn) → option_and_then {U = List Dyn × List Dyn} (λ us. option_map {U = List Dyn × List Dyn} (λ vs. (us, vs)) p) o ≡ Some (xs, ys) → (o ≡ Some xs) × (p ≡ Some ys)
pair-parts None p xs ys e = absurd cc
pair-parts (Some us) None xs ys e = absurd cc
pair-parts (Some us) (Some vs) xs ys e = (ap (option_map {T = List Dyn × List Dyn} {U = List Dyn} (λ p. p.0)) e, ap (option_map {T = List Dyn × List Dyn} {U = List Dyn} (λ p. p.1)) e)

two-form : (args : List Dyn) (make : List Dyn → List Dyn → Value) → list_all is_well_formed_dynamic args ≡ true
    → ((xs ys : List Dyn) → list_all (fits 126) xs ≡ true → list_all (fits 126) ys ≡ true → IsWellFormed (make xs ys)) → IsWellFormed (of_two_arrays args make)
two-form args make h f = or-null-form (two_arrays args) (λ p. make p.0 p.1) (λ p e.
    let q = pair-parts (elements (argument args 0)) (elements (argument args 1)) p.0 p.1 e in
    f p.0 p.1 (elements-fit (argument args 0) p.0 (argument-fits args 0 h) q.0) (elements-fit (argument args 1) p.1 (argument-fits args 1 h) q.1))

pub union-form : (args : List Dyn) → list_all is_well_formed_dynamic args ≡ true → IsWellFormed (set_union args)
union-form args h = two-form args _ h (λ xs ys f g. array-form (distinct (xs ++ ys)) (list_all-distinct (fits 126) (xs ++ ys) (list_all-join (fits 126) xs ys f g)))

kept-form : (q : Dyn → Bool) (xs : List Dyn) → list_all (fits 126) xs ≡ true → IsWellFormed (array (distinct (filter q xs)))
kept-form q xs f = array-form (distinct (filter q xs)) (list_all-distinct (fits 126) (filter q xs) (list_all-filter (fits 126) q xs f))

pub intersect-form : (args : List Dyn) → list_all is_well_formed_dynamic args ≡ true → IsWellFormed (set_intersect args)
intersect-form args h = two-form args _ h (λ xs ys f g. kept-form (is_among ys) xs f)

pub difference-form : (args : List Dyn) → list_all is_well_formed_dynamic args ≡ true → IsWellFormed (set_difference args)
difference-form args h = two-form args _ h (λ xs ys f g. kept-form (λ x. not (is_among ys x)) xs f)

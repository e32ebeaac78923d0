-- Joins, slices and the form of what is made of elements.
use Rattle.std.proofs.Common.{Bor, ◌≡◌, ◌<◌, ◌≤◌, ◌+◌, ◌-◌, ℕ, zero, suc, min, Bool, true, List, [], ◌∷◌, ◌++◌, map, take, drop, length, get_or, append_assoc, Option, Some, None, option_map, option_and_then, refl, sym, ap, ◌∙◌, inl, inr, arith}
use Rattle.std.specs.Prelude.{ℤ, nat_le, position, reverse, slice_range}
use Rattle.std.specs.List.{list_all}
use Rattle.std.proofs.lemmas.Bool.{cases_lt, and_parts, and_from}
use Rattle.std.proofs.lemmas.List.{append-nil, map-append, reverse-append, take_all, drop_all, length-drop, take_more}
use Rattle.std.proofs.lemmas.List.Folds.{list_all-append}
use Rattle.kql_cells.specs.Dynamic.{has_form, is_well_formed_dynamic, levels}
use Rattle.kql_cells.proofs.FormLaws.{has_form-Array}
use Rattle.kql_cells.specs.Values.{IsWellFormed}
use Rattle.kql_cells.specs.declared.dynamic.Dyn.{Dyn}
use Rattle.kql_cells.specs.declared.dynamic.Dyn.TheVariants as V
use Rattle.kql_cells.specs.declared.value.Value.{Value}
use Rattle.kql_cells.specs.declared.value.Value.TheVariants as value
use Rattle.kql_dynamic.specs.Arrays.{array, array_concat, array_reverse, array_slice, joined, place_or_less, sliced}
use Rattle.kql_cells.specs.Same.{same}
use Rattle.kql_dynamic.specs.Parts.{argument, elements, long, value_or_null}
use Rattle.kql_dynamic.proofs.FormLaws.{array-form, fits, fits-Null, null-Array}
use Rattle.kql_dynamic.proofs.PartLaws.{elements-fit, or-null-form}

-- ---- lists

pub list_all-take : {X : Type 0} (p : X → Bool) (n : ℕ) (xs : List X) → list_all p xs ≡ true → list_all p (take n xs) ≡ true
list_all-take p zero xs h = refl
list_all-take p (suc n) [] h = refl
list_all-take p (suc n) (x ∷ xs) h = let q = and_parts (p x) (list_all p xs) h in and_from (p x) (list_all p (take n xs)) q.0 (list_all-take p n xs q.1)

pub list_all-drop : {X : Type 0} (p : X → Bool) (n : ℕ) (xs : List X) → list_all p xs ≡ true → list_all p (drop n xs) ≡ true
list_all-drop p zero xs h = h
list_all-drop p (suc n) [] h = refl
list_all-drop p (suc n) (x ∷ xs) h = list_all-drop p n xs (and_parts (p x) (list_all p xs) h).1

pub list_all-join : {X : Type 0} (p : X → Bool) (xs ys : List X) → list_all p xs ≡ true → list_all p ys ≡ true → list_all p (xs ++ ys) ≡ true
list_all-join p xs ys f g = list_all-append p xs ys ∙ and_from (list_all p xs) (list_all p ys) f g

pub list_all-reverse : {X : Type 0} (p : X → Bool) (xs : List X) → list_all p xs ≡ true → list_all p (reverse xs) ≡ true
list_all-reverse p [] h = refl
list_all-reverse p (x ∷ xs) h =
    let q = and_parts (p x) (list_all p xs) h in
    ap (list_all p) (reverse-append (x ∷ []) xs) ∙ list_all-join p (reverse xs) (x ∷ []) (list_all-reverse p xs q.1) (and_from (p x) true q.0 refl)

-- a range that is cut to the list is the range
pub slice-cut : {X : Type 0} (xs : List X) (start end : ℕ) → slice_range xs (min start (min end (length xs))) (min end (length xs)) ≡ slice_range xs start end
slice-cut xs start end =
    elim (cases_lt (length xs) end) [
      | inl over ↦
          let cut : min end (length xs) ≡ length xs = omega arith in
          elim (cases_lt (length xs) start) [
            | inl past ↦
                let at : min start (length xs) ≡ length xs = omega arith in
                let none : length xs - length xs ≡ 0 = omega arith in
                rw (cut, at, none, drop_all start xs (omega arith)) (sym (take_all (end - start) [] (omega arith)))
            | inr within ↦
                let at : min start (length xs) ≡ start = omega arith in
                rw (cut, at) (take_all (length xs - start) (drop start xs) (omega (arith, length-drop start xs)) ∙ sym (take_all (end - start) (drop start xs) (omega (arith, length-drop start xs))))
          ]
      | inr in_list ↦
          let cut : min end (length xs) ≡ end = omega arith in
          elim (cases_lt end start) [
            | inl past ↦
                let at : min start end ≡ end = omega arith in
                let none : end - end ≡ 0 = omega arith in
                let less : end - start ≡ 0 = omega arith in
                rw (cut, at, none, less) refl
            | inr within ↦ let at : min start end ≡ start = omega arith in rw (cut, at) refl
          ]
    ]

-- ---- the elements of several arrays

joined-parts : (o p : Option (List Dyn)) (zs : List Dyn) → option_and_then (λ xs. option_map (λ ys. xs ++ ys) p) o ≡ Some zs
    → (xs : List Dyn) × (ys : List Dyn) × (o ≡ Some xs) × (p ≡ Some ys) × (xs ++ ys ≡ zs)
joined-parts None p zs e = absurd cc
joined-parts (Some xs) None zs e = absurd cc
joined-parts (Some xs) (Some ys) zs e = (xs, ys, refl, refl, cc)

none-joined : (o : Option (List Dyn)) → option_and_then (λ xs. option_map (λ ys. xs ++ ys) None) o ≡ None
none-joined None = refl
none-joined (Some xs) = refl

joined-by : (o p : Option (List Dyn)) (xs ys : List Dyn) → o ≡ Some xs → p ≡ Some ys → option_and_then (λ xs. option_map (λ ys. xs ++ ys) p) o ≡ Some (xs ++ ys)
joined-by o p xs ys e f = rw (e, f) refl

-- one more array
pub joined-push : (ds : List Dyn) (d : Dyn) (xs ys : List Dyn) → joined ds ≡ Some xs → elements d ≡ Some ys → joined (ds ++ d ∷ []) ≡ Some (xs ++ ys)
joined-push [] d xs ys e f = let none : [] ≡ xs = cc in rw (f, ← none) (ap Some (append-nil ys))
joined-push (x ∷ ds) d xs ys e f =
    let p = joined-parts (elements x) (joined ds) xs e in
    joined-by (elements x) (joined (ds ++ d ∷ [])) p.0 (p.1 ++ ys) p.2 (joined-push ds d p.1 ys p.3 f) ∙ ap Some (sym (append_assoc p.0 p.1 ys) ∙ ap (λ l. l ++ ys) p.4)

-- the same of arrays that are lent
abbrev pub lent : List (Bor Dyn) → List Dyn
lent ds = map (λ d. d.now) ds

pub lent-more : (ds : List (Bor Dyn)) (i : ℕ) (d : Bor Dyn) → i < length ds → d ≡ get_or ds i d → lent (take (i + 1) ds) ≡ lent (take i ds) ++ d.now ∷ []
lent-more ds i d lt is = ap lent (take_more ds i d lt ∙ ap (λ (y : Bor Dyn). take i ds ++ y ∷ []) (sym is)) ∙ map-append (λ (x : Bor Dyn). x.now) (take i ds) (d ∷ [])

pub lent-last : (ds : List (Bor Dyn)) (n : ℕ) (d : Bor Dyn) → 0 < n → n ≤ length ds → d ≡ get_or ds (n - 1) d → lent (take n ds) ≡ lent (take (n - 1) ds) ++ d.now ∷ []
lent-last ds n d p l is = let e : n ≡ n - 1 + 1 = omega arith in ap (λ k. lent (take k ds)) e ∙ lent-more ds (n - 1) d (omega arith) is

pub joined-more : (ds : List (Bor Dyn)) (i : ℕ) (d : Bor Dyn) (xs ys : List Dyn) → i < length ds → d ≡ get_or ds i d → joined (lent (take i ds)) ≡ Some xs → elements d.now ≡ Some ys → joined (lent (take (i + 1) ds)) ≡ Some (xs ++ ys)
joined-more ds i d xs ys lt is e f = rw (lent-more ds i d lt is) (joined-push (lent (take i ds)) d.now xs ys e f)

-- where one is no array
pub joined-none : (ds : List (Bor Dyn)) (i : ℕ) (d : Bor Dyn) → i < length ds → d ≡ get_or ds i d → elements d.now ≡ None → joined (lent ds) ≡ None
joined-none [] i d lt is f = absurd (omega arith)
joined-none (x ∷ ds) zero d lt is f = rw (← is, f) refl
joined-none (x ∷ ds) (suc i) d lt is f = rw (joined-none ds i d (omega arith) is f) (none-joined (elements x.now))

-- ---- the form

-- a value that is another is well formed if that is
pub formed : (v w : Value) → v ≡ w → IsWellFormed w → IsWellFormed v
formed v w e h = rw e h

pub argument-fits : (args : List Dyn) (i : ℕ) → list_all is_well_formed_dynamic args ≡ true → fits 127 (argument args i) ≡ true
argument-fits [] i h = fits-Null 127
argument-fits (d ∷ ds) zero h = (and_parts (fits 127 d) (list_all (fits 127) ds) h).0
argument-fits (d ∷ ds) (suc i) h = argument-fits ds i (and_parts (fits 127 d) (list_all (fits 127) ds) h).1

all-forms : (args : List Dyn) → list_all is_well_formed_dynamic args ≡ true → list_all has_form args ≡ true
all-forms [] h = refl
all-forms (d ∷ ds) h =
    let q = and_parts (fits 127 d) (list_all (fits 127) ds) h in
    and_from (has_form d) (list_all has_form ds) (and_parts (has_form d) (nat_le (levels d) 127) q.0).0 (all-forms ds q.1)

joined-fits : (ds xs : List Dyn) → list_all (fits 127) ds ≡ true → joined ds ≡ Some xs → list_all (fits 126) xs ≡ true
joined-fits [] xs h e = let none : [] ≡ xs = cc in rw (← none) refl
joined-fits (d ∷ ds) xs h e =
    let q = and_parts (fits 127 d) (list_all (fits 127) ds) h in
    let p = joined-parts (elements d) (joined ds) xs e in
    rw (← p.4) (list_all-join (fits 126) p.0 p.1 (elements-fit d p.0 q.0 p.2) (joined-fits ds p.1 q.1 p.3))

pub index-value : (d v : Dyn) (xs : List Dyn) (n : ℤ) → elements d ≡ Some xs → n ≡ place_or_less (position (λ x. same x v) xs)
    → value.Long n ≡ value_or_null (elements d) (λ ys. value.Long (place_or_less (position (λ y. same y v) ys)))
index-value d v xs n e f = rw (e, f) refl

pub pack-form : (args : List Dyn) → list_all is_well_formed_dynamic args ≡ true → nat_le (levels (V.Array args)) 127 ≡ true → IsWellFormed (array args)
pack-form args h deep = (null-Array args, and_from (has_form (V.Array args)) (nat_le (levels (V.Array args)) 127) (has_form-Array args ∙ all-forms args h) deep)

pub concat-form : (args : List Dyn) → list_all is_well_formed_dynamic args ≡ true → IsWellFormed (array_concat args)
concat-form args h = or-null-form (joined args) array (λ xs e. array-form xs (joined-fits args xs h e))

pub slice-form : (args : List Dyn) → list_all is_well_formed_dynamic args ≡ true → IsWellFormed (array_slice args)
slice-form args h =
    or-null-form (elements (argument args 0)) _ (λ xs e. or-null-form (long (argument args 1)) _ (λ a _. or-null-form (long (argument args 2)) _
    (λ b _. array-form (sliced xs a b) (list_all-take (fits 126) _ _ (list_all-drop (fits 126) _ xs (elements-fit (argument args 0) xs (argument-fits args 0 h) e))))))

pub reverse-form : (args : List Dyn) → list_all is_well_formed_dynamic args ≡ true → IsWellFormed (array_reverse args)
reverse-form args h =
    or-null-form (elements (argument args 0)) _ (λ xs e. array-form (reverse xs) (list_all-reverse (fits 126) xs (elements-fit (argument args 0) xs (argument-fits args 0 h) e)))

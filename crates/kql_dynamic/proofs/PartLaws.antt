-- What a look into a value finds, and its form.
use Rattle.std.proofs.Common.{◌≡◌, ◌<◌, ◌+◌, ℕ, zero, suc, true, false, List, [], ◌∷◌, take, length, get_or, Option, Some, None, refl, sym, ap, ◌∙◌, inl, inr, arith, rules}
use Rattle.std.specs.Prelude.{ℤ, pos, negsuc}
use Rattle.std.specs.List.{list_all, slice_get}
use Rattle.std.specs.Str.{bytes_eq}
use Rattle.std.proofs.lemmas.Bool.{cases_Bool, and_parts}
use Rattle.kql_cells.specs.Dynamic.{ascends, is_well_formed_dynamic}
use Rattle.kql_cells.specs.Values.{IsWellFormed}
use Rattle.kql_cells.specs.declared.dynamic.Dyn.{Dyn, out-Dyn, roll-Dyn, the_lemmas}
use Rattle.kql_cells.specs.declared.dynamic.Dyn.TheOpen.{Dyn-F}
use Rattle.kql_cells.specs.declared.dynamic.Dyn.TheVariants as V
use Rattle.kql_cells.specs.declared.value.Value.{Value}
use Rattle.kql_dynamic.specs.Parts.{at_index, at_name, elements, elements_step, element_at, entries, entries_step, entry_at, from_start, long, value_of, value_or_null}
use Rattle.kql_dynamic.proofs.FormLaws.{fits, fits-Array, fits-Bag, fits-weaker, value-form}

-- the place of a key goes on
pub entry_found : (n : List ℕ) (es : List (List ℕ × Dyn)) (i : ℕ) (e : List ℕ × Dyn) → i < length es → e ≡ get_or es i e → entry_at n (take i es) ≡ None → bytes_eq e.0 n ≡ true → entry_at n es ≡ Some e.1
entry_found n [] i e lt is none t = absurd (omega arith)
entry_found n (x ∷ es) zero e lt is none t = rw (← is, t) refl
entry_found n (x ∷ es) (suc i) e lt is none t = elim (cases_Bool (bytes_eq x.0 n)) [
  | inl y ↦ let h = rw y at none in absurd cc
  | inr m ↦ let h = rw m at none in rw m (entry_found n es i e (omega arith) is h t)
]

pub entry_passed : (n : List ℕ) (es : List (List ℕ × Dyn)) (i : ℕ) (e : List ℕ × Dyn) → i < length es → e ≡ get_or es i e → entry_at n (take i es) ≡ None → bytes_eq e.0 n ≡ false → entry_at n (take (i + 1) es) ≡ None
entry_passed n [] i e lt is none t = absurd (omega arith)
entry_passed n (x ∷ es) zero e lt is none t = rw (← is, t) refl
entry_passed n (x ∷ es) (suc i) e lt is none t =
    let one : suc i + 1 ≡ suc (i + 1) = omega arith in
    elim (cases_Bool (bytes_eq x.0 n)) [
      | inl y ↦ let h = rw y at none in absurd cc
      | inr m ↦ let h = rw m at none in rw (one, m) (entry_passed n es i e (omega arith) is h t)
    ]

whole : (d : Dyn) → roll-Dyn (out-Dyn d) ≡ d
whole d = search (rules, the_lemmas)

array-roll : (f : Dyn-F Dyn) (xs : List Dyn) → elements_step f ≡ Some xs → roll-Dyn f ≡ V.Array xs
array-roll (Dyn-F.Array parts) xs e = let same : parts ≡ xs = cc in V.rolls-Array parts ∙ ap V.Array same
array-roll Dyn-F.Null xs e = absurd cc
array-roll (Dyn-F.Bool b) xs e = absurd cc
array-roll (Dyn-F.Long n) xs e = absurd cc
array-roll (Dyn-F.Text t) xs e = absurd cc
array-roll (Dyn-F.Bag es) xs e = absurd cc

-- the value is the array of its elements
pub array-of : (d : Dyn) (xs : List Dyn) → elements d ≡ Some xs → d ≡ V.Array xs
unfolding elements
array-of d xs e = sym (whole d) ∙ array-roll (out-Dyn d) xs e

bag-roll : (f : Dyn-F Dyn) (es : List (List ℕ × Dyn)) → entries_step f ≡ Some es → roll-Dyn f ≡ V.Bag es
bag-roll (Dyn-F.Bag parts) xs e = let same : parts ≡ xs = cc in V.rolls-Bag parts ∙ ap V.Bag same
bag-roll Dyn-F.Null xs e = absurd cc
bag-roll (Dyn-F.Bool b) xs e = absurd cc
bag-roll (Dyn-F.Long n) xs e = absurd cc
bag-roll (Dyn-F.Text t) xs e = absurd cc
bag-roll (Dyn-F.Array parts) xs e = absurd cc

-- the value is the bag of its entries
pub bag-of : (d : Dyn) (es : List (List ℕ × Dyn)) → entries d ≡ Some es → d ≡ V.Bag es
unfolding entries
bag-of d es e = sym (whole d) ∙ bag-roll (out-Dyn d) es e

pub elements-Array : (xs : List Dyn) → elements (V.Array xs) ≡ Some xs
unfolding elements
elements-Array xs = search (rules, the_lemmas)

pub entries-Bag : (es : List (List ℕ × Dyn)) → entries (V.Bag es) ≡ Some es
unfolding entries
entries-Bag es = search (rules, the_lemmas)

pub long-Long : (n : ℤ) → long (V.Long n) ≡ Some n
unfolding long
long-Long n = search (rules, the_lemmas)

-- the elements of an array fit one level less
pub elements-fit : (d : Dyn) (xs : List Dyn) → fits 127 d ≡ true → elements d ≡ Some xs → list_all (fits 126) xs ≡ true
elements-fit d xs f e = sym (fits-Array xs) ∙ rw (array-of d xs e) at f

pub entries-fit : (d : Dyn) (es : List (List ℕ × Dyn)) → fits 127 d ≡ true → entries d ≡ Some es → (ascends es ≡ true) × (list_all (λ e. fits 126 e.1) es ≡ true)
entries-fit d es f e = and_parts (ascends es) (list_all (λ e. fits 126 e.1) es) (sym (fits-Bag es) ∙ rw (bag-of d es e) at f)

-- a form that holds of what is there holds of the value
pub or-null-form : {X : Type 0} (o : Option X) (make : X → Value) → ((x : X) → o ≡ Some x → IsWellFormed (make x)) → IsWellFormed (value_or_null o make)
or-null-form None make h = tt
or-null-form (Some x) make h = h x refl

lookup-fits : (n : List ℕ) (es : List (List ℕ × Dyn)) (d : Dyn) → list_all (λ e. fits 126 e.1) es ≡ true → entry_at n es ≡ Some d → fits 126 d ≡ true
lookup-fits n [] d f e = absurd cc
lookup-fits n (x ∷ es) d f e =
    let h = and_parts (fits 126 x.1) (list_all (λ e. fits 126 e.1) es) f in
    elim (cases_Bool (bytes_eq x.0 n)) [
      | inl y ↦ let here = rw y at e in let same : x.1 ≡ d = cc in rw (← same) h.0
      | inr m ↦ let later = rw m at e in lookup-fits n es d h.1 later
    ]

get-fits : (xs : List Dyn) (i : ℕ) (d : Dyn) → list_all (fits 126) xs ≡ true → slice_get xs i ≡ Some d → fits 126 d ≡ true
get-fits [] i d f e = absurd cc
get-fits (x ∷ xs) zero d f e = let h = and_parts (fits 126 x) (list_all (fits 126) xs) f in let same : x ≡ d = cc in rw (← same) h.0
get-fits (x ∷ xs) (suc i) d f e = get-fits xs i d (and_parts (fits 126 x) (list_all (fits 126) xs) f).1 e

element-fits : (xs : List Dyn) (i : ℤ) (d : Dyn) → list_all (fits 126) xs ≡ true → element_at xs i ≡ Some d → fits 126 d ≡ true
element-fits xs (pos i) d f e = get-fits xs i d f e
element-fits xs (negsuc i) d f e = absurd cc

pub at_name-form : (d : Dyn) (n : List ℕ) → is_well_formed_dynamic d ≡ true → IsWellFormed (at_name d n)
at_name-form d n f = or-null-form (entries d) _ (λ es e. or-null-form (entry_at n es) value_of (λ x h. value-form x (fits-weaker x (lookup-fits n es x (entries-fit d es f e).1 h))))

pub at_index-form : (d : Dyn) (i : ℤ) → is_well_formed_dynamic d ≡ true → IsWellFormed (at_index d i)
at_index-form d i f = or-null-form (elements d) _ (λ xs e. or-null-form (element_at xs (from_start (length xs) i)) value_of (λ x h. value-form x (fits-weaker x (element-fits xs (from_start (length xs) i) x (elements-fit d xs f e) h))))

-- Values of at most so many levels whose bags have the form.
use Rattle.std.proofs.Common.{◌≡◌, ℕ, Bool, true, false, ◌&&◌, nat_le, List, [], ◌∷◌, refl, ap, ◌∙◌, inl, inr, arith, rules}
use Rattle.std.specs.Prelude.{ℤ}
use Rattle.std.specs.List.{list_all}
use Rattle.std.proofs.lemmas.Bool.{cases_Bool, and_parts, and_from}
use Rattle.std.proofs.lemmas.Bool.Decides.{nat_tests}
use Rattle.kql_cells.specs.Dynamic.{ascends, has_form, is_null, levels}
use Rattle.kql_cells.specs.Values.{IsWellFormed}
use Rattle.kql_cells.proofs.FormLaws.{has_form-Array, has_form-Bag, has_form-Null, has_form-Bool, has_form-Long, has_form-Text}
use Rattle.kql_cells.proofs.LevelLaws.{within-Array, within-Bag, levels-Null, levels-Bool, levels-Long, levels-Text}
use Rattle.kql_cells.specs.declared.dynamic.Dyn.{Dyn, the_lemmas}
use Rattle.kql_cells.specs.declared.dynamic.Dyn.TheVariants as V
use Rattle.kql_cells.specs.declared.value.Value.TheVariants as value
use Rattle.kql_dynamic.specs.Parts.{value_of}

-- the form, and at most so many levels
abbrev pub fits : ℕ → Dyn → Bool
fits n d = has_form d && nat_le (levels d) n

shuffle : (a b c d : Bool) → ((a && b) && (c && d)) ≡ ((a && c) && (b && d))
shuffle true true c d = refl
shuffle true false true d = refl
shuffle true false false d = refl
shuffle false b c d = refl

list_all-both : {X : Type 0} (p q : X → Bool) (xs : List X) → (list_all p xs && list_all q xs) ≡ list_all (λ x. p x && q x) xs
list_all-both p q [] = refl
list_all-both p q (x ∷ xs) = shuffle (p x) (list_all p xs) (q x) (list_all q xs) ∙ ap (λ b. (p x && q x) && b) (list_all-both p q xs)

assoc : (a b c : Bool) → ((a && b) && c) ≡ (a && (b && c))
assoc true b c = refl
assoc false b c = refl

pub fits-Array : (xs : List Dyn) → fits 127 (V.Array xs) ≡ list_all (fits 126) xs
fits-Array xs = rw (has_form-Array xs, within-Array xs 127) (list_all-both has_form (λ d. nat_le (levels d) 126) xs)

pub fits-Bag : (es : List (List ℕ × Dyn)) → fits 127 (V.Bag es) ≡ (ascends es && list_all (λ e. fits 126 e.1) es)
fits-Bag es =
    rw (has_form-Bag es, within-Bag es 127) (assoc (ascends es) (list_all (λ e. has_form e.1) es) (list_all (λ e. nat_le (levels e.1) 126) es)
    ∙ ap (λ b. ascends es && b) (list_all-both (λ (e : List ℕ × Dyn). has_form e.1) (λ e. nat_le (levels e.1) 126) es))

pub fits-Null : (n : ℕ) → fits n V.Null ≡ true
fits-Null n = rw (has_form-Null, levels-Null) (grind (arith, nat_tests))

pub fits-Bool : (n : ℕ) (b : Bool) → fits n (V.Bool b) ≡ true
fits-Bool n b = rw (has_form-Bool b, levels-Bool b) (grind (arith, nat_tests))

pub fits-Long : (n : ℕ) (x : ℤ) → fits n (V.Long x) ≡ true
fits-Long n x = rw (has_form-Long x, levels-Long x) (grind (arith, nat_tests))

pub fits-Text : (n : ℕ) (t : List ℕ) → fits n (V.Text t) ≡ true
fits-Text n t = rw (has_form-Text t, levels-Text t) (grind (arith, nat_tests))

more_levels : (m : ℕ) → nat_le m 126 ≡ true → nat_le m 127 ≡ true
more_levels m e = grind (arith, nat_tests)

pub fits-weaker : (d : Dyn) → fits 126 d ≡ true → fits 127 d ≡ true
fits-weaker d e = let h = and_parts (has_form d) (nat_le (levels d) 126) e in and_from (has_form d) (nat_le (levels d) 127) h.0 (more_levels (levels d) h.1)

-- such a value is well formed
pub value-form : (d : Dyn) → fits 127 d ≡ true → IsWellFormed (value_of d)
value-form d e = elim (cases_Bool (is_null d)) [ inl y ↦ rw y tt | inr n ↦ rw n (n, e) ]

pub null-Array : (xs : List Dyn) → is_null (V.Array xs) ≡ false
null-Array xs = search (rules, the_lemmas)

pub null-Bag : (es : List (List ℕ × Dyn)) → is_null (V.Bag es) ≡ false
null-Bag es = search (rules, the_lemmas)

null-Text : (t : List ℕ) → is_null (V.Text t) ≡ false
null-Text t = search (rules, the_lemmas)

pub array-form : (xs : List Dyn) → list_all (fits 126) xs ≡ true → IsWellFormed (value.Dynamic (V.Array xs))
array-form xs e = (null-Array xs, fits-Array xs ∙ e)

pub bag-form : (es : List (List ℕ × Dyn)) → ascends es ≡ true → list_all (λ e. fits 126 e.1) es ≡ true → IsWellFormed (value.Dynamic (V.Bag es))
bag-form es a e = (null-Bag es, fits-Bag es ∙ and_from (ascends es) (list_all (λ e. fits 126 e.1) es) a e)

pub text-form : (t : List ℕ) → IsWellFormed (value.Dynamic (V.Text t))
text-form t = (null-Text t, fits-Text 127 t)

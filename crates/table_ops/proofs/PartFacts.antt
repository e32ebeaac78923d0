-- The parts of a value: what they are, and that they are well formed.
use Rattle.std.proofs.Common.{◌≡◌, ◌<◌, ◌≤◌, ℕ, zero, suc, Bool, true, false, List, [], ◌∷◌, map, length, get_or, refl, sym, ap, ◌∙◌, subst, arith, rules}
use Rattle.std.specs.Prelude.{slice_index_or}
use Rattle.std.specs.List.{list_all}
use Rattle.std.proofs.lemmas.Bool.{and_from, and_parts}
use Rattle.std.proofs.lemmas.List.{get_or-map, get_or_past, length-map}
use Rattle.kql_cells.specs.Dynamic.{ascends}
use Rattle.kql_cells.specs.Values.{IsWellFormed}
use Rattle.kql_cells.specs.declared.dynamic.Dyn.{Dyn, out-Dyn, the_lemmas}
use Rattle.kql_cells.specs.declared.dynamic.Dyn.TheOpen.{Dyn-F}
use Rattle.kql_cells.specs.declared.dynamic.Dyn.TheVariants as dyn
use Rattle.kql_cells.specs.declared.value.Value.{Value}
use Rattle.kql_cells.specs.declared.value.Value.TheVariants as value
use Rattle.kql_dynamic.specs.Parts.{value_of}
use Rattle.kql_dynamic.proofs.FormLaws.{array-form, bag-form, fits, fits-Array, fits-Bag, fits-Text, fits-weaker, value-form}
use Rattle.kql_meaning.specs.MvExpand.{dynamic_parts_step, entry_part, parts_of}
use Rattle.kql_meaning.proofs.MemberLaws.{member-of-map}
use Rattle.kql_fit_laws.proofs.JoinRows.{all-of}
use Rattle.kql_fit_laws.proofs.KnownValues.{index-holds}
use Rattle.table_ops.specs.Parts.{part_or_null}

all-at : {X : Type 0} (p : X → Bool) (xs : List X) (k : ℕ) (d : X) → list_all p xs ≡ true → k < length xs → p (get_or xs k d) ≡ true
all-at p [] k d e lt = absurd (omega (arith, lt))
all-at p (x ∷ xs) zero d e lt = (and_parts (p x) (list_all p xs) e).0
all-at p (x ∷ xs) (suc k) d e lt = all-at p xs k d (and_parts (p x) (list_all p xs) e).1 (omega (arith, lt))

-- Elements of an array.

pub element-there : (xs : List Dyn) (k : ℕ) (d : Dyn) (v : Value) → k < length xs → d ≡ get_or xs k d → v ≡ value_of d → v ≡ slice_index_or (map value_of xs) k value.Null
element-there xs k d v lt is e = e ∙ (ap value_of is ∙ sym (get_or-map value_of xs k d value.Null lt))

pub element-past : (xs : List Dyn) (k : ℕ) → length xs ≤ k → value.Null ≡ slice_index_or (map value_of xs) k value.Null
element-past xs k le = sym (get_or_past (map value_of xs) k value.Null (omega (arith, length-map xs value_of, le)))

pub element-formed : (xs : List Dyn) (k : ℕ) (v : Value) → IsWellFormed (value.Dynamic (dyn.Array xs)) → v ≡ slice_index_or (map value_of xs) k value.Null → IsWellFormed v
element-formed xs k v h e =
    subst IsWellFormed (sym e)
    (index-holds IsWellFormed (map value_of xs) k value.Null tt
    (λ w m.
    let q = member-of-map value_of xs w m in
    subst IsWellFormed q.2 (value-form q.0 (fits-weaker q.0 (all-of (fits 126) xs q.0 (sym (fits-Array xs) ∙ h.1) q.1)))))

pub ruleset element_steps = (element-there, element-past)

-- Entries of a bag.

entry-form-of : (array : Bool) (e : List ℕ × Dyn) → fits 126 e.1 ≡ true → IsWellFormed (entry_part array e)
unfolding entry_part
entry-form-of true e h = array-form (dyn.Text e.0 ∷ e.1 ∷ []) (and_from (fits 126 (dyn.Text e.0)) (list_all (fits 126) (e.1 ∷ [])) (fits-Text 126 e.0) (and_from (fits 126 e.1) true h refl))
entry-form-of false e h = bag-form (e ∷ []) refl (and_from (fits 126 e.1) true h refl)

pub entry-there : (array : Bool) (es : List (List ℕ × Dyn)) (k : ℕ) (e : List ℕ × Dyn) (v : Value) → k < length es → e ≡ get_or es k e → v ≡ entry_part array e → v ≡ slice_index_or (map (entry_part array) es) k value.Null
entry-there array es k e v lt is h = h ∙ (ap (entry_part array) is ∙ sym (get_or-map (entry_part array) es k e value.Null lt))

pub entry-past : (array : Bool) (es : List (List ℕ × Dyn)) (k : ℕ) → length es ≤ k → value.Null ≡ slice_index_or (map (entry_part array) es) k value.Null
entry-past array es k le = sym (get_or_past (map (entry_part array) es) k value.Null (omega (arith, length-map es (entry_part array), le)))

pub entry-form : (array : Bool) (es : List (List ℕ × Dyn)) (k : ℕ) (e : List ℕ × Dyn) (v : Value) → IsWellFormed (value.Dynamic (dyn.Bag es)) → k < length es → e ≡ get_or es k e → v ≡ entry_part array e → IsWellFormed v
entry-form array es k e v h lt is made =
    let all = (and_parts (ascends es) (list_all (λ (x : List ℕ × Dyn). fits 126 x.1) es) (sym (fits-Bag es) ∙ h.1)).1 in
    let one : fits 126 e.1 ≡ true = ap (λ (x : List ℕ × Dyn). fits 126 x.1) is ∙ all-at (λ (x : List ℕ × Dyn). fits 126 x.1) es k e all lt in
    subst IsWellFormed (sym made) (entry-form-of array e one)

pub ruleset entry_steps = (entry-there, entry-past, entry-form)

-- Values.

open-array : (xs : List Dyn) → out-Dyn (dyn.Array xs) ≡ Dyn-F.Array xs
open-array xs = search (rules, the_lemmas)

open-bag : (es : List (List ℕ × Dyn)) → out-Dyn (dyn.Bag es) ≡ Dyn-F.Bag es
open-bag es = search (rules, the_lemmas)

pub array-parts : (array : Bool) (xs : List Dyn) (k : ℕ) → part_or_null array (value.Dynamic (dyn.Array xs)) k ≡ slice_index_or (map value_of xs) k value.Null
unfolding part_or_null parts_of
array-parts array xs k = ap (λ f. slice_index_or (dynamic_parts_step array (value.Dynamic (dyn.Array xs)) f) k value.Null) (open-array xs)

pub bag-parts : (array : Bool) (es : List (List ℕ × Dyn)) (k : ℕ) → part_or_null array (value.Dynamic (dyn.Bag es)) k ≡ slice_index_or (map (entry_part array) es) k value.Null
unfolding part_or_null parts_of
bag-parts array es k = ap (λ f. slice_index_or (dynamic_parts_step array (value.Dynamic (dyn.Bag es)) f) k value.Null) (open-bag es)

pub ruleset dynamic_steps = (array-parts, bag-parts)

-- A value that is its only part.

pub only-formed : (v r : Value) (k : ℕ) → IsWellFormed v → r ≡ slice_index_or (v ∷ []) k value.Null → IsWellFormed r
only-formed v r zero h e = subst IsWellFormed (sym e) h
only-formed v r (suc k) h e = subst IsWellFormed (sym e) tt

pub ruleset part_steps = (only-formed)

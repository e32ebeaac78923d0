-- What is printed reads back, and what is read has the form.
use Rattle.std.proofs.Common.{◌≡◌, ◌≢◌, ◌<◌, ◌≤◌, ◌+◌, ℕ, true, ◌&&◌, nat_le, List, [], ◌∷◌, ◌++◌, take, length, get_or, map, Some, None, refl, sym, ap, ◌∙◌}
use Rattle.std.specs.Prelude.{Vec, String, string_bytes}
use Rattle.std.specs.BTreeMap.{BTreeMap, insert_entry}
use Rattle.std.specs.String.{string_cmp}
use Rattle.std.specs.List.{list_all}
use Rattle.std.specs.Cmp.Lexicographic.{slice_cmp}
use Rattle.std.specs.Ordering.{is_lt, nat_cmp, ordering_reverse}
use Rattle.std.specs.declared.cmp.Ordering.{Ordering}
use Rattle.std.specs.declared.cmp.Ordering.TheVariants.{Less, Equal, Greater}
use Rattle.std.specs.declared.alloc.Global.{Global}
use Rattle.std.proofs.lemmas.Cmp.{nat_list_cmp_total}
use Rattle.std.proofs.lemmas.Bool.{and_parts, and_from, leb-true, le-leb}
use Rattle.std.proofs.lemmas.List.{take_more, map-append}
use Rattle.std.proofs.lemmas.List.Folds.{list_all-append}
use Rattle.kql_cells.specs.Dynamic.{ascends, has_form, levels, rises_to}
use Rattle.kql_cells.specs.Values.{IsWellFormed}
use Rattle.kql_cells.proofs.FormLaws.{has_form-Array, has_form-Bag}
use Rattle.kql_cells.specs.declared.dynamic.Dyn.{Dyn}
use Rattle.kql_cells.specs.declared.dynamic.Dyn.TheVariants as V
use Rattle.serde_json.specs.Data.{depth}
use Rattle.serde_json.specs.Read.{read}
use Rattle.serde_json.proofs.OnLiterals.{serde_json_on_literals}
use Rattle.serde_json.specs.View.{view}
use Rattle.serde_json.specs.declared.value.Value.{Value, Array, Object}
use Rattle.kql_dynamic.specs.Json.{dyn_of, entry_of, parsed, part_of}
use Rattle.kql_dynamic.specs.Parts.{value_of}
use Rattle.kql_dynamic.proofs.FormLaws.{fits, value-form}
use Rattle.kql_dynamic.proofs.JsonFormLaws.{dyn-Array, dyn-Object, levels-dyn_of}

pub less_from : (o : Ordering) → is_lt o ≡ true → o ≡ Less
less_from Less e = refl
less_from Equal e = absurd cc
less_from Greater e = absurd cc

-- the first key is below the last
pub below-last : {X : Type 0} (x : List ℕ × X) (rest : List (List ℕ × X)) (e : List ℕ × X) → ascends (x ∷ (rest ++ e ∷ [])) ≡ true → slice_cmp nat_cmp x.0 e.0 ≡ Less
below-last x [] e h = less_from (slice_cmp nat_cmp x.0 e.0) (and_parts (is_lt (slice_cmp nat_cmp x.0 e.0)) true h).0
below-last x (y ∷ rest) e h =
    let p = and_parts (is_lt (slice_cmp nat_cmp x.0 y.0)) (ascends (y ∷ (rest ++ e ∷ []))) h in
    nat_list_cmp_total.trans x.0 y.0 e.0 (less_from (slice_cmp nat_cmp x.0 y.0) p.0) (below-last y rest e p.1)

pub above-first : {X : Type 0} (x : List ℕ × X) (rest : List (List ℕ × X)) (e : List ℕ × X) → ascends (x ∷ (rest ++ e ∷ [])) ≡ true → slice_cmp nat_cmp e.0 x.0 ≡ Greater
above-first x rest e h = nat_list_cmp_total.antisymm e.0 x.0 ∙ ap ordering_reverse (below-last x rest e h)

rises-front : {X : Type 0} (k : List ℕ) (xs ys : List (List ℕ × X)) → rises_to k (xs ++ ys) ≡ true → ascends (xs ++ ys) ≡ true → rises_to k xs ≡ true
rises-front k [] ys r h = refl
rises-front k (x ∷ xs) ys r h = r

pub ascends-front : {X : Type 0} (xs ys : List (List ℕ × X)) → ascends (xs ++ ys) ≡ true → ascends xs ≡ true
ascends-front [] ys h = refl
ascends-front (x ∷ xs) ys h =
    let p = and_parts (rises_to x.0 (xs ++ ys)) (ascends (xs ++ ys)) h in
    and_from (rises_to x.0 xs) (ascends xs) (rises-front x.0 xs ys p.0 p.1) (ascends-front xs ys p.1)

insert-last : (old : List (String Global × Value)) (k : String Global) (v : Value) (e : List ℕ × Dyn) → ascends (map entry_of old ++ e ∷ []) ≡ true → string_bytes k ≡ e.0 → insert_entry string_cmp old k v ≡ old ++ (k, v) ∷ []
insert-last [] k v e h s = refl
insert-last (o ∷ old) k v e h s =
    let up : slice_cmp nat_cmp (string_bytes k) (string_bytes o.0) ≡ Greater = rw s (above-first (entry_of o) (map entry_of old) e h) in
    let p = and_parts (rises_to (string_bytes o.0) (map entry_of old ++ e ∷ [])) (ascends (map entry_of old ++ e ∷ [])) h in
    rw up (ap (λ l. o ∷ l) (insert-last old k v e p.1 s))

abbrev HasForms : List (List ℕ × Dyn) → Type 0
HasForms es = (ascends es && list_all (λ e. has_form e.1) es) ≡ true

-- one more member is one more entry
pub members-back : (es : List (List ℕ × Dyn)) (i : ℕ) (e : List ℕ × Dyn) (old new : List (String Global × Value)) (k : String Global) (v : Value)
    → i < length es → e ≡ get_or es i e → (HasForms (take i es) → map entry_of old ≡ take i es)
    → new ≡ insert_entry string_cmp old k v → string_bytes k ≡ e.0 → (has_form e.1 ≡ true → part_of v ≡ e.1)
    → HasForms (take (i + 1) es) → map entry_of new ≡ take (i + 1) es
members-back es i e old new k v lt is back en ek ev forms =
    let more : take (i + 1) es ≡ take i es ++ e ∷ [] = take_more es i e lt ∙ ap (λ (x : List ℕ × Dyn). take i es ++ x ∷ []) (sym is) in
    let all = rw more at forms in
    let p = and_parts (ascends (take i es ++ e ∷ [])) (list_all (λ e. has_form e.1) (take i es ++ e ∷ [])) all in
    let q = and_parts (list_all (λ e. has_form e.1) (take i es)) (has_form e.1 && true) (sym (list_all-append (λ (e : List ℕ × Dyn). has_form e.1) (take i es) (e ∷ [])) ∙ p.1) in
    let same = back (and_from (ascends (take i es)) (list_all (λ e. has_form e.1) (take i es)) (ascends-front (take i es) (e ∷ []) p.0) q.0) in
    let here : part_of v ≡ e.1 = ev (and_parts (has_form e.1) true q.1).0 in
    let up : ascends (map entry_of old ++ e ∷ []) ≡ true = rw same p.0 in
    ap (map entry_of) (en ∙ insert-last old k v e up ek) ∙ (map-append entry_of old ((k, v) ∷ []) ∙ rw (same, more, ek, here) refl)

pub array-back : (v : Vec Value Global) (parts : List Dyn) → (list_all has_form parts ≡ true → map part_of v.items ≡ parts) → has_form (V.Array parts) ≡ true → part_of (Array v) ≡ V.Array parts
array-back v parts back h = dyn-Array v ∙ ap V.Array (back (sym (has_form-Array parts) ∙ h))

pub object-back : (m : BTreeMap (String Global) Value) (es : List (List ℕ × Dyn)) → (HasForms es → map entry_of m.entries ≡ es) → has_form (V.Bag es) ≡ true → part_of (Object m) ≡ V.Bag es
object-back m es back h = dyn-Object m ∙ ap V.Bag (back (sym (has_form-Bag es) ∙ h))

within : (m n : ℕ) → m ≡ n → nat_le m 127 ≡ true → n ≤ 127
within m n e h = rw (← e) (leb-true m 127 h)

pub printed-back : (v : Value) (d : Dyn) (t : List ℕ) → fits 127 d ≡ true → (has_form d ≡ true → part_of v ≡ d) → (depth (view v) ≤ 127 → read t ≡ Some (view v)) → parsed t ≡ value_of d
unfolding parsed
printed-back v d t f back reads =
    let h = and_parts (has_form d) (nat_le (levels d) 127) f in
    let same = back h.0 in
    let deep : depth (view v) ≤ 127 = within (levels d) (depth (view v)) (ap levels (sym same) ∙ levels-dyn_of (view v)) h.1 in
    rw (reads deep) (ap value_of same)

-- the empty text is no JSON
read-nothing : read [] ≡ None
unfolding serde_json_on_literals
read-nothing = refl

-- so no value is printed as it
pub printed-some : (v : Value) (d : Dyn) (t : List ℕ) → fits 127 d ≡ true → (has_form d ≡ true → part_of v ≡ d) → (depth (view v) ≤ 127 → read t ≡ Some (view v)) → t ≢ []
printed-some v d t f back reads e =
    let h = and_parts (has_form d) (nat_le (levels d) 127) f in
    let same = back h.0 in
    let deep : depth (view v) ≤ 127 = within (levels d) (depth (view v)) (ap levels (sym same) ∙ levels-dyn_of (view v)) h.1 in
    let none = rw e at (reads deep) in
    cc (read-nothing, none)

pub read-form : (v : Value) (d : Dyn) → d ≡ dyn_of (view v) → has_form d ≡ true → depth (view v) ≤ 127 → IsWellFormed (value_of d)
read-form v d same h deep = value-form d (and_from (has_form d) (nat_le (levels d) 127) h (rw (same, levels-dyn_of (view v)) (le-leb (depth (view v)) 127 deep)))

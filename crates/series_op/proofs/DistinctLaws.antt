-- The distinct rests of distinct keys are the distinct rests.
use Rattle.std.proofs.Common.{◌≡◌, Bool, true, false, not, List, [], ◌∷◌, ℕ, filter, map, refl, ap, sym, ◌∙◌, inl, inr}
use Rattle.std.proofs.lemmas.Bool.{cases_Bool}
use Rattle.kql_cells.specs.Keys.{same_keys, same_keys-decides}
use Rattle.kql_cells.specs.Table.{Grid}
use Rattle.kql_cells.specs.declared.value.Value.{Value}
use Rattle.kql_meaning.specs.Groups.{distinct_keys}
use Rattle.kql_meaning.specs.Tables.{distinct_by, places}
use Rattle.kql_meaning.proofs.JoinLaws.{map-map}
use Rattle.series_op.proofs.BinRows.{with_start}

-- All but the first value.
abbrev pub rest_of : List Value → List Value
rest_of [] = []
rest_of (v ∷ vs) = vs

-- Filters of lists of keys.

abbrev other : List Value → List Value → Bool
other k j = not (same_keys k j)

filter-swap : (p q : List Value → Bool) (ks : List (List Value)) → filter p (filter q ks) ≡ filter q (filter p ks)
filter-swap p q [] = refl
filter-swap p q (k ∷ ks) = elim (cases_Bool (p k)) [
  | inl s ↦ elim (cases_Bool (q k)) [
    | inl t ↦ rw (t, s, t) (ap (λ (js : List (List Value)). k ∷ js) (filter-swap p q ks))
    | inr n ↦ rw (n, s, n) (filter-swap p q ks)
  ]
  | inr m ↦ elim (cases_Bool (q k)) [
    | inl t ↦ rw (t, m) (filter-swap p q ks)
    | inr n ↦ rw (n, m) (filter-swap p q ks)
  ]
]

filter-again : (p : List Value → Bool) (ks : List (List Value)) → filter p (filter p ks) ≡ filter p ks
filter-again p [] = refl
filter-again p (k ∷ ks) = elim (cases_Bool (p k)) [
  | inl t ↦ rw (t, t) (ap (λ (js : List (List Value)). k ∷ js) (filter-again p ks))
  | inr n ↦ rw n (filter-again p ks)
]

-- The distinct ones of those that differ from one are those of all that differ from it.
distinct-filter : (x : List Value) (ks : List (List Value)) → distinct_by same_keys (filter (other x) ks) ≡ filter (other x) (distinct_by same_keys ks)
unfolding distinct_by
distinct-filter x [] = refl
distinct-filter x (k ∷ ks) = elim (cases_Bool (same_keys x k)) [
  | inl t ↦
      let same : x ≡ k = (same_keys-decides x k).0 t in
      let no : other x k ≡ false = ap not t in
      rw no (distinct-filter x ks ∙ (sym (filter-again (other x) (distinct_by same_keys ks)) ∙ ap (λ (y : List Value). filter (other x) (filter (other y) (distinct_by same_keys ks))) same))
  | inr n ↦
      let yes_other : other x k ≡ true = ap not n in
      rw yes_other (ap (λ (js : List (List Value)). k ∷ js) (ap (filter (other k)) (distinct-filter x ks) ∙ filter-swap (other k) (other x) (distinct_by same_keys ks)))
]

-- Keys that are the same have the same rest.
rest-same : (x y : List Value) → same_keys x y ≡ true → rest_of x ≡ rest_of y
rest-same x y e = ap rest_of ((same_keys-decides x y).0 e)

-- Among those whose rest differs from one it does not matter that those which are the same as it are gone.
rests-filter : (x : List Value) (ks : List (List Value)) → filter (other (rest_of x)) (map rest_of (filter (other x) ks)) ≡ filter (other (rest_of x)) (map rest_of ks)
rests-filter x [] = refl
rests-filter x (k ∷ ks) = elim (cases_Bool (same_keys x k)) [
  | inl t ↦
      let gone : other x k ≡ false = ap not t in
      let no : other (rest_of x) (rest_of k) ≡ false = ap not ((same_keys-decides (rest_of x) (rest_of k)).1 (rest-same x k t)) in
      rw (gone, no) (rests-filter x ks)
  | inr n ↦
      let kept : other x k ≡ true = ap not n in
      elim (cases_Bool (other (rest_of x) (rest_of k))) [
        | inl s ↦ rw (kept, s) (ap (λ (js : List (List Value)). rest_of k ∷ js) (rests-filter x ks))
        | inr m ↦ rw (kept, m) (rests-filter x ks)
      ]
]

distinct-rests : (ks : List (List Value)) → distinct_by same_keys (map rest_of (distinct_by same_keys ks)) ≡ distinct_by same_keys (map rest_of ks)
unfolding distinct_by
distinct-rests [] = refl
distinct-rests (k ∷ ks) =
    let x = rest_of k in
    let ds = distinct_by same_keys ks in
    ap (λ (js : List (List Value)). x ∷ js)
    (sym (distinct-filter x (map rest_of (filter (other k) ds)))
    ∙ (ap (distinct_by same_keys) (rests-filter k ds)
    ∙ (distinct-filter x (map rest_of ds) ∙ ap (filter (other x)) (distinct-rests ks))))

pub rests-are : (start : ℕ → Value) (key : ℕ → List Value) (t : Grid) → distinct_by same_keys (map rest_of (distinct_keys (with_start start key) t)) ≡ distinct_keys key t
unfolding distinct_keys
rests-are start key t = distinct-rests (map (with_start start key) (places t)) ∙ ap (distinct_by same_keys) (map-map rest_of (with_start start key) (places t))

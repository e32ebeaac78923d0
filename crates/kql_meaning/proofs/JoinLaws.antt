-- The pairs of an inner join.
use Rattle.std.proofs.Common.{◌≡◌, ◌≢◌, ◌<◌, ◌∷◌, ◌++◌, ℕ, Bool, true, false, not, append_assoc, ◌⊎◌, List, [], subst, map, length, refl, sym, ap, ap₂, ◌∙◌, arith, inl, inr}
use Rattle.std.specs.Prelude.{filter, IsPermutation}
use Rattle.std.specs.List.{flat_map, list_all, list_any, range_with_len}
use Rattle.std.proofs.lemmas.Bool.{and_from, and_parts, cases_Bool}
use Rattle.std.proofs.lemmas.List.{map-append}
use Rattle.std.proofs.lemmas.List.Sorted.{IsPermutation-append, IsPermutation-cons, IsPermutation-middle, IsPermutation-refl, IsPermutation-trans}
use Rattle.kql_cells.specs.Table.{Grid}
use Rattle.kql_cells.specs.declared.value.Value.{Value}
use Rattle.kql_cells.specs.declared.value.Value.TheVariants as value
use Rattle.kql_scalar_fns.specs.Choice.{is_null}
use Rattle.kql_bound.specs.declared.parts.JoinPlan.{JoinPlan}
use Rattle.kql_bound.specs.declared.parts.OnPair.{OnPair}
use Rattle.kql_meaning.specs.Join.{both_rows, has_left, has_right, inner_rows, keys_match, left_alone, left_outer_rows, matches_right, or_one, pairs_of_left, rows_match}
use Rattle.kql_meaning.specs.Laws.{AllKeysMatch, InnerIsOfPairs, KeysMatch, LeftHasMatch, LeftOuterIsInnerAndMore, PairComesBefore, PairsInOrder, PairsMatch, RightHasMatch}
use Rattle.kql_meaning.specs.Tables.{cell, places, places_below}
use Rattle.kql_meaning.specs.Values.{same_key}
use Rattle.kql_meaning.proofs.FirstLaws.{any-at, one-of-any}
use Rattle.kql_cells.specs.Keys.{same_key-decides}
use Rattle.kql_meaning.proofs.MemberLaws.{Member, contains-member, member-contains, member-filter, member-flat, member-map, member-of-filter, member-of-flat, member-of-map, member-of-range, member-range, pairs-of, pairwise-filter, pairwise-flat, pairwise-map, pairwise-range}

pub map-map : {X Y Z : Type 0} (f : Y → Z) (g : X → Y) (xs : List X) → map f (map g xs) ≡ map (λ x. f (g x)) xs
map-map f g [] = refl
map-map f g (x ∷ xs) = ap (λ ys. f (g x) ∷ ys) (map-map f g xs)

abbrev pub one_pair : ℕ → ℕ → ℕ × ℕ
one_pair i j = (i, j)

abbrev pub row_of : JoinPlan → Grid → Grid → ℕ × ℕ → List Value
row_of j a b p = both_rows j a b p.0 p.1

flat-fused : (j : JoinPlan) (a b : Grid) (m : ℕ → List ℕ) (is : List ℕ) → flat_map (λ i. map (both_rows j a b i) (m i)) is ≡ map (row_of j a b) (flat_map (λ i. map (one_pair i) (m i)) is)
flat-fused j a b m [] = refl
flat-fused j a b m (i ∷ is) =
    ap₂ (λ (us vs : List (List Value)). us ++ vs) (sym (map-map (row_of j a b) (one_pair i) (m i))) (flat-fused j a b m is)
    ∙ sym (map-append (row_of j a b) (map (one_pair i) (m i)) (flat_map (λ k. map (one_pair k) (m k)) is))

pub inner_is_of_pairs : InnerIsOfPairs
unfolding inner_rows pairs_of_left
inner_is_of_pairs j a b = flat-fused j a b (matches_right j.on a b) (places a)

pub pair-left : (i j k l : ℕ) → one_pair i j ≡ one_pair k l → i ≡ k
pair-left i j k l e = ap (λ (p : ℕ × ℕ). p.0) e

pub pair-right : (i j k l : ℕ) → one_pair i j ≡ one_pair k l → j ≡ l
pair-right i j k l e = ap (λ (p : ℕ × ℕ). p.1) e

pub matched : (on : List OnPair) (a b : Grid) (i j k l : ℕ) → k ≡ i → l ≡ j → rows_match on a b k l ≡ true → rows_match on a b i j ≡ true
matched on a b i j k l p q e = rw (← p, ← q) e

pub pairs_match : PairsMatch
unfolding matches_right places places_below
pairs_match on a b i j =
    let pairs = λ (k : ℕ). map (one_pair k) (filter (rows_match on a b k) (range_with_len 0 (length b.lines))) in (
      λ c.
          let m = member-of-flat pairs (range_with_len 0 (length a.lines)) (i, j) (member-contains (flat_map pairs (range_with_len 0 (length a.lines))) (i, j) c) in
          let n = member-of-map (one_pair m.0) (filter (rows_match on a b m.0) (range_with_len 0 (length b.lines))) (i, j) m.2 in
          let f = member-of-filter (rows_match on a b m.0) (range_with_len 0 (length b.lines)) n.0 n.1 in
          let first = pair-left m.0 n.0 i j n.2 in
          let second = pair-right m.0 n.0 i j n.2 in
          let below_left = member-of-range 0 (length a.lines) m.0 m.1 in
          let below_right = member-of-range 0 (length b.lines) n.0 f.0 in
          (omega (arith, below_left.1, first), omega (arith, below_right.1, second), matched on a b i j m.0 n.0 first second f.1),
      λ h. contains-member (flat_map pairs (range_with_len 0 (length a.lines))) (i, j)
          (member-flat pairs (range_with_len 0 (length a.lines)) i (i, j) (member-range 0 (length a.lines) i (omega arith) (omega (arith, h.0)))
          (member-map (one_pair i) (filter (rows_match on a b i) (range_with_len 0 (length b.lines))) j (member-filter (rows_match on a b i) (range_with_len 0 (length b.lines)) j (member-range 0 (length b.lines) j (omega arith) (omega (arith, h.1))) h.2))),
    )

of-one : (i : ℕ) (js : List ℕ) (p : ℕ × ℕ) → Member p (map (one_pair i) js) → i ≡ p.0
of-one i js p m = let q = member-of-map (one_pair i) js p m in ap (λ (r : ℕ × ℕ). r.0) q.2

pub pairs_in_order : PairsInOrder
unfolding matches_right places places_below
pairs_in_order on a b =
    let kept = λ (k : ℕ). filter (rows_match on a b k) (range_with_len 0 (length b.lines)) in
    let pairs = λ (k : ℕ). map (one_pair k) (kept k) in
    pairs-of PairComesBefore (flat_map pairs (range_with_len 0 (length a.lines)))
    (pairwise-flat PairComesBefore pairs 0 (length a.lines)
    (λ i. pairwise-map (λ j k. j < k) PairComesBefore (one_pair i) (kept i) (λ j k lt. inr (refl, lt)) (pairwise-filter (λ j k. j < k) (rows_match on a b i) (range_with_len 0 (length b.lines)) (pairwise-range 0 (length b.lines))))
    (λ i k p q lt m n. let e = of-one i (kept i) p m in let f = of-one k (kept k) q n in inl (omega (arith, e, f))))

-- When values and rows match.

not_null : (v : Value) → not (is_null v) ≡ true → v ≢ value.Null
unfolding is_null
not_null value.Null e n = cc
not_null v e n = cc

given_value : (v : Value) → v ≢ value.Null → not (is_null v) ≡ true
unfolding is_null
given_value value.Null n = absurd (n refl)
given_value v n = refl

pub match_keys : KeysMatch
unfolding keys_match
match_keys v w = (
  λ e. let parts = and_parts (same_key v w) (not (is_null v)) e in ((same_key-decides v w).0 parts.0, not_null v parts.1),
  λ h. and_from (same_key v w) (not (is_null v)) ((same_key-decides v w).1 h.0) (given_value v h.1),
)

all-at : {X : Type 0} (p : X → Bool) (xs : List X) (x : X) → list_all p xs ≡ true → Member x xs → p x ≡ true
all-at p [] x e m = absurd m
all-at p (y ∷ ys) x e (inl s) = subst (λ z. p z ≡ true) s (and_parts (p y) (list_all p ys) e).0
all-at p (y ∷ ys) x e (inr m) = all-at p ys x (and_parts (p y) (list_all p ys) e).1 m

all-of : {X : Type 0} (p : X → Bool) (xs : List X) → ((x : X) → Member x xs → p x ≡ true) → list_all p xs ≡ true
all-of p [] h = refl
all-of p (y ∷ ys) h = and_from (p y) (list_all p ys) (h y (inl refl)) (all-of p ys (λ x m. h x (inr m)))

pub all_keys_match : AllKeysMatch
unfolding rows_match
all_keys_match on a b i j =
    let p = λ (pair : OnPair). keys_match (cell a i pair.left) (cell b j pair.right) in
    (λ e pair c. all-at p on pair e (member-contains on pair c), λ h. all-of p on (λ pair m. h pair (contains-member on pair m)))

some-place : (p : ℕ → Bool) (n : ℕ) → list_any p (range_with_len 0 n) ≡ true → (j : ℕ) × (j < n) × (p j ≡ true)
some-place p n e =
    let q = one-of-any p (range_with_len 0 n) e in
    (q.0, omega (arith, (member-of-range 0 n q.0 q.1).1), q.2)

at-place : (p : ℕ → Bool) (n j : ℕ) → j < n → p j ≡ true → list_any p (range_with_len 0 n) ≡ true
at-place p n j lt e = any-at p (range_with_len 0 n) j (member-range 0 n j (omega arith) (omega arith)) e

pub left_has_match : LeftHasMatch
unfolding has_right places places_below
left_has_match on a b i = (λ e. some-place (rows_match on a b i) (length b.lines) e, λ h. at-place (rows_match on a b i) (length b.lines) h.0 h.1 h.2)

pub right_has_match : RightHasMatch
unfolding has_left places places_below
right_has_match on a b j = (λ e. some-place (λ i. rows_match on a b i j) (length a.lines) e, λ h. at-place (λ i. rows_match on a b i j) (length a.lines) h.0 h.1 h.2)

-- Rows that are given, or one alone where there is none, are those given and those alone.
module _ (f : ℕ → List (List Value)) (alone : ℕ → List Value) (some : ℕ → Bool) (agrees : (i : ℕ) → ((some i ≡ true) × (or_one (f i) (alone i) ≡ f i)) ⊎ ((some i ≡ false) × (f i ≡ []))) where
  pub given-and-alone : (is : List ℕ) → IsPermutation (flat_map f is ++ map alone (filter (λ i. not (some i)) is)) (flat_map (λ i. or_one (f i) (alone i)) is)
  unfolding or_one
  given-and-alone [] = IsPermutation-refl []
  given-and-alone (i ∷ is) =
      let given = flat_map f is in
      let left = map alone (filter (λ i. not (some i)) is) in
      let all = flat_map (λ i. or_one (f i) (alone i)) is in
      elim (agrees i) [
        | inl h ↦ rw (h.0, h.1, append_assoc (f i) given left) (IsPermutation-append (f i) (f i) (given ++ left) all (IsPermutation-refl (f i)) (given-and-alone is))
        | inr h ↦ rw (h.0, h.1) (IsPermutation-trans (given ++ alone i ∷ left) (alone i ∷ (given ++ left)) (alone i ∷ all) (IsPermutation-middle given (alone i) left) (IsPermutation-cons (alone i) (given ++ left) all (given-and-alone is)))
      ]

pub kept-or-none : (p : ℕ → Bool) (g : ℕ → List Value) (row : List Value) (ks : List ℕ) → ((list_any p ks ≡ true) × (or_one (map g (filter p ks)) row ≡ map g (filter p ks))) ⊎ ((list_any p ks ≡ false) × (map g (filter p ks) ≡ []))
unfolding or_one
kept-or-none p g row [] = inr (refl, refl)
kept-or-none p g row (k ∷ ks) = elim (cases_Bool (p k)) [
  | inl t ↦ inl (rw t (refl, refl))
  | inr n ↦ rw n (kept-or-none p g row ks)
]

pub left_outer_is_inner_and_more : LeftOuterIsInnerAndMore
unfolding inner_rows left_outer_rows has_right pairs_of_left matches_right
left_outer_is_inner_and_more j a b =
    given-and-alone (pairs_of_left j a b) (left_alone j a b) (has_right j.on a b) (λ i. kept-or-none (rows_match j.on a b i) (both_rows j a b i) (left_alone j a b i) (places b)) (places a)

pub ruleset join_laws = (inner_is_of_pairs, pairs_match, pairs_in_order, match_keys, all_keys_match, left_has_match, right_has_match, left_outer_is_inner_and_more)

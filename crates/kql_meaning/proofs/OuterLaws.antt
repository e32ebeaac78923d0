-- The kinds of `join` beside inner, innerunique and leftouter.
use Rattle.std.proofs.Common.{◌≡◌, ◌<◌, ◌⊎◌, ◌++◌, ◌∷◌, ℕ, Bool, not, List, [], map, length, refl, sym, ap, ap₂, subst, ◌∙◌, arith, inl, inr}
use Rattle.std.specs.Prelude.{filter, IsPermutation}
use Rattle.std.specs.List.{flat_map, range_with_len}
use Rattle.std.proofs.lemmas.Bool.{cases_Bool}
use Rattle.std.proofs.lemmas.List.{map-append}
use Rattle.std.proofs.lemmas.List.Sorted.{IsPermutation-cons, IsPermutation-middle, IsPermutation-refl, IsPermutation-trans}
use Rattle.kql_cells.specs.Seen.{row_at}
use Rattle.kql_cells.specs.Table.{Grid}
use Rattle.kql_cells.specs.declared.value.Value.{Value}
use Rattle.kql_bound.specs.declared.parts.JoinKind.TheVariants as join
use Rattle.kql_bound.specs.declared.parts.JoinPlan.{JoinPlan}
use Rattle.kql_meaning.specs.Join.{both_rows, has_left, has_right, join_rows, matches_left, pairs_of_right, right_alone, right_outer_rows, rows_match, unmatched_right_rows}
use Rattle.kql_meaning.specs.LawsOfJoins.{FullOuterIsLeftOuterAndMore, LeftMatchedHaveMatch, MatchedRise, RightMatchedHaveMatch, RightOuterIsPairsAndMore, RightPairsInOrder, RightPairsMatch, SemiAndAntiAreAll, SemiGivesMatched, left_matched, right_matched, right_unmatched}
use Rattle.kql_meaning.specs.Tables.{places, places_below}
use Rattle.kql_meaning.proofs.JoinLaws.{given-and-alone, kept-or-none, left_has_match, map-map, matched, one_pair, pair-left, pair-right, right_has_match, row_of}
use Rattle.kql_meaning.proofs.ListLaws.{gathered-all}
use Rattle.kql_meaning.proofs.MemberLaws.{Member, contains-member, member-contains, member-filter, member-flat, member-map, member-of-filter, member-of-flat, member-of-map, member-of-range, member-range, pairs-of, pairwise-filter, pairwise-flat, pairwise-map, pairwise-range}

-- Pairs in the order of the right rows.

-- A left row with a right row that is known.
abbrev with_right : ℕ → ℕ → ℕ × ℕ
with_right k i = one_pair i k

flat-fused : (j : JoinPlan) (a b : Grid) (m : ℕ → List ℕ) (ks : List ℕ) → flat_map (λ k. map (λ i. both_rows j a b i k) (m k)) ks ≡ map (row_of j a b) (flat_map (λ k. map (with_right k) (m k)) ks)
flat-fused j a b m [] = refl
flat-fused j a b m (k ∷ ks) =
    ap₂ (λ (us vs : List (List Value)). us ++ vs) (sym (map-map (row_of j a b) (with_right k) (m k))) (flat-fused j a b m ks)
    ∙ sym (map-append (row_of j a b) (map (with_right k) (m k)) (flat_map (λ l. map (with_right l) (m l)) ks))

pub right_pairs_match : RightPairsMatch
unfolding matches_left places places_below
right_pairs_match on a b i k =
    let kept = λ (l : ℕ). filter (λ h. rows_match on a b h l) (range_with_len 0 (length a.lines)) in
    let pairs = λ (l : ℕ). map (with_right l) (kept l) in (
      λ c.
          let m = member-of-flat pairs (range_with_len 0 (length b.lines)) (i, k) (member-contains (flat_map pairs (range_with_len 0 (length b.lines))) (i, k) c) in
          let n = member-of-map (with_right m.0) (kept m.0) (i, k) m.2 in
          let f = member-of-filter (λ h. rows_match on a b h m.0) (range_with_len 0 (length a.lines)) n.0 n.1 in
          let left = pair-left n.0 m.0 i k n.2 in
          let right = pair-right n.0 m.0 i k n.2 in
          let below_right = member-of-range 0 (length b.lines) m.0 m.1 in
          let below_left = member-of-range 0 (length a.lines) n.0 f.0 in
          (omega (arith, below_left.1, left), omega (arith, below_right.1, right), matched on a b i k n.0 m.0 left right f.1),
      λ h. contains-member (flat_map pairs (range_with_len 0 (length b.lines))) (i, k)
          (member-flat pairs (range_with_len 0 (length b.lines)) k (i, k) (member-range 0 (length b.lines) k (omega arith) (omega (arith, h.1)))
          (member-map (with_right k) (kept k) i (member-filter (λ h. rows_match on a b h k) (range_with_len 0 (length a.lines)) i (member-range 0 (length a.lines) i (omega arith) (omega (arith, h.0))) h.2))),
    )

abbrev Before : ℕ × ℕ → ℕ × ℕ → Type 0
Before p q = (p.1 < q.1) ⊎ ((p.1 ≡ q.1) × (p.0 < q.0))

of-one : (k : ℕ) (is : List ℕ) (p : ℕ × ℕ) → Member p (map (with_right k) is) → k ≡ p.1
of-one k is p m = let q = member-of-map (with_right k) is p m in ap (λ (r : ℕ × ℕ). r.1) q.2

pub right_pairs_in_order : RightPairsInOrder
unfolding matches_left places places_below
right_pairs_in_order on a b =
    let kept = λ (k : ℕ). filter (λ i. rows_match on a b i k) (range_with_len 0 (length a.lines)) in
    let pairs = λ (k : ℕ). map (with_right k) (kept k) in
    pairs-of Before (flat_map pairs (range_with_len 0 (length b.lines)))
    (pairwise-flat Before pairs 0 (length b.lines)
    (λ k. pairwise-map (λ h i. h < i) Before (with_right k) (kept k) (λ h i lt. inr (refl, lt)) (pairwise-filter (λ h i. h < i) (λ i. rows_match on a b i k) (range_with_len 0 (length a.lines)) (pairwise-range 0 (length a.lines))))
    (λ k l p q lt m n. let e = of-one k (kept k) p m in let f = of-one l (kept l) q n in inl (omega (arith, e, f))))

pub right_outer_is_pairs_and_more : RightOuterIsPairsAndMore
unfolding right_outer_rows has_left pairs_of_right matches_left
right_outer_is_pairs_and_more j a b =
    let alone = map (right_alone j a b) (right_unmatched j.on a b) in
    subst (λ (rows : List (List Value)). IsPermutation (rows ++ alone) (right_outer_rows j a b)) (flat-fused j a b (matches_left j.on a b) (places b))
    (given-and-alone (pairs_of_right j a b) (right_alone j a b) (has_left j.on a b) (λ k. kept-or-none (λ i. rows_match j.on a b i k) (λ i. both_rows j a b i k) (right_alone j a b k) (places a)) (places b))

pub full_outer_is_left_outer_and_more : FullOuterIsLeftOuterAndMore
unfolding join_rows unmatched_right_rows
full_outer_is_left_outer_and_more j a b = refl

-- Semi and anti joins.

pub left_matched_have_match : LeftMatchedHaveMatch
unfolding places places_below
left_matched_have_match on a b i = (
  λ c.
      let m = member-of-filter (has_right on a b) (range_with_len 0 (length a.lines)) i (member-contains (left_matched on a b) i c) in
      (omega (arith, (member-of-range 0 (length a.lines) i m.0).1), (left_has_match on a b i).0 m.1),
  λ h. contains-member (left_matched on a b) i (member-filter (has_right on a b) (range_with_len 0 (length a.lines)) i (member-range 0 (length a.lines) i (omega arith) (omega (arith, h.0))) ((left_has_match on a b i).1 h.1)),
)

pub right_matched_have_match : RightMatchedHaveMatch
unfolding places places_below
right_matched_have_match on a b k = (
  λ c.
      let m = member-of-filter (has_left on a b) (range_with_len 0 (length b.lines)) k (member-contains (right_matched on a b) k c) in
      (omega (arith, (member-of-range 0 (length b.lines) k m.0).1), (right_has_match on a b k).0 m.1),
  λ h. contains-member (right_matched on a b) k (member-filter (has_left on a b) (range_with_len 0 (length b.lines)) k (member-range 0 (length b.lines) k (omega arith) (omega (arith, h.0))) ((right_has_match on a b k).1 h.1)),
)

pub semi_gives_matched : SemiGivesMatched
unfolding join_rows
semi_gives_matched j a b = (refl, refl)

pub matched_rise : MatchedRise
unfolding places places_below
matched_rise on a b = (
  pairs-of (λ i k. i < k) (left_matched on a b) (pairwise-filter (λ i k. i < k) (has_right on a b) (range_with_len 0 (length a.lines)) (pairwise-range 0 (length a.lines))),
  pairs-of (λ i k. i < k) (right_matched on a b) (pairwise-filter (λ i k. i < k) (has_left on a b) (range_with_len 0 (length b.lines)) (pairwise-range 0 (length b.lines))),
)

-- What passes a test and what does not, together.
both-parts : (f : ℕ → List Value) (p : ℕ → Bool) (xs : List ℕ) → IsPermutation (map f (filter p xs) ++ map f (filter (λ x. not (p x)) xs)) (map f xs)
both-parts f p [] = IsPermutation-refl []
both-parts f p (x ∷ xs) =
    let some = map f (filter p xs) in
    let others = map f (filter (λ y. not (p y)) xs) in
    elim (cases_Bool (p x)) [
      | inl t ↦ rw t (IsPermutation-cons (f x) (some ++ others) (map f xs) (both-parts f p xs))
      | inr n ↦ rw n (IsPermutation-trans (some ++ f x ∷ others) (f x ∷ (some ++ others)) (f x ∷ map f xs) (IsPermutation-middle some (f x) others) (IsPermutation-cons (f x) (some ++ others) (map f xs) (both-parts f p xs)))
    ]

all-rows : (t : Grid) → map (row_at t.lines) (places t) ≡ t.lines
all-rows t = ap (λ (u : Grid). u.lines) (gathered-all t)

pub semi_and_anti_are_all : SemiAndAntiAreAll
unfolding join_rows
semi_and_anti_are_all j a b = (
  subst (λ rows. IsPermutation (join_rows join.LeftSemi j a b ++ join_rows join.LeftAnti j a b) rows) (all-rows a) (both-parts (row_at a.lines) (has_right j.on a b) (places a)),
  subst (λ rows. IsPermutation (join_rows join.RightSemi j a b ++ join_rows join.RightAnti j a b) rows) (all-rows b) (both-parts (row_at b.lines) (has_left j.on a b) (places b)),
)

pub ruleset outer_laws = (right_pairs_match, right_pairs_in_order, right_outer_is_pairs_and_more, full_outer_is_left_outer_and_more, left_matched_have_match, right_matched_have_match, semi_gives_matched, matched_rise, semi_and_anti_are_all)

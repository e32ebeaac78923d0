-- What the kinds of `join` beside inner, innerunique and leftouter keep.
use Rattle.std.specs.Prelude.{◌≡◌, ◌<◌, ◌↔◌, ◌⊎◌, not, ℕ, List, ◌++◌, map, length, filter, AllPairs, Contains, IsPermutation, IsTrue}
use Rattle.std.specs.List.{flat_map}
use Rattle.kql_cells.specs.Seen.{row_at}
use Rattle.kql_cells.specs.Table.{Grid}
use Rattle.kql_bound.specs.declared.parts.JoinPlan.{JoinPlan}
use Rattle.kql_bound.specs.declared.parts.JoinKind.TheVariants as join
use Rattle.kql_bound.specs.declared.parts.OnPair.{OnPair}
use Rattle.kql_meaning.specs.Join.{both_rows, has_left, has_right, join_rows, matches_left, right_alone, right_outer_rows, rows_match}
use Rattle.kql_meaning.specs.Tables.{places}

-- Outer joins.

-- The pairs of rows that match, for each right row its matches.
abbrev pub right_pairs : List OnPair → Grid → Grid → List (ℕ × ℕ)
right_pairs on a b = flat_map (λ k. map (λ i. (i, k)) (matches_left on a b k)) (places b)

-- A pair stands there exactly where it matches.
abbrev pub RightPairsMatch : Type 0
RightPairsMatch = (on : List OnPair) (a b : Grid) (i k : ℕ) → Contains (right_pairs on a b) (i, k) ↔ ((i < length a.lines) × (k < length b.lines) × IsTrue (rows_match on a b i k))

-- Pairs come in the order of the right row and then of the left one, so each stands there once.
abbrev pub RightPairsInOrder : Type 0
RightPairsInOrder = (on : List OnPair) (a b : Grid) → AllPairs (λ (p q : ℕ × ℕ). (p.1 < q.1) ⊎ ((p.1 ≡ q.1) × (p.0 < q.0))) (right_pairs on a b)

-- The right rows that match no left row.
abbrev pub right_unmatched : List OnPair → Grid → Grid → List ℕ
right_unmatched on a b = filter (λ k. not (has_left on a b k)) (places b)

-- A join of kind rightouter has the rows of these pairs, and for each right row without a match one more.
abbrev pub RightOuterIsPairsAndMore : Type 0
RightOuterIsPairsAndMore = (j : JoinPlan) (a b : Grid) → IsPermutation (map (λ (p : ℕ × ℕ). both_rows j a b p.0 p.1) (right_pairs j.on a b) ++ map (right_alone j a b) (right_unmatched j.on a b)) (right_outer_rows j a b)

-- A join of kind fullouter has the rows of leftouter, and then one for each right row without a match.
abbrev pub FullOuterIsLeftOuterAndMore : Type 0
FullOuterIsLeftOuterAndMore = (j : JoinPlan) (a b : Grid) → join_rows join.FullOuter j a b ≡ join_rows join.LeftOuter j a b ++ map (right_alone j a b) (right_unmatched j.on a b)

-- Semi and anti joins.

-- The rows of one side that match a row of the other.
abbrev pub left_matched : List OnPair → Grid → Grid → List ℕ
left_matched on a b = filter (has_right on a b) (places a)

abbrev pub right_matched : List OnPair → Grid → Grid → List ℕ
right_matched on a b = filter (has_left on a b) (places b)

abbrev pub LeftMatchedHaveMatch : Type 0
LeftMatchedHaveMatch = (on : List OnPair) (a b : Grid) (i : ℕ) → Contains (left_matched on a b) i ↔ ((i < length a.lines) × ((k : ℕ) × (k < length b.lines) × IsTrue (rows_match on a b i k)))

abbrev pub RightMatchedHaveMatch : Type 0
RightMatchedHaveMatch = (on : List OnPair) (a b : Grid) (k : ℕ) → Contains (right_matched on a b) k ↔ ((k < length b.lines) × ((i : ℕ) × (i < length a.lines) × IsTrue (rows_match on a b i k)))

-- The semi kinds give these rows, each once and in their order.
abbrev pub SemiGivesMatched : Type 0
SemiGivesMatched = (j : JoinPlan) (a b : Grid) → (join_rows join.LeftSemi j a b ≡ map (row_at a.lines) (left_matched j.on a b)) × (join_rows join.RightSemi j a b ≡ map (row_at b.lines) (right_matched j.on a b))

abbrev pub MatchedRise : Type 0
MatchedRise = (on : List OnPair) (a b : Grid) → AllPairs (λ i k. i < k) (left_matched on a b) × AllPairs (λ i k. i < k) (right_matched on a b)

-- The semi and the anti kind of one side together have its rows.
abbrev pub SemiAndAntiAreAll : Type 0
SemiAndAntiAreAll = (j : JoinPlan) (a b : Grid) → IsPermutation (join_rows join.LeftSemi j a b ++ join_rows join.LeftAnti j a b) a.lines × IsPermutation (join_rows join.RightSemi j a b ++ join_rows join.RightAnti j a b) b.lines

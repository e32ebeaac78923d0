-- The rows of a join, made of its pairs of places.
use Rattle.std.proofs.Common.{◌≡◌, ◌+◌, ◌⊎◌, ℕ, Bool, true, false, List, [], ◌∷◌, ◌++◌, map, filter, get_or, refl, ap, ap₂, sym, ◌∙◌, inl, inr, arith}
use Rattle.std.specs.Prelude.{not, Option, None, Some, slice_get, slice_index_or}
use Rattle.std.specs.List.{flat_map, list_any, range_with_len}
use Rattle.std.proofs.lemmas.Bool.{cases_Bool}
use Rattle.std.proofs.lemmas.List.{get_or-map, length-map, map-id}
use Rattle.kql_cells.specs.Named.{column_name, place_of}
use Rattle.kql_cells.specs.Seen.{row_at}
use Rattle.kql_cells.specs.Table.{Grid, gathered}
use Rattle.kql_cells.specs.declared.value.Value.{Value}
use Rattle.kql_bound.specs.declared.parts.JoinKind.{JoinKind}
use Rattle.kql_bound.specs.declared.parts.JoinKind.TheVariants as join
use Rattle.kql_bound.specs.declared.parts.JoinPlan.{JoinPlan}
use Rattle.kql_bound.specs.declared.parts.OnPair.{OnPair}
use Rattle.kql_meaning.specs.Groups.{firsts_of_keys, is_first_of_key}
use Rattle.kql_meaning.specs.Join.{both_rows, has_left, has_right, inner_rows, join_rows, keys_match, left_alone, left_key, left_outer_rows, matches_left, matches_right, or_one, pairs_of_left, pairs_of_right, right_alone, right_outer_rows, rows_match, shown_row, unmatched_right_rows}
use Rattle.kql_meaning.specs.Tables.{absent_in, absent_row, cell, cell_in, places, places_below}
use Rattle.kql_meaning.proofs.JoinLaws.{map-map}
use Rattle.kql_values.specs.Moves.{beside, row_or_absent}
use Rattle.join_op.specs.Pairs.{given, has_lead, join_pairs, lead_rows, pairs_by, row_rule, shows_both}
use Rattle.join_op.specs.Shown.{shown_at}
use Rattle.join_op.specs.Sides.{lead_side, matches_of}
use Rattle.join_op.specs.declared.pairs.RowRule.{RowRule}
use Rattle.join_op.specs.declared.pairs.RowRule.TheVariants as rule
use Rattle.join_op.specs.declared.sides.Side.TheVariants as side
use Rattle.join_op.proofs.ListSteps.{all-same, beside-pairs, filter-same, flat-at, flat-same, map-flat}
use Rattle.join_op.proofs.PairSteps.{one_row}

abbrev pub lead : ℕ × Option ℕ → ℕ
lead p = p.0

abbrev pub other : ℕ × Option ℕ → Option ℕ
other p = p.1

-- Something of each pair, by the rows that lead.
pub of-pairs : {X : Type 0} (h : ℕ × Option ℕ → X) (r : RowRule) (m : ℕ → List ℕ) (leads : List ℕ) → map h (pairs_by r m leads) ≡ flat_map (λ i. map (λ (o : Option ℕ). h (i, o)) (given r (m i))) leads
unfolding pairs_by
of-pairs h r m leads =
    map-flat h (one_row r m) leads
    ∙ flat-same (λ i. map h (one_row r m i)) (λ i. map (λ (o : Option ℕ). h (i, o)) (given r (m i))) leads (λ i. map-map h (λ (o : Option ℕ). (i, o)) (given r (m i)))

left-made : (f : ℕ → List Value) (g : Option ℕ → List Value) (r : RowRule) (m : ℕ → List ℕ) (leads : List ℕ)
    → beside (map f (map lead (pairs_by r m leads))) (map g (map other (pairs_by r m leads))) ≡ flat_map (λ i. map (λ (o : Option ℕ). f i ++ g o) (given r (m i))) leads
left-made f g r m leads =
    let ps = pairs_by r m leads in
    ap₂ (λ (xs ys : List (List Value)). beside xs ys) (map-map f lead ps) (map-map g other ps)
    ∙ (beside-pairs (λ (p : ℕ × Option ℕ). f p.0) (λ (p : ℕ × Option ℕ). g p.1) ps ∙ of-pairs (λ (p : ℕ × Option ℕ). f p.0 ++ g p.1) r m leads)

right-made : (f : Option ℕ → List Value) (g : Option ℕ → List Value) (r : RowRule) (m : ℕ → List ℕ) (leads : List ℕ)
    → beside (map g (map other (pairs_by r m leads))) (map f (map (λ i. Some i) (map lead (pairs_by r m leads)))) ≡ flat_map (λ i. map (λ (o : Option ℕ). g o ++ f (Some i)) (given r (m i))) leads
right-made f g r m leads =
    let ps = pairs_by r m leads in
    ap₂ (λ (xs ys : List (List Value)). beside xs ys) (map-map g other ps) (map-map f (λ i. Some i) (map lead ps) ∙ map-map (λ i. f (Some i)) lead ps)
    ∙ (beside-pairs (λ (p : ℕ × Option ℕ). g p.1) (λ (p : ℕ × Option ℕ). f (Some p.0)) ps ∙ of-pairs (λ (p : ℕ × Option ℕ). g p.1 ++ f (Some p.0)) r m leads)

-- What a row gives.

each : {X : Type 0} (h : Option ℕ → X) (js : List ℕ) → map h (given rule.EachMatch js) ≡ map (λ j. h (Some j)) js
unfolding given
each h js = map-map h (λ j. Some j) js

each-or-alone : (h : Option ℕ → List Value) (js : List ℕ) → map h (given rule.EachMatchOrAlone js) ≡ or_one (map (λ j. h (Some j)) js) (h None)
unfolding given or_one
each-or-alone h [] = refl
each-or-alone h (j ∷ js) = ap (λ rows. h (Some j) ∷ rows) (map-map h (λ j. Some j) js)

abbrev Some-pass : (ℕ → Bool) → List ℕ → Type 0
Some-pass p js = (list_any p js ≡ true) × (given rule.OnceIfMatched (filter p js) ≡ None ∷ []) × (given rule.OnceIfUnmatched (filter p js) ≡ [])

abbrev None-pass : (ℕ → Bool) → List ℕ → Type 0
None-pass p js = (list_any p js ≡ false) × (given rule.OnceIfMatched (filter p js) ≡ []) × (given rule.OnceIfUnmatched (filter p js) ≡ None ∷ [])

some-or-none : (p : ℕ → Bool) (js : List ℕ) → Some-pass p js ⊎ None-pass p js
unfolding given
some-or-none p [] = inr (refl, refl, refl)
some-or-none p (j ∷ js) = elim (cases_Bool (p j)) [
  | inl t ↦ inl (rw t (refl, refl, refl))
  | inr f ↦ rw f (some-or-none p js)
]

once-matched : {X : Type 0} (h : ℕ → Option ℕ → X) (p : ℕ → ℕ → Bool) (js leads : List ℕ) → flat_map (λ i. map (h i) (given rule.OnceIfMatched (filter (p i) js))) leads ≡ map (λ i. h i None) (filter (λ i. list_any (p i) js) leads)
once-matched h p js [] = refl
once-matched h p js (i ∷ is) = elim (some-or-none (p i) js) [
  | inl s ↦ rw (s.0, s.1) (ap (λ rows. h i None ∷ rows) (once-matched h p js is))
  | inr n ↦ rw (n.0, n.1) (once-matched h p js is)
]

once-unmatched : {X : Type 0} (h : ℕ → Option ℕ → X) (p : ℕ → ℕ → Bool) (js leads : List ℕ) → flat_map (λ i. map (h i) (given rule.OnceIfUnmatched (filter (p i) js))) leads ≡ map (λ i. h i None) (filter (λ i. not (list_any (p i) js)) leads)
once-unmatched h p js [] = refl
once-unmatched h p js (i ∷ is) = elim (some-or-none (p i) js) [
  | inl s ↦ rw (s.0, s.2) (once-unmatched h p js is)
  | inr n ↦ rw (n.0, n.2) (ap (λ rows. h i None ∷ rows) (once-unmatched h p js is))
]

-- Rows that the left side leads.

abbrev left_row : JoinPlan → Grid → Grid → ℕ → Option ℕ → List Value
left_row j a b i o = row_at a.lines i ++ shown_at j b o

left-each : (j : JoinPlan) (a b : Grid) (leads : List ℕ) → flat_map (λ i. map (left_row j a b i) (given rule.EachMatch (matches_right j.on a b i))) leads ≡ flat_map (pairs_of_left j a b) leads
unfolding shown_at both_rows pairs_of_left
left-each j a b leads =
    flat-same (λ i. map (left_row j a b i) (given rule.EachMatch (matches_right j.on a b i))) (pairs_of_left j a b) leads (λ i. each (left_row j a b i) (matches_right j.on a b i))

left-each-or-alone : (j : JoinPlan) (a b : Grid) (leads : List ℕ)
    → flat_map (λ i. map (left_row j a b i) (given rule.EachMatchOrAlone (matches_right j.on a b i))) leads ≡ flat_map (λ i. or_one (pairs_of_left j a b i) (left_alone j a b i)) leads
unfolding shown_at both_rows pairs_of_left left_alone
left-each-or-alone j a b leads =
    flat-same (λ i. map (left_row j a b i) (given rule.EachMatchOrAlone (matches_right j.on a b i))) (λ i. or_one (pairs_of_left j a b i) (left_alone j a b i)) leads (λ i. each-or-alone (left_row j a b i) (matches_right j.on a b i))

-- Innerunique is inner over the first rows of each key, and these are rows of the left table.

cell-gathered : (a : Grid) (fs : List ℕ) (m i : ℕ) (o : Option ℕ) → row_at (map (row_at a.lines) fs) m ≡ row_at a.lines i → cell_in (gathered a fs) m o ≡ cell_in a i o
unfolding cell_in
cell-gathered a fs m i None e = refl
cell-gathered a fs m i (Some p) e = ap (λ row. slice_index_or row p (absent_in (slice_get a.columns p))) e

match-gathered : (on : List OnPair) (a b : Grid) (fs : List ℕ) (m i k : ℕ) → row_at (map (row_at a.lines) fs) m ≡ row_at a.lines i → rows_match on (gathered a fs) b m k ≡ rows_match on a b i k
unfolding rows_match cell
match-gathered on a b fs m i k e =
    all-same (λ (p : OnPair). keys_match (cell (gathered a fs) m p.left) (cell b k p.right)) (λ (p : OnPair). keys_match (cell a i p.left) (cell b k p.right)) on (λ p.
    ap (λ v. keys_match v (cell b k p.right)) (cell-gathered a fs m i (place_of column_name p.left a.columns) e))

pairs-gathered : (j : JoinPlan) (a b : Grid) (fs : List ℕ) (m i : ℕ) → row_at (map (row_at a.lines) fs) m ≡ row_at a.lines i → pairs_of_left j (gathered a fs) b m ≡ pairs_of_left j a b i
unfolding pairs_of_left matches_right both_rows
pairs-gathered j a b fs m i e =
    ap₂ (λ (row : List Value) (ks : List ℕ). map (λ k. row ++ shown_row j b k) ks) e (filter-same (rows_match j.on (gathered a fs) b m) (rows_match j.on a b i) (places b) (λ k. match-gathered j.on a b fs m i k e))

inner-gathered : (j : JoinPlan) (a b : Grid) (fs : List ℕ) → inner_rows j (gathered a fs) b ≡ flat_map (pairs_of_left j a b) fs
unfolding inner_rows places places_below
inner-gathered j a b fs =
    let f = pairs_of_left j (gathered a fs) b in
    ap (λ n. flat_map f (range_with_len 0 n)) (length-map fs (row_at a.lines))
    ∙ flat-at f (pairs_of_left j a b) fs 0 (λ m lt.
    let z : 0 + m ≡ m = omega arith in
    ap f z ∙ pairs-gathered j a b fs m (get_or fs m 0) (get_or-map (row_at a.lines) fs m 0 [] lt))

inner-unique : (j : JoinPlan) (a b : Grid) → inner_rows j (firsts_of_keys (left_key j.on a) a) b ≡ flat_map (pairs_of_left j a b) (filter (is_first_of_key (left_key j.on a)) (places a))
unfolding firsts_of_keys
inner-unique j a b = inner-gathered j a b (filter (is_first_of_key (left_key j.on a)) (places a))

pub left-rows : (k : JoinKind) (j : JoinPlan) (a b : Grid) → has_lead k ≡ true → shows_both k ≡ true → lead_side k ≡ side.Left
    → beside (map (row_at a.lines) (map lead (join_pairs k j.on a b))) (map (shown_at j b) (map other (join_pairs k j.on a b))) ≡ join_rows k j a b
unfolding has_lead shows_both lead_side join_pairs row_rule matches_of lead_rows join_rows inner_rows left_outer_rows
left-rows join.InnerUnique j a b led both left =
    let leads = filter (is_first_of_key (left_key j.on a)) (places a) in
    left-made (row_at a.lines) (shown_at j b) rule.EachMatch (matches_right j.on a b) leads ∙ (left-each j a b leads ∙ sym (inner-unique j a b))
left-rows join.Inner j a b led both left =
    left-made (row_at a.lines) (shown_at j b) rule.EachMatch (matches_right j.on a b) (places a) ∙ left-each j a b (places a)
left-rows join.LeftOuter j a b led both left =
    left-made (row_at a.lines) (shown_at j b) rule.EachMatchOrAlone (matches_right j.on a b) (places a) ∙ left-each-or-alone j a b (places a)
left-rows join.RightOuter j a b led both left = cc
left-rows join.FullOuter j a b led both left = cc
left-rows join.LeftSemi j a b led both left = cc
left-rows join.LeftAnti j a b led both left = cc
left-rows join.RightSemi j a b led both left = cc
left-rows join.RightAnti j a b led both left = cc

-- The rows of the left side alone.

leads-matched : (p : ℕ → ℕ → Bool) (js leads : List ℕ) → map lead (pairs_by rule.OnceIfMatched (λ i. filter (p i) js) leads) ≡ filter (λ i. list_any (p i) js) leads
leads-matched p js leads =
    of-pairs lead rule.OnceIfMatched (λ i. filter (p i) js) leads
    ∙ (once-matched (λ (i : ℕ) (o : Option ℕ). i) p js leads ∙ map-id (filter (λ i. list_any (p i) js) leads))

leads-unmatched : (p : ℕ → ℕ → Bool) (js leads : List ℕ) → map lead (pairs_by rule.OnceIfUnmatched (λ i. filter (p i) js) leads) ≡ filter (λ i. not (list_any (p i) js)) leads
leads-unmatched p js leads =
    of-pairs lead rule.OnceIfUnmatched (λ i. filter (p i) js) leads
    ∙ (once-unmatched (λ (i : ℕ) (o : Option ℕ). i) p js leads ∙ map-id (filter (λ i. not (list_any (p i) js)) leads))

pub left-only : (k : JoinKind) (j : JoinPlan) (a b : Grid) → shows_both k ≡ false → lead_side k ≡ side.Left → map (row_at a.lines) (map lead (join_pairs k j.on a b)) ≡ join_rows k j a b
unfolding shows_both lead_side join_pairs row_rule matches_of lead_rows join_rows matches_right has_right
left-only join.LeftSemi j a b one left = ap (map (row_at a.lines)) (leads-matched (λ i k. rows_match j.on a b i k) (places b) (places a))
left-only join.LeftAnti j a b one left = ap (map (row_at a.lines)) (leads-unmatched (λ i k. rows_match j.on a b i k) (places b) (places a))
left-only join.RightSemi j a b one left = cc
left-only join.RightAnti j a b one left = cc
left-only join.InnerUnique j a b one left = cc
left-only join.Inner j a b one left = cc
left-only join.LeftOuter j a b one left = cc
left-only join.RightOuter j a b one left = cc
left-only join.FullOuter j a b one left = cc

-- Rows that the right side leads.

abbrev right_row : JoinPlan → Grid → Grid → ℕ → Option ℕ → List Value
right_row j a b k o = row_or_absent a o ++ shown_at j b (Some k)

right-each-or-alone : (j : JoinPlan) (a b : Grid) (leads : List ℕ)
    → flat_map (λ k. map (right_row j a b k) (given rule.EachMatchOrAlone (matches_left j.on a b k))) leads ≡ flat_map (λ k. or_one (pairs_of_right j a b k) (right_alone j a b k)) leads
unfolding shown_at both_rows pairs_of_right right_alone absent_row
right-each-or-alone j a b leads =
    flat-same (λ k. map (right_row j a b k) (given rule.EachMatchOrAlone (matches_left j.on a b k))) (λ k. or_one (pairs_of_right j a b k) (right_alone j a b k)) leads (λ k. each-or-alone (right_row j a b k) (matches_left j.on a b k))

right-unmatched : (j : JoinPlan) (a b : Grid) (leads : List ℕ)
    → flat_map (λ k. map (right_row j a b k) (given rule.OnceIfUnmatched (matches_left j.on a b k))) leads ≡ map (right_alone j a b) (filter (λ k. not (has_left j.on a b k)) leads)
unfolding shown_at right_alone absent_row matches_left has_left
right-unmatched j a b leads = once-unmatched (right_row j a b) (λ k i. rows_match j.on a b i k) (places a) leads

pub right-rows : (k : JoinKind) (j : JoinPlan) (a b : Grid) → shows_both k ≡ true → lead_side k ≡ side.Right
    → beside (map (row_or_absent a) (map other (join_pairs k j.on b a))) (map (shown_at j b) (map (λ i. Some i) (map lead (join_pairs k j.on b a)))) ≡ join_rows k j a b
unfolding shows_both lead_side join_pairs row_rule matches_of lead_rows join_rows right_outer_rows
right-rows join.RightOuter j a b both right =
    right-made (shown_at j b) (row_or_absent a) rule.EachMatchOrAlone (matches_left j.on a b) (places b) ∙ right-each-or-alone j a b (places b)
right-rows join.InnerUnique j a b both right = cc
right-rows join.Inner j a b both right = cc
right-rows join.LeftOuter j a b both right = cc
right-rows join.FullOuter j a b both right = cc
right-rows join.LeftSemi j a b both right = cc
right-rows join.LeftAnti j a b both right = cc
right-rows join.RightSemi j a b both right = cc
right-rows join.RightAnti j a b both right = cc

pub right-only : (k : JoinKind) (j : JoinPlan) (a b : Grid) → shows_both k ≡ false → lead_side k ≡ side.Right → map (row_at b.lines) (map lead (join_pairs k j.on b a)) ≡ join_rows k j a b
unfolding shows_both lead_side join_pairs row_rule matches_of lead_rows join_rows matches_left has_left
right-only join.RightSemi j a b one right = ap (map (row_at b.lines)) (leads-matched (λ k i. rows_match j.on a b i k) (places a) (places b))
right-only join.RightAnti j a b one right = ap (map (row_at b.lines)) (leads-unmatched (λ k i. rows_match j.on a b i k) (places a) (places b))
right-only join.LeftSemi j a b one right = cc
right-only join.LeftAnti j a b one right = cc
right-only join.InnerUnique j a b one right = cc
right-only join.Inner j a b one right = cc
right-only join.LeftOuter j a b one right = cc
right-only join.RightOuter j a b one right = cc
right-only join.FullOuter j a b one right = cc

-- Rows of fullouter.

pub full-left : (j : JoinPlan) (a b : Grid)
    → beside (map (row_or_absent a) (map (λ i. Some i) (map lead (join_pairs join.LeftOuter j.on a b)))) (map (shown_at j b) (map other (join_pairs join.LeftOuter j.on a b))) ≡ left_outer_rows j a b
unfolding lead_side join_pairs row_rule matches_of lead_rows left_outer_rows
full-left j a b =
    let ps = pairs_by rule.EachMatchOrAlone (matches_right j.on a b) (places a) in
    ap (λ xs. beside xs (map (shown_at j b) (map other ps))) (map-map (row_or_absent a) (λ i. Some i) (map lead ps))
    ∙ (left-made (row_at a.lines) (shown_at j b) rule.EachMatchOrAlone (matches_right j.on a b) (places a) ∙ left-each-or-alone j a b (places a))

pub full-right : (j : JoinPlan) (a b : Grid)
    → beside (map (row_or_absent a) (map other (join_pairs join.RightAnti j.on b a))) (map (shown_at j b) (map (λ i. Some i) (map lead (join_pairs join.RightAnti j.on b a)))) ≡ unmatched_right_rows j a b
unfolding lead_side join_pairs row_rule matches_of lead_rows unmatched_right_rows
full-right j a b =
    right-made (shown_at j b) (row_or_absent a) rule.OnceIfUnmatched (matches_left j.on a b) (places b) ∙ right-unmatched j a b (places b)

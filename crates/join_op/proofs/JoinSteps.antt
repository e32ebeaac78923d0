-- The tables of the kinds of join.
use Rattle.std.proofs.Common.{◌≡◌, ◌<◌, ◌≤◌, ◌+◌, ℕ, Bool, true, false, List, [], ◌∷◌, ◌++◌, map, length, length-append, refl, ap, ap₂, sym, ◌∙◌, subst, inl, inr, arith}
use Rattle.std.specs.Prelude.{All, AllPairs, Option, Some}
use Rattle.std.specs.List.{AllByRecursion, flat_map}
use Rattle.std.proofs.lemmas.List.{length-map, map-append}
use Rattle.std.proofs.lemmas.List.Elements.{All-append}
use Rattle.kql_cells.specs.Named.{HasDistinctNames, column_name}
use Rattle.kql_cells.specs.Seen.{row_at}
use Rattle.kql_cells.specs.Table.{Grid, gathered}
use Rattle.kql_cells.specs.declared.schema.Column.{Column}
use Rattle.kql_cells.specs.declared.value.Value.{Value}
use Rattle.kql_bound.specs.declared.parts.JoinKind.{JoinKind}
use Rattle.kql_bound.specs.declared.parts.JoinKind.TheVariants as join
use Rattle.kql_bound.specs.declared.parts.JoinPlan.{JoinPlan}
use Rattle.kql_bound.specs.declared.parts.OnPair.{OnPair}
use Rattle.kql_meaning.specs.FittingOperators.{join_fits}
use Rattle.kql_meaning.specs.Groups.{is_first_of_key}
use Rattle.kql_meaning.specs.Join.{both_columns, join_columns, join_rows, join_table, left_key, matches_left, matches_right, rows_match}
use Rattle.kql_meaning.specs.Tables.{places, places_below}
use Rattle.kql_meaning.proofs.JoinLaws.{map-map}
use Rattle.kql_meaning.proofs.MemberLaws.{Member, Pairwise, member-of-filter, member-of-flat, every-of-members, member-of-map, of-member, pairs-of, pairwise-append, pairwise-filter, pairwise-range}
use Rattle.kql_fit_laws.proofs.RowFacts.{all-members, place-below}
use Rattle.kql_values.specs.Moves.{IsWithin, beside, gathered_or_absent, row_or_absent}
use Rattle.join_op.specs.Led.{columns_led, pairs_led, pairs_table, places_table}
use Rattle.join_op.specs.Pairs.{given, has_lead, join_leads, join_pairs, lead_rows, pairs_by, pairs_joined, row_rule, shows_both}
use Rattle.join_op.specs.Shown.{row_shown, shown_at}
use Rattle.join_op.specs.Sides.{have_keys, lead_of, lead_side, matches_of, opposite}
use Rattle.join_op.specs.declared.pairs.RowRule.{RowRule}
use Rattle.join_op.specs.declared.pairs.RowRule.TheVariants as rule
use Rattle.join_op.specs.declared.sides.Side.{Side}
use Rattle.join_op.specs.declared.sides.Side.TheVariants as side
use Rattle.join_op.proofs.KeySteps.{left-keys, right-keys}
use Rattle.join_op.proofs.ListSteps.{beside-append}
use Rattle.join_op.proofs.MatchSteps.{lead-inside}
use Rattle.join_op.proofs.PairedSteps.{absent-columns, grid, paired, rows-of-left, rows-of-right}
use Rattle.join_op.proofs.RowSteps.{full-left, full-right, lead, left-only, left-rows, of-pairs, other, right-only, right-rows}

-- The keys of the side that leads, and of the other.

pub left-led-keys : (j : JoinPlan) (l r : List Column) → lead_side j.kind ≡ side.Left → join_fits j l r ≡ true → have_keys (lead_side j.kind) j.on l ≡ true
left-led-keys j l r s e = ap (λ x. have_keys x j.on l) s ∙ left-keys j l r e

pub left-led-others : (j : JoinPlan) (l r : List Column) → lead_side j.kind ≡ side.Left → join_fits j l r ≡ true → have_keys (opposite (lead_side j.kind)) j.on r ≡ true
unfolding opposite
left-led-others j l r s e = ap (λ x. have_keys (opposite x) j.on r) s ∙ right-keys j l r e

pub right-led-keys : (j : JoinPlan) (l r : List Column) → lead_side j.kind ≡ side.Right → join_fits j l r ≡ true → have_keys (lead_side j.kind) j.on r ≡ true
right-led-keys j l r s e = ap (λ x. have_keys x j.on r) s ∙ right-keys j l r e

pub right-led-others : (j : JoinPlan) (l r : List Column) → lead_side j.kind ≡ side.Right → join_fits j l r ≡ true → have_keys (opposite (lead_side j.kind)) j.on l ≡ true
unfolding opposite
right-led-others j l r s e = ap (λ x. have_keys (opposite x) j.on l) s ∙ left-keys j l r e

pub outer-keys : (j : JoinPlan) (l r : List Column) → join_fits j l r ≡ true → have_keys (lead_side join.LeftOuter) j.on l ≡ true
unfolding lead_side
outer-keys j l r e = left-keys j l r e

pub outer-others : (j : JoinPlan) (l r : List Column) → join_fits j l r ≡ true → have_keys (opposite (lead_side join.LeftOuter)) j.on r ≡ true
unfolding lead_side opposite
outer-others j l r e = right-keys j l r e

pub anti-keys : (j : JoinPlan) (l r : List Column) → join_fits j l r ≡ true → have_keys (lead_side join.RightAnti) j.on r ≡ true
unfolding lead_side
anti-keys j l r e = right-keys j l r e

pub anti-others : (j : JoinPlan) (l r : List Column) → join_fits j l r ≡ true → have_keys (opposite (lead_side join.RightAnti)) j.on l ≡ true
unfolding lead_side opposite
anti-others j l r e = left-keys j l r e

-- Places stand inside their tables.

matched-inside : (s : Side) (on : List OnPair) (a b : Grid) (i j : ℕ) → Member j (matches_of s on a b i) → j < length b.lines
unfolding matches_of matches_right matches_left
matched-inside side.Left on a b i j m = place-below b j (member-of-filter (rows_match on a b i) (places b) j m).0
matched-inside side.Right on a b i j m = place-below b j (member-of-filter (λ k. rows_match on b a k i) (places b) j m).0

some-inside : (n : ℕ) (js : List ℕ) (o : Option ℕ) → ((j : ℕ) → Member j js → j < n) → Member o (map (λ j. Some j) js) → IsWithin n o
some-inside n js o h m = let q = member-of-map (λ j. Some j) js o m in subst (IsWithin n) q.2 (h q.0 q.1)

given-inside : (n : ℕ) (r : RowRule) (js : List ℕ) (o : Option ℕ) → ((j : ℕ) → Member j js → j < n) → Member o (given r js) → IsWithin n o
unfolding given
given-inside n rule.EachMatch js o h m = some-inside n js o h m
given-inside n rule.EachMatchOrAlone [] o h (inl e) = subst (IsWithin n) e tt
given-inside n rule.EachMatchOrAlone [] o h (inr m) = absurd m
given-inside n rule.EachMatchOrAlone (j ∷ js) o h m = some-inside n (j ∷ js) o h m
given-inside n rule.OnceIfMatched [] o h m = absurd m
given-inside n rule.OnceIfMatched (j ∷ js) o h (inl e) = subst (IsWithin n) e tt
given-inside n rule.OnceIfMatched (j ∷ js) o h (inr m) = absurd m
given-inside n rule.OnceIfUnmatched [] o h (inl e) = subst (IsWithin n) e tt
given-inside n rule.OnceIfUnmatched [] o h (inr m) = absurd m
given-inside n rule.OnceIfUnmatched (j ∷ js) o h m = absurd m

-- The pairs of any rows of the side that leads.
pub led-inside : (k : JoinKind) (on : List OnPair) (a b : Grid) (leads : List ℕ) → ((i : ℕ) → Member i leads → i < length a.lines) → (p : ℕ × Option ℕ) → Member p (pairs_led k on a b leads) → (p.0 < length a.lines) × IsWithin (length b.lines) p.1
unfolding pairs_led pairs_by
led-inside k on a b leads within p m =
    let rows = λ (i : ℕ). map (λ (o : Option ℕ). (i, o)) (given (row_rule k) (matches_of (lead_side k) on a b i)) in
    let q = member-of-flat rows leads p m in
    let z = member-of-map (λ (o : Option ℕ). (q.0, o)) (given (row_rule k) (matches_of (lead_side k) on a b q.0)) p q.2 in (
      subst (λ (x : ℕ × Option ℕ). x.0 < length a.lines) z.2 (within q.0 q.1),
      subst (λ (x : ℕ × Option ℕ). IsWithin (length b.lines) x.1) z.2 (given-inside (length b.lines) (row_rule k) (matches_of (lead_side k) on a b q.0) z.0 (matched-inside (lead_side k) on a b q.0) z.1),
    )

pair-inside : (k : JoinKind) (on : List OnPair) (a b : Grid) (p : ℕ × Option ℕ) → Member p (join_pairs k on a b) → (p.0 < length a.lines) × IsWithin (length b.lines) p.1
unfolding join_pairs pairs_led
pair-inside k on a b p m = led-inside k on a b (lead_rows k on a) (lead-inside k on a) p m

pub leads-inside : (k : JoinKind) (on : List OnPair) (a b : Grid) (leads : List ℕ) → leads ≡ map (λ q. q.0) (join_pairs k on a b) → All (λ i. i < length a.lines) leads
leads-inside k on a b leads e = subst (All (λ i. i < length a.lines)) (sym e) (all-members (λ i. i < length a.lines) (map lead (join_pairs k on a b)) (λ i m.
    let q = member-of-map lead (join_pairs k on a b) i m in
    subst (λ x. x < length a.lines) q.2 (pair-inside k on a b q.0 q.1).0))

pub others-inside : (k : JoinKind) (on : List OnPair) (a b : Grid) (others : List (Option ℕ)) → others ≡ map (λ q. q.1) (join_pairs k on a b) → All (IsWithin (length b.lines)) others
others-inside k on a b others e = subst (All (IsWithin (length b.lines))) (sym e) (all-members (IsWithin (length b.lines)) (map other (join_pairs k on a b)) (λ o m.
    let q = member-of-map other (join_pairs k on a b) o m in
    subst (IsWithin (length b.lines)) q.2 (pair-inside k on a b q.0 q.1).1))

pub somes-inside : (k : JoinKind) (on : List OnPair) (a b : Grid) (leads : List ℕ) (somes : List (Option ℕ)) → leads ≡ map (λ q. q.0) (join_pairs k on a b) → somes ≡ map (λ i. Some i) leads → All (IsWithin (length a.lines)) somes
somes-inside k on a b leads somes e is = subst (All (IsWithin (length a.lines))) (sym (is ∙ ap (map (λ i. Some i)) e)) (all-members (IsWithin (length a.lines)) (map (λ i. Some i) (map lead (join_pairs k on a b))) (λ o m.
    some-inside (length a.lines) (map lead (join_pairs k on a b)) o (λ i n.
    let q = member-of-map lead (join_pairs k on a b) i n in
    subst (λ x. x < length a.lines) q.2 (pair-inside k on a b q.0 q.1).0) m))

same-long : (k : JoinKind) (on : List OnPair) (a b : Grid) → length (map lead (join_pairs k on a b)) ≡ length (map other (join_pairs k on a b))
same-long k on a b = length-map (join_pairs k on a b) lead ∙ sym (length-map (join_pairs k on a b) other)

-- The columns, where those of both sides are shown.
pub both-shown : (k : JoinKind) (j : JoinPlan) (l r : List Column) → shows_both k ≡ true → join_columns k j l r ≡ both_columns j l r
unfolding shows_both join_columns
both-shown join.InnerUnique j l r e = refl
both-shown join.Inner j l r e = refl
both-shown join.LeftOuter j l r e = refl
both-shown join.RightOuter j l r e = refl
both-shown join.FullOuter j l r e = refl
both-shown join.LeftSemi j l r e = cc
both-shown join.LeftAnti j l r e = cc
both-shown join.RightSemi j l r e = cc
both-shown join.RightAnti j l r e = cc

left-shown : (k : JoinKind) (j : JoinPlan) (l r : List Column) → shows_both k ≡ false → lead_side k ≡ side.Left → join_columns k j l r ≡ l
unfolding shows_both join_columns lead_side
left-shown join.LeftSemi j l r e s = refl
left-shown join.LeftAnti j l r e s = refl
left-shown join.RightSemi j l r e s = cc
left-shown join.RightAnti j l r e s = cc
left-shown join.InnerUnique j l r e s = cc
left-shown join.Inner j l r e s = cc
left-shown join.LeftOuter j l r e s = cc
left-shown join.RightOuter j l r e s = cc
left-shown join.FullOuter j l r e s = cc

right-shown : (k : JoinKind) (j : JoinPlan) (l r : List Column) → shows_both k ≡ false → lead_side k ≡ side.Right → join_columns k j l r ≡ r
unfolding shows_both join_columns lead_side
right-shown join.RightSemi j l r e s = refl
right-shown join.RightAnti j l r e s = refl
right-shown join.LeftSemi j l r e s = cc
right-shown join.LeftAnti j l r e s = cc
right-shown join.InnerUnique j l r e s = cc
right-shown join.Inner j l r e s = cc
right-shown join.LeftOuter j l r e s = cc
right-shown join.RightOuter j l r e s = cc
right-shown join.FullOuter j l r e s = cc

pub names-shown : (j : JoinPlan) (a b kept : Grid) → kept.columns ≡ a.columns → shows_both j.kind ≡ true → HasDistinctNames column_name (join_columns j.kind j a.columns b.columns) → HasDistinctNames column_name (both_columns j kept.columns b.columns)
names-shown j a b kept e both h = subst (HasDistinctNames column_name) (both-shown j.kind j a.columns b.columns both ∙ ap (λ cs. both_columns j cs b.columns) (sym e)) h

pub names-both : (j : JoinPlan) (l r : List Column) (both : Bool) → both ≡ shows_both j.kind → HasDistinctNames column_name (join_columns j.kind j l r) → both ≡ true → HasDistinctNames column_name (both_columns j l r)
names-both j l r both e h t = subst (HasDistinctNames column_name) (both-shown j.kind j l r (sym e ∙ t)) h

pub as-long : (k : JoinKind) (on : List OnPair) (a b : Grid) (leads : List ℕ) (others : List (Option ℕ)) → leads ≡ map (λ q. q.0) (join_pairs k on a b) → others ≡ map (λ q. q.1) (join_pairs k on a b) → length leads ≡ length others
as-long k on a b leads others el eo = ap length el ∙ (same-long k on a b ∙ ap length (sym eo))

-- Fullouter.

pub is-full : (k : JoinKind) → has_lead k ≡ false → k ≡ join.FullOuter
unfolding has_lead
is-full join.FullOuter e = refl
is-full join.InnerUnique e = cc
is-full join.Inner e = cc
is-full join.LeftOuter e = cc
is-full join.RightOuter e = cc
is-full join.LeftSemi e = cc
is-full join.LeftAnti e = cc
is-full join.RightSemi e = cc
is-full join.RightAnti e = cc

pub full-shows : (k : JoinKind) → has_lead k ≡ false → shows_both k ≡ true
unfolding shows_both
full-shows k e = let f = is-full k e in rw f refl

-- The rows of fullouter are those of leftouter and then those of the right rows that match none.
full-rows : (j : JoinPlan) (a b : Grid) (lefts rights : List (Option ℕ)) → lefts ≡ map (λ i. Some i) (map lead (join_pairs join.LeftOuter j.on a b)) ++ map other (join_pairs join.RightAnti j.on b a)
    → rights ≡ map other (join_pairs join.LeftOuter j.on a b) ++ map (λ i. Some i) (map lead (join_pairs join.RightAnti j.on b a))
    → beside (map (row_or_absent a) lefts) (map (shown_at j b) rights) ≡ join_rows join.FullOuter j a b
unfolding join_rows
full-rows j a b lefts rights el er =
    let ps = join_pairs join.LeftOuter j.on a b in
    let qs = join_pairs join.RightAnti j.on b a in
    let l1 = map (row_or_absent a) (map (λ i. Some i) (map lead ps)) in
    let l2 = map (row_or_absent a) (map other qs) in
    let r1 = map (shown_at j b) (map other ps) in
    let r2 = map (shown_at j b) (map (λ i. Some i) (map lead qs)) in
    let left : map (row_or_absent a) lefts ≡ l1 ++ l2 = ap (map (row_or_absent a)) el ∙ map-append (row_or_absent a) (map (λ i. Some i) (map lead ps)) (map other qs) in
    let right : map (shown_at j b) rights ≡ r1 ++ r2 = ap (map (shown_at j b)) er ∙ map-append (shown_at j b) (map other ps) (map (λ i. Some i) (map lead qs)) in
    let long : length l1 ≡ length r1 =
    length-map (map (λ i. Some i) (map lead ps)) (row_or_absent a)
    ∙ (length-map (map lead ps) (λ i. Some i) ∙ (same-long join.LeftOuter j.on a b ∙ sym (length-map (map other ps) (shown_at j b)))) in
    ap₂ (λ (xs ys : List (List Value)). beside xs ys) left right
    ∙ (beside-append l1 l2 r1 r2 long ∙ ap₂ (λ (xs ys : List (List Value)). xs ++ ys) (full-left j a b) (full-right j a b))

lefts-are : (j : JoinPlan) (a b : Grid) (leads : List ℕ) (somes none lefts : List (Option ℕ)) → leads ≡ map (λ q. q.0) (join_pairs join.LeftOuter j.on a b) → somes ≡ map (λ i. Some i) leads → none ≡ map (λ q. q.1) (join_pairs join.RightAnti j.on b a)
    → lefts ≡ somes ++ none → lefts ≡ map (λ i. Some i) (map lead (join_pairs join.LeftOuter j.on a b)) ++ map other (join_pairs join.RightAnti j.on b a)
lefts-are j a b leads somes none lefts el es en e = e ∙ ap₂ (λ (xs ys : List (Option ℕ)). xs ++ ys) (es ∙ ap (map (λ i. Some i)) el) en

rights-are : (j : JoinPlan) (a b : Grid) (more : List ℕ) (others somes rights : List (Option ℕ)) → others ≡ map (λ q. q.1) (join_pairs join.LeftOuter j.on a b) → more ≡ map (λ q. q.0) (join_pairs join.RightAnti j.on b a) → somes ≡ map (λ i. Some i) more
    → rights ≡ others ++ somes → rights ≡ map other (join_pairs join.LeftOuter j.on a b) ++ map (λ i. Some i) (map lead (join_pairs join.RightAnti j.on b a))
rights-are j a b more others somes rights eo em es e = e ∙ ap₂ (λ (xs ys : List (Option ℕ)). xs ++ ys) eo (es ∙ ap (map (λ i. Some i)) em)

both-inside : {X : Type 0} (P : X → Type 0) (xs ys zs : List X) → zs ≡ xs ++ ys → All P xs → All P ys → All P zs
both-inside P xs ys zs e h k = subst (All P) (sym e) (All-append P xs ys h k)

pub full-lefts-inside : (j : JoinPlan) (a b : Grid) (leads : List ℕ) (somes none lefts : List (Option ℕ)) → leads ≡ map (λ q. q.0) (join_pairs join.LeftOuter j.on a b) → somes ≡ map (λ i. Some i) leads → none ≡ map (λ q. q.1) (join_pairs join.RightAnti j.on b a)
    → lefts ≡ somes ++ none → All (IsWithin (length a.lines)) lefts
full-lefts-inside j a b leads somes none lefts el es en e =
    both-inside (IsWithin (length a.lines)) somes none lefts e (somes-inside join.LeftOuter j.on a b leads somes el es) (others-inside join.RightAnti j.on b a none en)

pub full-rights-inside : (j : JoinPlan) (a b : Grid) (more : List ℕ) (others somes rights : List (Option ℕ)) → others ≡ map (λ q. q.1) (join_pairs join.LeftOuter j.on a b) → more ≡ map (λ q. q.0) (join_pairs join.RightAnti j.on b a) → somes ≡ map (λ i. Some i) more
    → rights ≡ others ++ somes → All (IsWithin (length b.lines)) rights
full-rights-inside j a b more others somes rights eo em es e =
    both-inside (IsWithin (length b.lines)) others somes rights e (others-inside join.LeftOuter j.on a b others eo) (somes-inside join.RightAnti j.on b a more somes em es)

pub full-count : (j : JoinPlan) (a b kept : Grid) (leads more : List ℕ) (others none somes rest lefts rights : List (Option ℕ)) → leads ≡ map (λ q. q.0) (join_pairs join.LeftOuter j.on a b) → others ≡ map (λ q. q.1) (join_pairs join.LeftOuter j.on a b)
    → more ≡ map (λ q. q.0) (join_pairs join.RightAnti j.on b a) → none ≡ map (λ q. q.1) (join_pairs join.RightAnti j.on b a) → somes ≡ map (λ i. Some i) leads → rest ≡ map (λ i. Some i) more
    → lefts ≡ somes ++ none → rights ≡ others ++ rest → kept ≡ gathered_or_absent a lefts → length kept.lines ≡ length rights
full-count j a b kept leads more others none somes rest lefts rights el eo em en es er e f k =
    let first : length somes ≡ length others = ap length es ∙ (length-map leads (λ i. Some i) ∙ (ap length el ∙ (same-long join.LeftOuter j.on a b ∙ ap length (sym eo)))) in
    let second : length rest ≡ length none = ap length er ∙ (length-map more (λ i. Some i) ∙ (ap length em ∙ (same-long join.RightAnti j.on b a ∙ ap length (sym en)))) in
    let whole : length lefts ≡ length rights = ap length e ∙ (length-append somes none ∙ (ap₂ (λ x y. x + y) first (sym second) ∙ (sym (length-append others rest) ∙ ap length (sym f)))) in
    ap (λ (g : Grid). length g.lines) k ∙ (length-map lefts (row_or_absent a) ∙ whole)

pub full-joined : (j : JoinPlan) (a b kept made : Grid) (leads more : List ℕ) (others none somes rest lefts rights : List (Option ℕ)) → has_lead j.kind ≡ false
    → leads ≡ map (λ q. q.0) (join_pairs join.LeftOuter j.on a b) → others ≡ map (λ q. q.1) (join_pairs join.LeftOuter j.on a b)
    → more ≡ map (λ q. q.0) (join_pairs join.RightAnti j.on b a) → none ≡ map (λ q. q.1) (join_pairs join.RightAnti j.on b a) → somes ≡ map (λ i. Some i) leads → rest ≡ map (λ i. Some i) more
    → lefts ≡ somes ++ none → rights ≡ others ++ rest → kept ≡ gathered_or_absent a lefts
    → made ≡ record { columns = both_columns j kept.columns b.columns; lines = beside kept.lines (map (shown_at j b) rights) } → made ≡ join_table j a b
unfolding join_table
full-joined j a b kept made leads more others none somes rest lefts rights full el eo em en es er e f ek made-is =
    let columns : both_columns j kept.columns b.columns ≡ join_columns j.kind j a.columns b.columns = ap (λ cs. both_columns j cs b.columns) (absent-columns a kept lefts ek) ∙ sym (both-shown j.kind j a.columns b.columns (full-shows j.kind full)) in
    let rows = full-rows j a b lefts rights (lefts-are j a b leads somes none lefts el es en e) (rights-are j a b more others rest rights eo em er f) in
    made-is ∙ ap₂ grid columns (ap (λ xs. beside xs (map (shown_at j b) rights)) (ap (λ (g : Grid). g.lines) ek) ∙ (rows ∙ ap (λ k. join_rows k j a b) (sym (is-full j.kind full))))

-- The rows that lead do not fall.

every-same : (i : ℕ) (os : List (Option ℕ)) → AllByRecursion (λ (y : ℕ). i ≤ y) (map (λ (o : Option ℕ). i) os)
every-same i [] = tt
every-same i (o ∷ os) = (omega arith, every-same i os)

pairwise-same : (i : ℕ) (os : List (Option ℕ)) → Pairwise (λ (x y : ℕ). x ≤ y) (map (λ (o : Option ℕ). i) os)
pairwise-same i [] = tt
pairwise-same i (o ∷ os) = (every-same i os, pairwise-same i os)

every-above : (i : ℕ) (g : ℕ → List (Option ℕ)) (leads : List ℕ) → AllByRecursion (λ (y : ℕ). i ≤ y) leads → (z : ℕ) → Member z (flat_map (λ k. map (λ (o : Option ℕ). k) (g k)) leads) → i ≤ z
every-above i g leads h z m =
    let q = member-of-flat (λ k. map (λ (o : Option ℕ). k) (g k)) leads z m in
    let w = member-of-map (λ (o : Option ℕ). q.0) (g q.0) z q.2 in
    subst (λ x. i ≤ x) w.2 (of-member (λ (y : ℕ). i ≤ y) leads q.0 h q.1)

flat-rises : (g : ℕ → List (Option ℕ)) (leads : List ℕ) → Pairwise (λ (x y : ℕ). x < y) leads → Pairwise (λ (x y : ℕ). x ≤ y) (flat_map (λ k. map (λ (o : Option ℕ). k) (g k)) leads)
flat-rises g [] h = tt
flat-rises g (i ∷ is) h =
    pairwise-append (λ (x y : ℕ). x ≤ y) (map (λ (o : Option ℕ). i) (g i)) (flat_map (λ k. map (λ (o : Option ℕ). k) (g k)) is) (pairwise-same i (g i)) (flat-rises g is h.1) (λ x y m n.
    let w = member-of-map (λ (o : Option ℕ). i) (g i) x m in
    let above = every-above i g is (weaker i is h.0) y n in
    omega (arith, w.2, above))
  where
    weaker : (i : ℕ) (xs : List ℕ) → AllByRecursion (λ (y : ℕ). i < y) xs → AllByRecursion (λ (y : ℕ). i ≤ y) xs
    weaker i xs h = every-of-members (λ (y : ℕ). i ≤ y) xs (λ y m. let lt = of-member (λ (y : ℕ). i < y) xs y h m in omega (arith, lt))

rows-rise : (k : JoinKind) (on : List OnPair) (t : Grid) → Pairwise (λ (x y : ℕ). x < y) (lead_rows k on t)
unfolding lead_rows places places_below
rows-rise join.InnerUnique on t = pairwise-filter (λ (x y : ℕ). x < y) (is_first_of_key (left_key on t)) (places t) (pairwise-range 0 (length t.lines))
rows-rise join.Inner on t = pairwise-range 0 (length t.lines)
rows-rise _ on t = pairwise-range 0 (length t.lines)

leads-rise : (k : JoinKind) (on : List OnPair) (a b : Grid) → AllPairs (λ (x y : ℕ). x ≤ y) (map lead (join_pairs k on a b))
unfolding join_pairs
leads-rise k on a b =
    let g = λ (i : ℕ). given (row_rule k) (matches_of (lead_side k) on a b i) in
    subst (AllPairs (λ (x y : ℕ). x ≤ y)) (sym (of-pairs lead (row_rule k) (matches_of (lead_side k) on a b) (lead_rows k on a)))
    (pairs-of (λ (x y : ℕ). x ≤ y) (flat_map (λ i. map (λ (o : Option ℕ). i) (g i)) (lead_rows k on a)) (flat-rises g (lead_rows k on a) (rows-rise k on a)))

pub rise : (k : JoinKind) (on : List OnPair) (a b : Grid) (leads : List ℕ) → leads ≡ map (λ q. q.0) (join_pairs k on a b) → AllPairs (λ (x y : ℕ). x ≤ y) leads
rise k on a b leads e = subst (AllPairs (λ (x y : ℕ). x ≤ y)) (sym e) (leads-rise k on a b)

pub left-leads : (j : JoinPlan) (a b : Grid) (leads : List ℕ) → lead_side j.kind ≡ side.Left → leads ≡ map (λ q. q.0) (join_pairs j.kind j.on a b) → leads ≡ join_leads j a b
unfolding join_leads pairs_joined lead_of opposite
left-leads j a b leads s e = e ∙ sym (ap (λ x. map lead (join_pairs j.kind j.on (lead_of x a b) (lead_of (opposite x) a b))) s)

pub right-leads : (j : JoinPlan) (a b : Grid) (leads : List ℕ) → lead_side j.kind ≡ side.Right → leads ≡ map (λ q. q.0) (join_pairs j.kind j.on b a) → leads ≡ join_leads j a b
unfolding join_leads pairs_joined lead_of opposite
right-leads j a b leads s e = e ∙ sym (ap (λ x. map lead (join_pairs j.kind j.on (lead_of x a b) (lead_of (opposite x) a b))) s)

-- Each row of the answer is that of its pair.

rows-by : (j : JoinPlan) (a b : Grid) (both : Bool) (s : Side) → has_lead j.kind ≡ true → shows_both j.kind ≡ both → lead_side j.kind ≡ s → join_rows j.kind j a b ≡ map (row_shown both s j a b) (join_pairs j.kind j.on (lead_of s a b) (lead_of (opposite s) a b))
unfolding lead_of opposite row_shown
rows-by j a b true side.Left led e s = sym (left-rows j.kind j a b led e s) ∙ rows-of-left j a b (join_pairs j.kind j.on a b)
rows-by j a b true side.Right led e s = sym (right-rows j.kind j a b e s) ∙ rows-of-right j a b (join_pairs j.kind j.on b a)
rows-by j a b false side.Left led e s = sym (left-only j.kind j a b e s) ∙ map-map (row_at a.lines) lead (join_pairs j.kind j.on a b)
rows-by j a b false side.Right led e s = sym (right-only j.kind j a b e s) ∙ map-map (row_at b.lines) lead (join_pairs j.kind j.on b a)

columns-by : (j : JoinPlan) (l r : List Column) (both : Bool) (s : Side) → shows_both j.kind ≡ both → lead_side j.kind ≡ s → join_columns j.kind j l r ≡ columns_led both s j l r
unfolding columns_led
columns-by j l r true s e side = both-shown j.kind j l r e
columns-by j l r false side.Left e s = left-shown j.kind j l r e s
columns-by j l r false side.Right e s = right-shown j.kind j l r e s

pub joined-by : (j : JoinPlan) (a b : Grid) (both : Bool) (s : Side) → has_lead j.kind ≡ true → shows_both j.kind ≡ both → lead_side j.kind ≡ s → join_table j a b ≡ pairs_table both s j a b (join_pairs j.kind j.on (lead_of s a b) (lead_of (opposite s) a b))
unfolding join_table pairs_table
joined-by j a b both s led e at = ap₂ grid (columns-by j a.columns b.columns both s e at) (rows-by j a b both s led e at)

pub left-joined : (j : JoinPlan) (a b t : Grid) (both : Bool) (leads : List ℕ) (others : List (Option ℕ)) → has_lead j.kind ≡ true → both ≡ shows_both j.kind → lead_side j.kind ≡ side.Left
    → leads ≡ map (λ q. q.0) (join_pairs j.kind j.on a b) → others ≡ map (λ q. q.1) (join_pairs j.kind j.on a b) → t ≡ places_table both side.Left j a b leads others → t ≡ join_table j a b
unfolding lead_of opposite
left-joined j a b t both leads others led e s el eo is =
    is
    ∙ (ap₂ (places_table both side.Left j a b) el eo
    ∙ (paired both side.Left j a b (join_pairs j.kind j.on a b) ∙ sym (joined-by j a b both side.Left led (sym e) s)))

pub right-joined : (j : JoinPlan) (a b t : Grid) (both : Bool) (leads : List ℕ) (others : List (Option ℕ)) → has_lead j.kind ≡ true → both ≡ shows_both j.kind → lead_side j.kind ≡ side.Right
    → leads ≡ map (λ q. q.0) (join_pairs j.kind j.on b a) → others ≡ map (λ q. q.1) (join_pairs j.kind j.on b a) → t ≡ places_table both side.Right j a b leads others → t ≡ join_table j a b
unfolding lead_of opposite
right-joined j a b t both leads others led e s el eo is =
    is
    ∙ (ap₂ (places_table both side.Right j a b) el eo
    ∙ (paired both side.Right j a b (join_pairs j.kind j.on b a) ∙ sym (joined-by j a b both side.Right led (sym e) s)))

pub rows-shown-joined : (j : JoinPlan) (a b t : Grid) → has_lead j.kind ≡ true → t ≡ join_table j a b → t.lines ≡ map (row_shown (shows_both j.kind) (lead_side j.kind) j a b) (pairs_joined j a b)
unfolding join_table pairs_joined
rows-shown-joined j a b t led e = ap (λ (g : Grid). g.lines) e ∙ rows-by j a b (shows_both j.kind) (lead_side j.kind) led refl refl

pub ruleset lead_steps = (left-led-keys, left-led-others, right-led-keys, right-led-others, left-leads, right-leads, rise)

pub ruleset full_steps = (outer-keys, outer-others, anti-keys, anti-others, full-shows, full-lefts-inside, full-rights-inside, full-count, absent-columns, names-shown)

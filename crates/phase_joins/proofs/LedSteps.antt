-- What the rows that lead give, by ranges of these rows.
use Rattle.std.proofs.Common.{◌≡◌, ◌<◌, ◌≤◌, ◌+◌, ◌*◌, ◌-◌, Bor, ℕ, zero, suc, Bool, true, List, [], ◌∷◌, ◌++◌, drop, length, map, take, refl, ap, ap₂, sym, ◌∙◌, subst}
use Rattle.std.specs.Prelude.{All, Option, flat_map, min, slice_range}
use Rattle.std.specs.List.{range_with_len}
use Rattle.std.proofs.lemmas.List.{map-append}
use Rattle.std.proofs.lemmas.List.Concat.{flat_map-append}
use Rattle.std.proofs.lemmas.List.Elements.{All-cons, All-drop, All-nil, All-take}
use Rattle.kql_cells.specs.Table.{Grid}
use Rattle.kql_cells.specs.declared.schema.Column.{Column}
use Rattle.kql_cells.specs.declared.value.Value.{Value}
use Rattle.kql_bound.specs.declared.parts.JoinKind.{JoinKind}
use Rattle.kql_bound.specs.declared.parts.JoinPlan.{JoinPlan}
use Rattle.kql_bound.specs.declared.parts.OnPair.{OnPair}
use Rattle.kql_meaning.specs.FittingOperators.{join_fits}
use Rattle.kql_values.specs.Grids.{rows_of}
use Rattle.kql_values.specs.Moves.{kinds_of}
use Rattle.join_op.specs.Led.{KeysStand, all_leads, led_table, pairs_led, pairs_table}
use Rattle.join_op.specs.Pairs.{given, lead_rows, pairs_by, row_rule}
use Rattle.join_op.specs.Shown.{row_shown}
use Rattle.join_op.specs.Sides.{have_keys, key_cells, lead_of, lead_side, matches_of, opposite}
use Rattle.join_op.specs.declared.sides.Side.{Side}
use Rattle.phase_laws.specs.Pieces.{put_together, slice_of}
use Rattle.phase_laws.proofs.PieceLaws.{of_pieces_of_list}
use Rattle.phase_pieces.proofs.TogetherLaws.{Alike}

-- Part by part.

module _ (both : Bool) (k : JoinKind) (j : JoinPlan) (a b : Grid) where
  rows_given : List ℕ → List (List Value)
  rows_given leads = (led_table both k j a b leads).lines

  by-part : (xs ys : List ℕ) → (led_table both k j a b (xs ++ ys)).lines ≡ (led_table both k j a b xs).lines ++ (led_table both k j a b ys).lines
  unfolding led_table pairs_table pairs_led pairs_by
  by-part xs ys =
      let s = lead_side k in
      let m = matches_of s j.on (lead_of s a b) (lead_of (opposite s) a b) in
      ap (map (row_shown both s j a b)) (flat_map-append (λ (i : ℕ). map {B = ℕ × Option ℕ} (λ (o : Option ℕ). (i, o)) (given (row_rule k) (m i))) xs ys)
      ∙ map-append (row_shown both s j a b) (pairs_by (row_rule k) m xs) (pairs_by (row_rule k) m ys)

  pub columns-same : (xs ys : List ℕ) → (led_table both k j a b xs).columns ≡ (led_table both k j a b ys).columns
  unfolding led_table pairs_table
  columns-same xs ys = refl

  lines-none : (led_table both k j a b []).lines ≡ []
  unfolding led_table pairs_table pairs_led pairs_by
  lines-none = refl

-- The rows of a piece.

pub part-within : (n from to : ℕ) (xs : List ℕ) → All (λ i. i < n) xs → All (λ i. i < n) (slice_range xs from to)
part-within n from to xs h = All-take (λ i. i < n) (to - from) (drop from xs) (All-drop (λ i. i < n) from xs h)

pub piece-is : (both : Bool) (k : JoinKind) (j : JoinPlan) (a b t : Grid) (leads : List ℕ) (rows piece count from to : ℕ) → count ≡ length leads → from ≡ piece * rows → to ≡ min count (piece * rows + rows) → t ≡ led_table both k j a b (slice_range leads from to)
    → t ≡ led_table both k j a b (slice_of rows leads piece)
piece-is both k j a b t leads rows piece count from to size f e is =
    is
    ∙ (ap (λ (n : ℕ). led_table both k j a b (slice_range leads n to)) f
    ∙ ap (λ (n : ℕ). led_table both k j a b (slice_range leads (piece * rows) n)) (e ∙ ap (λ (n : ℕ). min n (piece * rows + rows)) size))

pub ruleset piece_steps = (part-within, piece-is)

-- The keys of both sides, and the rows that lead.

pub keys-there : (law : KeysStand) (j : JoinPlan) (s : Side) (on : List OnPair) (a b t : Grid) → join_fits j a.columns b.columns ≡ true → on ≡ j.on → t ≡ lead_of s a b → have_keys s on t.columns ≡ true
keys-there law j s on a b t fits eo et = ap₂ (λ (os : List OnPair) (g : Grid). have_keys s os g.columns) eo et ∙ law j s a b fits

pub leads-all : (k : JoinKind) (j : JoinPlan) (on : List OnPair) (a b t : Grid) (rows : List ℕ) → rows ≡ lead_rows k on t → on ≡ j.on → t ≡ lead_of (lead_side k) a b → rows ≡ all_leads k j a b
unfolding all_leads
leads-all k j on a b t rows is eo et = is ∙ ap₂ (lead_rows k) eo et

pub within-moved : (t u : Grid) (rows moved : List ℕ) → t ≡ u → moved ≡ rows → All (λ i. i < length t.lines) rows → All (λ i. i < length u.lines) moved
within-moved t u rows moved e is h =
    subst (λ (g : Grid). All (λ i. i < length g.lines) moved) e (subst (All (λ i. i < length t.lines)) (sym is) h)

-- All pieces.

flat-mapped : (g : ℕ → Grid) (xs : List ℕ) → flat_map (λ (t : Grid). t.lines) (map g xs) ≡ flat_map (λ x. (g x).lines) xs
flat-mapped g [] = refl
flat-mapped g (x ∷ xs) = ap (λ (zs : List (List Value)). (g x).lines ++ zs) (flat-mapped g xs)

abbrev grid_of : List Column → List (List Value) → Grid
grid_of cs ls = record { columns = cs; lines = ls }

put-same : (both : Bool) (k : JoinKind) (j : JoinPlan) (a b : Grid) (leads : List ℕ) (rows pieces : ℕ) → length leads ≤ pieces * rows
    → led_table both k j a b leads ≡ put_together (led_table both k j a b []) (map (λ p. led_table both k j a b (slice_of rows leads p)) (range_with_len 0 pieces))
unfolding put_together
put-same both k j a b leads rows pieces le =
    let t = led_table both k j a b in
    let part = λ (p : ℕ). t (slice_of rows leads p) in
    ap₂ grid_of (columns-same both k j a b leads [])
    (of_pieces_of_list (λ (xs : List ℕ). (t xs).lines) (by-part both k j a b) leads rows pieces le
    ∙ (sym (flat-mapped part (range_with_len 0 pieces))
    ∙ ap (λ (ls : List (List Value)). ls ++ flat_map (λ (u : Grid). u.lines) (map part (range_with_len 0 pieces))) (sym (lines-none both k j a b))))

pub whole-led : (both : Bool) (k : JoinKind) (j : JoinPlan) (a b first made : Grid) (leads : List ℕ) (rows pieces : ℕ) (results : List Grid) → length leads ≤ pieces * rows → first ≡ led_table both k j a b []
    → results ≡ map (λ p. led_table both k j a b (slice_of rows leads p)) (range_with_len 0 pieces) → made ≡ put_together first results → made ≡ led_table both k j a b leads
whole-led both k j a b first made leads rows pieces results le is all put =
    put ∙ (ap₂ put_together is all ∙ sym (put-same both k j a b leads rows pieces le))

alike-from : (both : Bool) (k : JoinKind) (j : JoinPlan) (a b first : Grid) (leads : List ℕ) (rows at n : ℕ) → first ≡ led_table both k j a b [] → Alike first (map (λ p. led_table both k j a b (slice_of rows leads p)) (range_with_len at n))
alike-from both k j a b first leads rows at zero is = All-nil (λ (u : Grid). kinds_of u.columns ≡ kinds_of first.columns)
alike-from both k j a b first leads rows at (suc n) is =
    All-cons (λ (u : Grid). kinds_of u.columns ≡ kinds_of first.columns) (led_table both k j a b (slice_of rows leads at)) (map (λ p. led_table both k j a b (slice_of rows leads p)) (range_with_len (at + 1) n))
    (ap kinds_of (columns-same both k j a b (slice_of rows leads at) [] ∙ sym (ap (λ (u : Grid). u.columns) is)))
    (alike-from both k j a b first leads rows (at + 1) n is)

pub all-alike : (both : Bool) (k : JoinKind) (j : JoinPlan) (a b first : Grid) (leads : List ℕ) (rows pieces : ℕ) (results : List Grid) → first ≡ led_table both k j a b []
    → results ≡ map (λ p. led_table both k j a b (slice_of rows leads p)) (range_with_len 0 pieces) → Alike first results
all-alike both k j a b first leads rows pieces results is all = subst (Alike first) (sym all) (alike-from both k j a b first leads rows 0 pieces is)

pub none-within : (n : ℕ) → All (λ i. i < n) []
none-within n = All-nil (λ (i : ℕ). i < n)

pub ruleset run_steps = (none-within)

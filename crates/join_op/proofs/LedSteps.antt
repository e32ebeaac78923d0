-- What some of the rows that lead give.
use Rattle.std.proofs.Common.{◌≡◌, ◌<◌, ◌≤◌, Bor, ℕ, Bool, true, false, List, ◌++◌, map, length, refl, ap, ap₂, sym, ◌∙◌, subst}
use Rattle.std.specs.Prelude.{All, Option, Some}
use Rattle.std.proofs.lemmas.List.{length-map}
use Rattle.std.proofs.lemmas.List.Elements.{recursion_from_All}
use Rattle.kql_cells.specs.Table.{Grid}
use Rattle.kql_cells.specs.declared.schema.Column.{Column}
use Rattle.kql_cells.specs.declared.value.Value.{Value}
use Rattle.kql_bound.specs.declared.parts.JoinKind.{JoinKind}
use Rattle.kql_bound.specs.declared.parts.JoinKind.TheVariants as join
use Rattle.kql_bound.specs.declared.parts.JoinPlan.{JoinPlan}
use Rattle.kql_bound.specs.declared.parts.OnPair.{OnPair}
use Rattle.kql_meaning.specs.FittingOperators.{join_fits}
use Rattle.kql_meaning.specs.Join.{join_rows, join_table, left_outer_rows, unmatched_right_rows}
use Rattle.kql_meaning.proofs.JoinLaws.{map-map}
use Rattle.kql_meaning.proofs.MemberLaws.{Member, member-of-map, of-member}
use Rattle.kql_fit_laws.proofs.RowFacts.{all-members}
use Rattle.kql_values.specs.Grids.{rows_of}
use Rattle.kql_values.specs.Moves.{IsWithin, beside, row_or_absent}
use Rattle.join_op.specs.Led.{KeysStand, LedByBoth, LedByOne, all_leads, columns_led, led_table, pairs_led, pairs_table, places_table}
use Rattle.join_op.specs.Pairs.{has_lead, join_pairs, lead_rows, rows_led, shows_both}
use Rattle.join_op.specs.Shown.{row_shown, shown_at}
use Rattle.join_op.specs.Sides.{have_keys, key_cells, lead_of, lead_side, opposite}
use Rattle.join_op.specs.declared.sides.Side.{Side}
use Rattle.join_op.specs.declared.sides.Side.TheVariants as side
use Rattle.join_op.proofs.JoinSteps.{both-shown, full-shows, is-full, joined-by, led-inside}
use Rattle.join_op.proofs.KeySteps.{left-keys, right-keys}
use Rattle.join_op.proofs.MatchSteps.{columns-long, leads-are, rows-inside}
use Rattle.join_op.proofs.PairedSteps.{grid, paired, rows-of-left, rows-of-right}
use Rattle.join_op.proofs.RowSteps.{full-left, full-right, lead, other}

-- The rows that lead, and an index of the others.

pub keys-long : (kind : JoinKind) (on : List OnPair) (t : Grid) (cols : List (Bor (List Value))) (n : ℕ) → map (λ c. c.now) cols ≡ key_cells (lead_side kind) on t → n ≡ length t.lines → All (λ c. n ≤ length c.now) cols
keys-long kind on t cols n e size = columns-long (lead_side kind) on t cols n e size

pub rows-are : (kind : JoinKind) (on : List OnPair) (t : Grid) (cols : List (Bor (List Value))) (n : ℕ) (rows : List ℕ) → map (λ c. c.now) cols ≡ key_cells (lead_side kind) on t → n ≡ length t.lines → rows ≡ rows_led kind (map (λ c. c.now) cols) n → rows ≡ lead_rows kind on t
rows-are kind on t cols n rows e size is = leads-are kind (lead_side kind) on t cols n rows refl e size is

pub ruleset row_steps = (keys-long, rows-are)

pub others-long : (kind : JoinKind) (on : List OnPair) (t : Grid) (cols : List (Bor (List Value))) (n : ℕ) → map (λ c. c.now) cols ≡ key_cells (opposite (lead_side kind)) on t → n ≡ length t.lines → All (λ c. n ≤ length c.now) cols
others-long kind on t cols n e size = columns-long (opposite (lead_side kind)) on t cols n e size

pub index-is : (kind : JoinKind) (on : List OnPair) (t : Grid) (cols : List (Bor (List Value))) (n : ℕ) (keys : List (List Value)) → map (λ c. c.now) cols ≡ key_cells (opposite (lead_side kind)) on t → n ≡ length t.lines → keys ≡ rows_of n (map (λ c. c.now) cols)
    → keys ≡ rows_of (length t.lines) (key_cells (opposite (lead_side kind)) on t)
index-is kind on t cols n keys e size is = is ∙ ap₂ rows_of size e

pub ruleset probe_steps = (others-long, index-is)

-- The pairs of these rows stand inside their tables.

module _ (k : JoinKind) (on : List OnPair) (a b : Grid) (leads : List ℕ) where
  firsts-inside : (firsts : List ℕ) → All (λ i. i < length a.lines) leads → firsts ≡ map (λ q. q.0) (pairs_led k on a b leads) → All (λ i. i < length a.lines) firsts
  firsts-inside firsts h e =
      let inside = recursion_from_All (λ i. i < length a.lines) leads h in
      subst (All (λ i. i < length a.lines)) (sym e) (all-members (λ i. i < length a.lines) (map lead (pairs_led k on a b leads)) (λ i m.
      let q = member-of-map lead (pairs_led k on a b leads) i m in
      subst (λ x. x < length a.lines) q.2 (led-inside k on a b leads (λ i n. of-member (λ i. i < length a.lines) leads i inside n) q.0 q.1).0))

  matches-inside : (others : List (Option ℕ)) → All (λ i. i < length a.lines) leads → others ≡ map (λ q. q.1) (pairs_led k on a b leads) → All (IsWithin (length b.lines)) others
  matches-inside others h e =
      let inside = recursion_from_All (λ i. i < length a.lines) leads h in
      subst (All (IsWithin (length b.lines))) (sym e) (all-members (IsWithin (length b.lines)) (map other (pairs_led k on a b leads)) (λ o m.
      let q = member-of-map other (pairs_led k on a b leads) o m in
      subst (IsWithin (length b.lines)) q.2 (led-inside k on a b leads (λ i n. of-member (λ i. i < length a.lines) leads i inside n) q.0 q.1).1))

  pub as-many : (firsts : List ℕ) (others : List (Option ℕ)) → firsts ≡ map (λ q. q.0) (pairs_led k on a b leads) → others ≡ map (λ q. q.1) (pairs_led k on a b leads) → length firsts ≡ length others
  as-many firsts others ef eo =
      ap length ef ∙ (length-map (pairs_led k on a b leads) lead ∙ (sym (length-map (pairs_led k on a b leads) other) ∙ ap length (sym eo)))

-- The same by the side that leads.

module _ (k : JoinKind) (on : List OnPair) (a b : Grid) (leads : List ℕ) where
  pub left-firsts : (firsts : List ℕ) → lead_side k ≡ side.Left → All (λ i. i < length (lead_of (lead_side k) a b).lines) leads → firsts ≡ map (λ q. q.0) (pairs_led k on (lead_of (lead_side k) a b) (lead_of (opposite (lead_side k)) a b) leads) → All (λ i. i < length a.lines) firsts
  unfolding lead_of
  left-firsts firsts s h e = subst (λ (x : Side). All (λ i. i < length (lead_of x a b).lines) firsts) s (firsts-inside k on (lead_of (lead_side k) a b) (lead_of (opposite (lead_side k)) a b) leads firsts h e)

  pub left-matches : (others : List (Option ℕ)) → lead_side k ≡ side.Left → All (λ i. i < length (lead_of (lead_side k) a b).lines) leads → others ≡ map (λ q. q.1) (pairs_led k on (lead_of (lead_side k) a b) (lead_of (opposite (lead_side k)) a b) leads) → All (IsWithin (length b.lines)) others
  unfolding lead_of opposite
  left-matches others s h e = subst (λ (x : Side). All (IsWithin (length (lead_of (opposite x) a b).lines)) others) s (matches-inside k on (lead_of (lead_side k) a b) (lead_of (opposite (lead_side k)) a b) leads others h e)

  pub right-firsts : (firsts : List ℕ) → lead_side k ≡ side.Right → All (λ i. i < length (lead_of (lead_side k) a b).lines) leads → firsts ≡ map (λ q. q.0) (pairs_led k on (lead_of (lead_side k) a b) (lead_of (opposite (lead_side k)) a b) leads) → All (λ i. i < length b.lines) firsts
  unfolding lead_of
  right-firsts firsts s h e = subst (λ (x : Side). All (λ i. i < length (lead_of x a b).lines) firsts) s (firsts-inside k on (lead_of (lead_side k) a b) (lead_of (opposite (lead_side k)) a b) leads firsts h e)

  pub right-matches : (others : List (Option ℕ)) → lead_side k ≡ side.Right → All (λ i. i < length (lead_of (lead_side k) a b).lines) leads → others ≡ map (λ q. q.1) (pairs_led k on (lead_of (lead_side k) a b) (lead_of (opposite (lead_side k)) a b) leads) → All (IsWithin (length a.lines)) others
  unfolding lead_of opposite
  right-matches others s h e = subst (λ (x : Side). All (IsWithin (length (lead_of (opposite x) a b).lines)) others) s (matches-inside k on (lead_of (lead_side k) a b) (lead_of (opposite (lead_side k)) a b) leads others h e)

pub led-made : (both : Bool) (k : JoinKind) (j : JoinPlan) (a b t : Grid) (s : Side) (leads firsts : List ℕ) (others : List (Option ℕ)) → lead_side k ≡ s
    → firsts ≡ map (λ q. q.0) (pairs_led k j.on (lead_of (lead_side k) a b) (lead_of (opposite (lead_side k)) a b) leads) → others ≡ map (λ q. q.1) (pairs_led k j.on (lead_of (lead_side k) a b) (lead_of (opposite (lead_side k)) a b) leads)
    → t ≡ places_table both s j a b firsts others → t ≡ led_table both k j a b leads
unfolding led_table
led-made both k j a b t s leads firsts others at ef eo is =
    let ps = pairs_led k j.on (lead_of (lead_side k) a b) (lead_of (opposite (lead_side k)) a b) leads in
    is
    ∙ (ap₂ (places_table both s j a b) ef eo
    ∙ (paired both s j a b ps ∙ ap (λ (x : Side). pairs_table both x j a b ps) (sym at)))

-- The laws.

pub led_by_one : LedByOne
unfolding led_table all_leads join_pairs pairs_led
led_by_one j a b led = joined-by j a b (shows_both j.kind) (lead_side j.kind) led refl refl

full-left-rows : (j : JoinPlan) (a b : Grid) → left_outer_rows j a b ≡ map (row_shown true side.Left j a b) (join_pairs join.LeftOuter j.on a b)
full-left-rows j a b =
    let ps = join_pairs join.LeftOuter j.on a b in
    sym (full-left j a b)
    ∙ (ap (λ (xs : List (List Value)). beside xs (map (shown_at j b) (map other ps))) (map-map (row_or_absent a) (λ i. Some i) (map lead ps)) ∙ rows-of-left j a b ps)

full-right-rows : (j : JoinPlan) (a b : Grid) → unmatched_right_rows j a b ≡ map (row_shown true side.Right j a b) (join_pairs join.RightAnti j.on b a)
full-right-rows j a b = sym (full-right j a b) ∙ rows-of-right j a b (join_pairs join.RightAnti j.on b a)

full-both : (j : JoinPlan) (a b : Grid) → join_rows join.FullOuter j a b ≡ map (row_shown true side.Left j a b) (join_pairs join.LeftOuter j.on a b) ++ map (row_shown true side.Right j a b) (join_pairs join.RightAnti j.on b a)
unfolding join_rows
full-both j a b = ap₂ (λ (xs ys : List (List Value)). xs ++ ys) (full-left-rows j a b) (full-right-rows j a b)

pub led_by_both : LedByBoth
unfolding join_table led_table all_leads join_pairs pairs_led pairs_table lead_side lead_of opposite
led_by_both j a b full =
    ap₂ grid (both-shown j.kind j a.columns b.columns (full-shows j.kind full)) (ap (λ (k : JoinKind). join_rows k j a b) (is-full j.kind full) ∙ full-both j a b)

pub keys_stand : KeysStand
unfolding lead_of
keys_stand j side.Left a b fits = left-keys j a.columns b.columns fits
keys_stand j side.Right a b fits = right-keys j a.columns b.columns fits

pub ruleset led_laws = (led_by_one, led_by_both, keys_stand)

-- The rows of a join as pairs of places: one of the side that leads, and one of the other side, or none.
use Rattle.std.specs.Prelude.{ℕ, Bool, true, false, List, [], ◌∷◌, Option, None, Some, filter, map}
use Rattle.std.specs.List.{flat_map, range_with_len}
use Rattle.kql_cells.specs.Keys.{same_keys}
use Rattle.kql_cells.specs.Table.{Grid}
use Rattle.kql_cells.specs.declared.value.Value.{Value}
use Rattle.kql_values.specs.Grids.{rows_of}
use Rattle.kql_keys.specs.Numbers.{first_places}
use Rattle.kql_bound.specs.declared.parts.JoinKind.{JoinKind}
use Rattle.kql_bound.specs.declared.parts.JoinKind.TheVariants as join
use Rattle.kql_bound.specs.declared.parts.JoinPlan.{JoinPlan}
use Rattle.kql_bound.specs.declared.parts.OnPair.{OnPair}
use Rattle.kql_meaning.specs.Groups.{is_first_of_key}
use Rattle.kql_meaning.specs.Join.{left_key}
use Rattle.kql_meaning.specs.Tables.{places}
use Rattle.join_op.specs.Sides.{lead_of, lead_side, matches_of, opposite}
use Rattle.join_op.specs.declared.pairs.RowRule.{RowRule}
use Rattle.join_op.specs.declared.pairs.RowRule.TheVariants as rule

-- What a row of the side that leads gives, where these rows match it: for each row that it gives, the place of a match, or none.
unfoldable pub given : RowRule → List ℕ → List (Option ℕ)
given rule.EachMatch js = map (λ j. Some j) js
given rule.EachMatchOrAlone [] = None ∷ []
given rule.EachMatchOrAlone (j ∷ js) = map (λ j. Some j) (j ∷ js)
given rule.OnceIfMatched [] = []
given rule.OnceIfMatched (j ∷ js) = None ∷ []
given rule.OnceIfUnmatched [] = None ∷ []
given rule.OnceIfUnmatched (j ∷ js) = []

-- The pairs that these rows give, one row after another.
unfoldable pub pairs_by : RowRule → (ℕ → List ℕ) → List ℕ → List (ℕ × Option ℕ)
pairs_by r matches leads = flat_map (λ i. map (λ o. (i, o)) (given r (matches i))) leads

-- What each kind asks for. Fullouter has the pairs of leftouter, and then those of rightanti.
unfoldable pub row_rule : JoinKind → RowRule
row_rule join.InnerUnique = rule.EachMatch
row_rule join.Inner = rule.EachMatch
row_rule join.LeftOuter = rule.EachMatchOrAlone
row_rule join.RightOuter = rule.EachMatchOrAlone
row_rule join.FullOuter = rule.EachMatchOrAlone
row_rule join.LeftSemi = rule.OnceIfMatched
row_rule join.RightSemi = rule.OnceIfMatched
row_rule join.LeftAnti = rule.OnceIfUnmatched
row_rule join.RightAnti = rule.OnceIfUnmatched

-- The rows of the side that leads which are joined: of innerunique the first of each key, else all. By the columns of the keys, and by
-- the table.
unfoldable pub rows_led : JoinKind → List (List Value) → ℕ → List ℕ
rows_led join.InnerUnique columns count = first_places same_keys (rows_of count columns)
rows_led _ columns count = range_with_len 0 count

unfoldable pub lead_rows : JoinKind → List OnPair → Grid → List ℕ
lead_rows join.InnerUnique on lead = filter (is_first_of_key (left_key on lead)) (places lead)
lead_rows _ on lead = places lead

unfoldable pub join_pairs : JoinKind → List OnPair → Grid → Grid → List (ℕ × Option ℕ)
join_pairs kind on lead other = pairs_by (row_rule kind) (matches_of (lead_side kind) on lead other) (lead_rows kind on lead)

-- Whether one side leads all rows: in fullouter none does.
unfoldable pub has_lead : JoinKind → Bool
has_lead join.FullOuter = false
has_lead _ = true

-- Whether the answer shows the columns of both sides.
unfoldable pub shows_both : JoinKind → Bool
shows_both join.LeftSemi = false
shows_both join.LeftAnti = false
shows_both join.RightSemi = false
shows_both join.RightAnti = false
shows_both _ = true

-- The pairs of places of the answer's rows.
unfoldable pub pairs_joined : JoinPlan → Grid → Grid → List (ℕ × Option ℕ)
pairs_joined j a b =
    let s = lead_side j.kind in
    join_pairs j.kind j.on (lead_of s a b) (lead_of (opposite s) a b)

-- For each row of the answer, the place of the row that leads it.
unfoldable pub join_leads : JoinPlan → Grid → Grid → List ℕ
join_leads j a b = map (λ (p : ℕ × Option ℕ). p.0) (pairs_joined j a b)

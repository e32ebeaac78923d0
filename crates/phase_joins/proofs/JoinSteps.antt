-- Joins of each kind.
use Rattle.std.proofs.Common.{◌≡◌, ℕ, Bool, true, false, List, ◌++◌, length, refl, ap, ap₂, sym, ◌∙◌, subst}
use Rattle.std.specs.Prelude.{if◌then◌else◌}
use Rattle.kql_cells.specs.Named.{HasDistinctNames, column_name}
use Rattle.kql_cells.specs.Table.{Grid}
use Rattle.kql_cells.specs.declared.schema.Column.{Column}
use Rattle.kql_bound.specs.declared.parts.JoinKind.TheVariants as join
use Rattle.kql_bound.specs.declared.parts.JoinPlan.{JoinPlan}
use Rattle.kql_meaning.specs.Join.{both_columns, join_columns, join_table}
use Rattle.kql_values.specs.Moves.{kinds_of}
use Rattle.join_op.specs.Led.{LedByBoth, LedByOne, all_leads, columns_led, led_table, pairs_table}
use Rattle.join_op.specs.Pairs.{has_lead, shows_both}
use Rattle.join_op.specs.Sides.{lead_side}
use Rattle.phase_pieces.specs.Reports.{IsCutFor}
use Rattle.phase_joins.specs.Leads.{leads_of}
use Rattle.worker_board.specs.Views.{WholeClaims}

-- One side leads.

pub names-one : (law : LedByOne) (j : JoinPlan) (a b : Grid) (both : Bool) → has_lead j.kind ≡ true → both ≡ shows_both j.kind → HasDistinctNames column_name (join_columns j.kind j a.columns b.columns) → both ≡ true → HasDistinctNames column_name (both_columns j a.columns b.columns)
unfolding join_table led_table pairs_table columns_led
names-one law j a b both led e h t =
    subst (HasDistinctNames column_name) (ap (λ (g : Grid). g.columns) (law j a b led) ∙ ap (λ (x : Bool). columns_led x (lead_side j.kind) j a.columns b.columns) (sym e ∙ t)) h

pub made-one : (law : LedByOne) (j : JoinPlan) (a b t : Grid) (both : Bool) → has_lead j.kind ≡ true → both ≡ shows_both j.kind → t ≡ led_table both j.kind j a b (all_leads j.kind j a b) → t ≡ join_table j a b
made-one law j a b t both led e is = is ∙ (ap (λ (x : Bool). led_table x j.kind j a b (all_leads j.kind j a b)) e ∙ sym (law j a b led))

pub leads-one : (j : JoinPlan) (a b : Grid) (asked : ℕ) (g : WholeClaims) → has_lead j.kind ≡ true → IsCutFor (length (all_leads j.kind j a b)) asked g → IsCutFor (length (leads_of j a b)) asked g
unfolding leads_of
leads-one j a b asked g led h = subst (λ (x : Bool). IsCutFor (length (if x then all_leads j.kind j a b else all_leads join.LeftOuter j a b)) asked g) (sym led) h

pub ruleset join_steps = (made-one, leads-one)

-- Both lead.

pub names-full : (law : LedByBoth) (j : JoinPlan) (a b : Grid) → has_lead j.kind ≡ false → HasDistinctNames column_name (join_columns j.kind j a.columns b.columns) → true ≡ true → HasDistinctNames column_name (both_columns j a.columns b.columns)
unfolding join_table
names-full law j a b full h t = subst (HasDistinctNames column_name) (ap (λ (g : Grid). g.columns) (law j a b full)) h

pub kinds-full : (j : JoinPlan) (a b t u : Grid) → t ≡ led_table true join.LeftOuter j a b (all_leads join.LeftOuter j a b) → u ≡ led_table true join.RightAnti j a b (all_leads join.RightAnti j a b) → kinds_of u.columns ≡ kinds_of t.columns
unfolding led_table pairs_table columns_led
kinds-full j a b t u et eu = ap (λ (g : Grid). kinds_of g.columns) eu ∙ sym (ap (λ (g : Grid). kinds_of g.columns) et)

pub made-full : (law : LedByBoth) (j : JoinPlan) (a b t u made : Grid) → has_lead j.kind ≡ false → t ≡ led_table true join.LeftOuter j a b (all_leads join.LeftOuter j a b) → u ≡ led_table true join.RightAnti j a b (all_leads join.RightAnti j a b)
    → made ≡ record t { lines = t.lines ++ u.lines } → made ≡ join_table j a b
unfolding led_table pairs_table columns_led
made-full law j a b t u made full et eu is =
    is ∙ (ap₂ {C = Grid} (λ (x y : Grid). record { columns = x.columns; lines = x.lines ++ y.lines }) et eu ∙ sym (law j a b full))

pub leads-full : (j : JoinPlan) (a b : Grid) (asked : ℕ) (g : WholeClaims) → has_lead j.kind ≡ false → IsCutFor (length (all_leads join.LeftOuter j a b)) asked g → IsCutFor (length (leads_of j a b)) asked g
unfolding leads_of
leads-full j a b asked g full h = subst (λ (x : Bool). IsCutFor (length (if x then all_leads j.kind j a b else all_leads join.LeftOuter j a b)) asked g) (sym full) h

pub ruleset full_steps = (kinds-full, made-full, leads-full)

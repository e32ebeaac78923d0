-- The summary of a series.
use Rattle.std.proofs.Common.{◌≡◌, ℕ, length, ap, ◌∙◌, subst}
use Rattle.kql_cells.specs.Table.{Grid}
use Rattle.kql_bound.specs.declared.parts.GroupPlan.{GroupPlan}
use Rattle.kql_bound.specs.declared.parts.SeriesPlan.{SeriesPlan}
use Rattle.kql_meaning.specs.Summarize.{summarize_table}
use Rattle.phase_groups.specs.Shares.{AreCutBy, rows_wanted}
use Rattle.series_op.specs.Summary.{summary_plan}
use Rattle.kql_meaning.specs.MakeSeries.{rows_inside}
use Rattle.worker_board.specs.Views.{WholeClaims}

pub summary-made : (p : SeriesPlan) (u s : Grid) (g : GroupPlan) → g ≡ summary_plan p → s ≡ summarize_table g u → s ≡ summarize_table (summary_plan p) u
summary-made p u s g is made = made ∙ ap (λ (h : GroupPlan). summarize_table h u) is

pub pieces-inside : (p : SeriesPlan) (t u : Grid) (g : GroupPlan) (workers asked : ℕ) (x : WholeClaims) → g ≡ summary_plan p → u ≡ rows_inside p t → AreCutBy (rows_wanted workers asked g u) (length u.lines) x → AreCutBy (rows_wanted workers asked (summary_plan p) (rows_inside p t)) (length (rows_inside p t).lines) x
pieces-inside p t u g workers asked x plan rows h =
    subst (λ (h : GroupPlan). AreCutBy (rows_wanted workers asked h (rows_inside p t)) (length (rows_inside p t).lines) x) plan
    (subst (λ (v : Grid). AreCutBy (rows_wanted workers asked g v) (length v.lines) x) rows h)

pub ruleset series_steps = (summary-made, pieces-inside)

-- The table of a series.
use Rattle.std.proofs.Common.{◌≡◌, Bool, true, false, List, [], ℕ, refl, ap, ap₂, sym, ◌∙◌, subst, rules}
use Rattle.std.specs.Prelude.{Some, is_some}
use Rattle.kql_cells.specs.Named.{HasDistinctNames, column_name}
use Rattle.kql_cells.specs.Table.{Grid, IsGrid}
use Rattle.kql_cells.specs.declared.schema.Column.{Column}
use Rattle.kql_cells.specs.declared.value.Value.{Value}
use Rattle.kql_values.specs.Grids.{HaveLength, rows_of}
use Rattle.kql_bound.specs.declared.parts.GroupPlan.{GroupPlan}
use Rattle.kql_bound.specs.declared.parts.SeriesPlan.{SeriesPlan}
use Rattle.kql_bound.specs.declared.plan.Op.{the_lemmas}
use Rattle.kql_bound.specs.declared.plan.Op.TheOpen.{Op-F}
use Rattle.kql_bound.specs.declared.plan.Op.TheVariants as O
use Rattle.kql_meaning.specs.Fits.{Known}
use Rattle.kql_meaning.specs.FittingOperators.{answer_if, columns_if, series_fits, summarize_fits}
use Rattle.kql_meaning.specs.MakeSeries.{rows_inside, series_columns, series_rows, series_table}
use Rattle.kql_meaning.specs.Plans.{World}
use Rattle.kql_meaning.specs.Summarize.{group_columns, summarize_table}
use Rattle.kql_meaning.proofs.OperatorFitLaws.{op-MakeSeries}
use Rattle.kql_fit_laws.proofs.RowFacts.{answer-some}
use Rattle.kql_fit_laws.proofs.RowLaws.{means}
use Rattle.kql_fit_laws.proofs.SeriesRows.{each_series_keeps}
use Rattle.kql_fit_laws.specs.LawsOfRows.{IsTable}
use Rattle.series_op.specs.Filled.{IsFilled}
use Rattle.series_op.specs.Summary.{summary_plan}
use Rattle.series_op.proofs.SummaryFits.{Fits, series-part, summary-fits}

-- The rows inside have the columns of all.

inside-columns : (p : SeriesPlan) (t u : Grid) → u ≡ rows_inside p t → u.columns ≡ t.columns
unfolding rows_inside
inside-columns p t u e = ap (λ (g : Grid). g.columns) e

pub summary-asked : (p : SeriesPlan) (t u : Grid) (g : GroupPlan) → Fits p t.columns → u ≡ rows_inside p t → g ≡ summary_plan p → is_some (answer_if (summarize_fits g u.columns) (group_columns g u.columns)) ≡ true
summary-asked p t u g fits e is =
    ap₂ (λ (h : GroupPlan) (cs : List Column). is_some (answer_if (summarize_fits h cs) (group_columns h cs))) is (inside-columns p t u e) ∙ summary-fits p t.columns fits

pub fits-inside : (p : SeriesPlan) (t u : Grid) → Fits p t.columns → u ≡ rows_inside p t → series_fits p u.columns ≡ true
fits-inside p t u fits e = ap (series_fits p) (inside-columns p t u e) ∙ series-part p t.columns fits

pub summary-made : (p : SeriesPlan) (u s : Grid) (g : GroupPlan) → g ≡ summary_plan p → s ≡ summarize_table g u → s ≡ summarize_table (summary_plan p) u
summary-made p u s g is made = made ∙ ap (λ (h : GroupPlan). summarize_table h u) is

-- The table fits.

told : (c : Bool) (cs : List Column) → is_some (columns_if c cs) ≡ true → columns_if c cs ≡ Some cs
unfolding columns_if
told true cs e = refl
told false cs e = absurd cc

answer-is : (b : Bool) (cs : List Column) → is_some (answer_if b cs) ≡ true → answer_if b cs ≡ Some cs
unfolding answer_if
answer-is b cs e = told _ cs e

pub names-differ : (p : SeriesPlan) (cs ds : List Column) → Fits p cs → ds ≡ series_columns p cs → HasDistinctNames column_name ds
names-differ p cs ds fits e =
    subst (HasDistinctNames column_name) (sym e) (answer-some (series_fits p cs) (series_columns p cs) (series_columns p cs) (answer-is (series_fits p cs) (series_columns p cs) fits)).2

series-table : (p : SeriesPlan) (t : Grid) → IsTable t → Fits p t.columns → IsTable (series_table p t)
series-table p t h fits =
    let k : Known = record { tables = []; lets = [] } in
    let w : World = record { tables = []; lets = [] } in
    let there = op-MakeSeries p k false t.columns ∙ answer-is (series_fits p t.columns) (series_columns p t.columns) fits in
    let made = each_series_keeps k w p false t (series_columns p t.columns) h there in
    subst IsTable (means (O.MakeSeries p) (Op-F.MakeSeries p) (search (rules, the_lemmas)) w t) made.1

pub table-is : (p : SeriesPlan) (t u made : Grid) (count : ℕ) (columns rows : List (List Value)) (cs : List Column) → u ≡ rows_inside p t → IsFilled p u columns count → rows ≡ rows_of count columns → cs ≡ series_columns p t.columns → made ≡ record { columns = cs; lines = rows } → made ≡ series_table p t
unfolding series_table
table-is p t u made count columns rows cs e f there named is =
    is ∙ ap₂ (λ (ds : List Column) (ls : List (List Value)). record { columns = ds; lines = ls }) named (there ∙ (f.rows ∙ ap (series_rows p) e))

pub table-fits : (p : SeriesPlan) (t u : Grid) (count : ℕ) (columns rows : List (List Value)) (cs : List Column) → Fits p t.columns → HasDistinctNames column_name t.columns → IsGrid t → u ≡ rows_inside p t → IsFilled p u columns count → rows ≡ rows_of count columns → cs ≡ series_columns p t.columns → IsGrid (record { columns = cs; lines = rows })
table-fits p t u count columns rows cs fits names here e f there named =
    let all = series-table p t (names, here) fits in
    subst IsGrid (sym (table-is p t u (record { columns = cs; lines = rows }) count columns rows cs e f there named refl)) all.1

pub filled-long : (p : SeriesPlan) (u : Grid) (columns : List (List Value)) (count : ℕ) → IsFilled p u columns count → HaveLength count columns
filled-long p u columns count f = f.long

pub ruleset series_steps = (summary-asked, fits-inside, summary-made, names-differ, filled-long)

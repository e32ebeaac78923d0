-- A view that keeps the groups of a query: how it opens, and what its table is.
use Rattle.std.proofs.Common.{◌≡◌, ◌∙◌, All, List, [], ◌∷◌, ◌++◌, length, refl, sym, ap, subst, true}
use Rattle.std.specs.Prelude.{IfOk, Result, Ok, Err, Some}
use Rattle.std.proofs.lemmas.List.{nil_from_length}
use Rattle.std.proofs.lemmas.List.Elements.{All-cons, All-head, All-nil, All-tail}
use Rattle.kql_cells.specs.Table.{Grid}
use Rattle.kql_cells.specs.declared.schema.Column.{Column}
use Rattle.kql_cells.specs.declared.value.Value.{Value}
use Rattle.kql_bound.specs.declared.parts.GroupPlan.{GroupPlan}
use Rattle.kql_meaning.specs.Summarize.{summarize_table}
use Rattle.kql_fit_laws.specs.LawsOfRows.{IsTable, IsTableOf}
use Rattle.live_tables.specs.Growing.{has_columns_of}
use Rattle.view_ops.specs.Views.{PlanFits, StandsFor, Viewed, grown, table_of}
use Rattle.view_ops.proofs.GrowingLaws.{plan-grown}
use Rattle.live_query.specs.Keeping.{Keeps}
use Rattle.live_query.specs.LiveMeaning.{FitsColumns, live_means}
use Rattle.live_query.specs.ViewForm.{view_of}
use Rattle.live_query.specs.declared.query.LiveQuery.{LiveQuery}
use Rattle.live_query.proofs.ViewLaws.{view-fits, view-means}

-- the table that it stands for is one
is-table : (q : LiveQuery) (t : Grid) (v : Viewed) → Keeps q t v → v.stored ≡ true → IsTable t
is-table q t v h s = subst (λ (cs : List Column). IsTable (table_of cs t.lines)) h.columns (h.rows s).table

-- and its table is the answer
pub kept-answers : {E : Type 0} (q : LiveQuery) (t : Grid) (v : Viewed) (r : Result Grid E) → Keeps q t v → v.stored ≡ true
    → ((lines : List (List Value)) → StandsFor v lines → IfOk r (λ x. x ≡ summarize_table v.plan (table_of v.columns lines))) → IfOk r (λ x. x ≡ live_means q t)
kept-answers q t v (Ok x) h s made =
    made t.lines (h.rows s) ∙ (ap (λ (cs : List Column). summarize_table v.plan (table_of cs t.lines)) h.columns ∙ sym (view-means q v.plan t (is-table q t v h s) h.plan h.fits))
kept-answers q t v (Err e) h s made = tt

-- it opens with the table's rows
pub keeps-opened : (q : LiveQuery) (g : GroupPlan) (t : Grid) (v w : Viewed) → FitsColumns q t.columns → view_of q.program ≡ Some g → v.plan ≡ g → v.columns ≡ t.columns → StandsFor v [] → w ≡ grown v t
    → ((lines : List (List Value)) → StandsFor v lines → StandsFor w (lines ++ t.lines)) → Keeps q t w
keeps-opened q g t v w fits is plan columns none is_grown stands = record {
  fits = fits;
  plan = is ∙ ap Some (sym (ap (λ (x : Viewed). x.plan) is_grown ∙ ((plan-grown (t ∷ []) v).0 ∙ plan)));
  columns = ap (λ (x : Viewed). x.columns) is_grown ∙ ((plan-grown (t ∷ []) v).1 ∙ columns);
  rows = λ stored. stands [] none;
}

-- the batches are those that it takes
pub all-own : (cs : List Column) (t : Grid) (bs : List Grid) → cs ≡ t.columns → All (has_columns_of t) bs → All IsTable bs → All (IsTableOf cs) bs
all-own cs t [] e h k = All-nil (IsTableOf cs)
all-own cs t (b ∷ bs) e h k =
    All-cons (IsTableOf cs) b bs (sym (All-head (has_columns_of t) b bs h) ∙ sym e, All-head IsTable b bs k) (all-own cs t bs e (All-tail (has_columns_of t) b bs h) (All-tail IsTable b bs k))

-- and may come behind the table that is named for the one which opens
pub all-follow : (t s : Grid) (bs more : List Grid) → t ≡ s → bs ≡ more → All (has_columns_of t) bs → All IsTable bs → All (IsTableOf s.columns) more
all-follow t s bs more e f h k = subst (λ (x : Grid). All (IsTableOf x.columns) more) e (subst (All (IsTableOf t.columns)) f (all-own t.columns t bs refl h k))

-- the plan fits the columns with which it opens
pub opens-fit : (q : LiveQuery) (g h : GroupPlan) (t : Grid) (cs : List Column) → IsTable t → view_of q.program ≡ Some g → FitsColumns q t.columns → h ≡ g → cs ≡ t.columns → PlanFits h cs
opens-fit q g h t cs table is fits plan columns =
    subst (λ (x : List Column). PlanFits h x) (sym columns) (subst (λ (x : GroupPlan). PlanFits x t.columns) (sym plan) (view-fits q g t table is fits))

pub all-more : (left more : List Grid) (b : Grid) → left ≡ b ∷ more → IsTable b → All IsTable more → All IsTable left
all-more left more b is one rest = subst (All IsTable) (sym is) (All-cons IsTable b more one rest)

pub all-none : (left : List Grid) → length left ≡ 0 → All IsTable left
all-none left none = subst (All IsTable) (sym (nil_from_length left none)) (All-nil IsTable)

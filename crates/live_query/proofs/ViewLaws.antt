-- What a program means that a view can keep: its one `summarize` over the table.
use Rattle.std.proofs.Common.{◌≡◌, ◌∙◌, ℕ, Bool, true, false, List, [], ◌∷◌, All, map, refl, sym, ap, subst, inl, inr}
use Rattle.std.specs.Prelude.{Some, bytes_eq, is_some}
use Rattle.std.proofs.lemmas.Bool.{cases_Bool}
use Rattle.std.proofs.lemmas.List.Elements.{All-nil, All-cons}
use Rattle.kql_cells.specs.Catalogues.{Named}
use Rattle.kql_cells.specs.Table.{Grid}
use Rattle.kql_cells.specs.declared.schema.Column.{Column}
use Rattle.kql_bound.specs.declared.parts.GroupPlan.{GroupPlan}
use Rattle.kql_bound.specs.declared.plan.Op.{Op, out-Op, fold_out-Op}
use Rattle.kql_bound.specs.declared.plan.Op.TheFolds.{map-Op}
use Rattle.kql_bound.specs.declared.plan.Op.TheOpen.{Op-F}
use Rattle.kql_bound.specs.declared.plan.Plan.{Plan}
use Rattle.kql_bound.specs.declared.plan.Program.{Program}
use Rattle.kql_bound.specs.declared.plan.Source.{Source}
use Rattle.kql_bound.specs.declared.plan.Source.TheVariants as source
use Rattle.kql_meaning.specs.Fits.{Known, OpColumns, PlanColumns, op_columns, op_columns_step, plan_columns, plan_columns_step}
use Rattle.kql_meaning.specs.FittingOperators.{answer_if, summarize_fits}
use Rattle.kql_meaning.specs.Plans.{World, op_means, one_after_another, source_table}
use Rattle.kql_meaning.specs.Sources.{named_table, table_of}
use Rattle.kql_meaning.specs.Summarize.{group_columns, summarize_table}
use Rattle.kql_fit_laws.specs.LawsOfRows.{IsTable}
use Rattle.kql_plain.specs.AtHand.{FitBehind, OpFits, OpsFit, PlanFits, SourceFits, means_behind, with_lets, world_of}
use Rattle.kql_plain.proofs.LetLaws.{main-fits}
use Rattle.kql_plain.proofs.OperatorLaws.{first-fits, no-more, one-more, step}
use Rattle.kql_plain.proofs.PlanLaws.{ops-fit, plan-means, source-fits}
use Rattle.kql_plain.proofs.ProgramLaws.{program-fits, program-means}
use Rattle.kql_plain.proofs.SourceSteps.{means-Table, table_found, table-there}
use Rattle.plan_rules.specs.Views.{group_of_op, group_step}
use Rattle.live_query.specs.LiveMeaning.{FitsColumns, live_means, named}
use Rattle.live_query.specs.ViewForm.{one_group, over_table, view_of, without_lets}
use Rattle.live_query.specs.declared.query.LiveQuery.{LiveQuery}

-- The operator.

same-plan : (g h : GroupPlan) → Some g ≡ Some h → g ≡ h
same-plan g h e = cc e

opened : (f : Op-F Op Plan) (g : GroupPlan) → group_step f ≡ Some g → f ≡ Op-F.Summarize g
opened (Op-F.Summarize h) g e = ap Op-F.Summarize (same-plan h g e)
opened _ g e = absurd cc

out-is : (o : Op) (g : GroupPlan) → group_of_op o ≡ Some g → out-Op o ≡ Op-F.Summarize g
unfolding group_of_op
out-is o g e = opened (out-Op o) g e

op-means : (o : Op) (g : GroupPlan) (w : World) (t : Grid) → group_of_op o ≡ Some g → op_means o w t ≡ summarize_table g t
op-means o g w t e = step o (Op-F.Summarize g) (out-is o g e) w t

op-columns : (o : Op) (g : GroupPlan) (k : Known) (inside : Bool) (cs : List Column) → out-Op o ≡ Op-F.Summarize g → op_columns o k inside cs ≡ answer_if (summarize_fits g cs) (group_columns g cs)
unfolding op_columns plan_columns
op-columns o g k inside cs e =
    ap (λ (f : OpColumns). f k inside cs) (fold_out-Op OpColumns PlanColumns op_columns_step plan_columns_step o)
    ∙ ap (λ (f : Op-F Op Plan). op_columns_step (map-Op Op Plan OpColumns PlanColumns op_columns plan_columns f) k inside cs) e

op-fits : (o : Op) (g : GroupPlan) (w : World) (t : Grid) → group_of_op o ≡ Some g → OpFits o w t → is_some (answer_if (summarize_fits g t.columns) (group_columns g t.columns)) ≡ true
unfolding OpFits
op-fits o g w t e f = sym (ap is_some (op-columns o g f.0 f.1 t.columns (out-is o g e))) ∙ f.4

-- The source is the table that there is.

no-true : {P : Type 0} → false ≡ true → P
no-true e = absurd cc

found-one : (n : Named) (name : List ℕ) → is_some (table_found (n ∷ []) name) ≡ true → named_table (n ∷ []) name ≡ n.table
unfolding named_table table_of
found-one n name e = elim (cases_Bool (bytes_eq n.name name)) [
  | inl y ↦ rw y refl
  | inr f ↦ no-true (rw f at e)
]

from-table : (n : Named) (main : Plan) (name : List ℕ) → main.source ≡ source.Table name → PlanFits main (world_of (n ∷ []) []) → source_table main.source (world_of (n ∷ []) []) ≡ n.table
from-table n main name from f =
    let w : World = world_of (n ∷ []) [] in
    let there = table-there name w (subst (λ (s : Source). SourceFits s w) from (source-fits main w f)) in
    ap (λ (s : Source). source_table s w) from ∙ (means-Table name w ∙ found-one n name there)

-- The plan.

-- what is known of one that is kept
pub record IsKept (g : GroupPlan) (n : Named) (lets : List Plan) (main : Plan) : Type 0 where
  pub means : means_behind lets main (n ∷ []) [] ≡ summarize_table g n.table
  pub fits : is_some (answer_if (summarize_fits g n.table.columns) (group_columns g n.table.columns)) ≡ true

one-kept : (g : GroupPlan) (n : Named) (main : Plan) (name : List ℕ) (ops : List Op) → main.source ≡ source.Table name → main.ops ≡ ops → one_group ops ≡ Some g → FitBehind [] main (n ∷ []) [] → IsKept g n [] main
unfolding means_behind with_lets
one-kept g n main name [] from are e f = absurd cc
one-kept g n main name (o ∷ p ∷ ops) from are e f = absurd cc
one-kept g n main name (o ∷ []) from are e f =
    let w : World = world_of (n ∷ []) [] in
    let fits = main-fits main (n ∷ []) [] f in
    let table = from-table n main name from fits in
    let all : OpsFit (o ∷ []) w n.table = subst (λ (t : Grid). OpsFit (o ∷ []) w t) table (subst (λ (os : List Op). OpsFit os w (source_table main.source w)) are (ops-fit main w fits)) in
    record {
      means =
          plan-means main w
          ∙ (ap (λ (os : List Op). one_after_another (map op_means os) w (source_table main.source w)) are
          ∙ (ap (λ (t : Grid). one_after_another (map op_means (o ∷ [])) w t) table
          ∙ (one-more o [] w n.table ∙ (no-more w (op_means o w n.table) ∙ op-means o g w n.table e))));
      fits = op-fits o g w n.table e (first-fits o [] w n.table all);
    }

of-source : (g : GroupPlan) (n : Named) (main : Plan) (s : Source) → main.source ≡ s → over_table s (one_group main.ops) ≡ Some g → FitBehind [] main (n ∷ []) [] → IsKept g n [] main
of-source g n main (source.Table name) from e f = one-kept g n main name main.ops from refl e f
of-source g n main (source.Let i) from e f = absurd cc
of-source g n main (source.Range column first last step) from e f = absurd cc
of-source g n main (source.Print items) from e f = absurd cc

of-lets : (g : GroupPlan) (n : Named) (lets : List Plan) (main : Plan) → without_lets lets (over_table main.source (one_group main.ops)) ≡ Some g → FitBehind lets main (n ∷ []) [] → IsKept g n lets main
of-lets g n [] main e f = of-source g n main main.source refl e f
of-lets g n (p ∷ ps) main e f = absurd cc

-- The program.

of-view : (p : Program) (g : GroupPlan) → view_of p ≡ Some g → without_lets p.lets (over_table p.main.source (one_group p.main.ops)) ≡ Some g
unfolding view_of
of-view p g e = e

kept : (q : LiveQuery) (g : GroupPlan) (t : Grid) → IsTable t → view_of q.program ≡ Some g → FitsColumns q t.columns → IsKept g (named q t) q.program.lets q.program.main
kept q g t table e f =
    let all : All (λ (n : Named). IsTable n.table) (named q t ∷ []) = All-cons (λ (n : Named). IsTable n.table) (named q t) [] table (All-nil (λ (n : Named). IsTable n.table)) in
    of-lets g (named q t) q.program.lets q.program.main (of-view q.program g e) (program-fits q.program (named q t ∷ []) all f)

-- it means its one `summarize`
pub view-means : (q : LiveQuery) (g : GroupPlan) (t : Grid) → IsTable t → view_of q.program ≡ Some g → FitsColumns q t.columns → live_means q t ≡ summarize_table g t
view-means q g t table e f = sym (program-means q.program (named q t ∷ [])) ∙ (kept q g t table e f).means

-- which fits the table
pub view-fits : (q : LiveQuery) (g : GroupPlan) (t : Grid) → IsTable t → view_of q.program ≡ Some g → FitsColumns q t.columns → is_some (answer_if (summarize_fits g t.columns) (group_columns g t.columns)) ≡ true
view-fits q g t table e f = (kept q g t table e f).fits

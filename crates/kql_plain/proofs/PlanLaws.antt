-- A plan: its source, and then its operators. Plans, one after another.
use Rattle.std.proofs.Common.{◌≡◌, true, false, List, [], ◌∷◌, ◌++◌, map, refl, sym, ap, ◌∙◌}
use Rattle.std.specs.Prelude.{None, Option, Some, is_some, option_and_then, option_map}
use Rattle.std.proofs.lemmas.List.{append_assoc}
use Rattle.kql_cells.specs.Table.{Grid}
use Rattle.kql_cells.specs.declared.schema.Column.{Column}
use Rattle.kql_bound.specs.declared.plan.Plan.{Plan}
use Rattle.kql_meaning.specs.Fits.{Known, all_columns, of_columns, ops_columns, plan_columns, plans_columns, source_columns}
use Rattle.kql_meaning.specs.Plans.{World, one_after_another, op_means, plan_means, source_table}
use Rattle.kql_meaning.proofs.OperatorFitLaws.{plan-out}
use Rattle.kql_meaning.proofs.PlanLaws.{ops_mean-map, plan_means-out}
use Rattle.kql_fit_laws.proofs.OperatorLaws.{each_source_keeps}
use Rattle.kql_plain.specs.AtHand.{IsSo, OpsFit, PlanFits, PlansFit, SourceFits, plans_mean}

pub plan-means : (p : Plan) (w : World) → plan_means p w ≡ one_after_another (map op_means p.ops) w (source_table p.source w)
plan-means p w = plan_means-out p w ∙ sym (ops_mean-map p.ops w (source_table p.source w))

-- Where a plan fits, its source does, and its operators fit the table of the source.

parted : (p : Plan) (w : World) (k : Known) → IsSo k w → (o : Option (List Column)) → source_columns p.source k ≡ o → is_some (of_columns o (λ cs. ops_columns p.ops k false cs)) ≡ true → SourceFits p.source w × OpsFit p.ops w (source_table p.source w)
unfolding of_columns SourceFits OpsFit
parted p w k s None e f = absurd cc
parted p w k s (Some cs) e f =
    let keeps = each_source_keeps k w s.0 p.source cs e in
    ((k, s, ap is_some e), (k, false, s, keeps.1, ap (λ (ds : List Column). is_some (ops_columns p.ops k false ds)) keeps.0 ∙ f))

both-fit : (p : Plan) (w : World) → PlanFits p w → SourceFits p.source w × OpsFit p.ops w (source_table p.source w)
unfolding PlanFits
both-fit p w f = parted p w f.0 f.1 (source_columns p.source f.0) refl (sym (ap is_some (plan-out p f.0)) ∙ f.2)

pub source-fits : (p : Plan) (w : World) → PlanFits p w → SourceFits p.source w
source-fits p w f = (both-fit p w f).0

pub ops-fit : (p : Plan) (w : World) → PlanFits p w → OpsFit p.ops w (source_table p.source w)
ops-fit p w f = (both-fit p w f).1

pub ruleset plan_steps = (plan-means, source-fits, ops-fit)

-- Plans.

plans-parted : (p : Plan) (ps : List Plan) (w : World) (k : Known) → IsSo k w → (o : Option (List Column)) → plan_columns p k ≡ o → (r : Option (List (List Column))) → all_columns (map plan_columns ps) k ≡ r → is_some (option_and_then (λ one. option_map (λ more. one ∷ more) r) o) ≡ true → PlanFits p w × PlansFit ps w
unfolding PlanFits PlansFit plans_columns
plans-parted p ps w k s None e r f g = absurd cc
plans-parted p ps w k s (Some c) e None f g = absurd cc
plans-parted p ps w k s (Some c) e (Some ms) f g = ((k, s, ap is_some e), (k, s, ap is_some f))

both-plans : (p : Plan) (ps : List Plan) (w : World) → PlansFit (p ∷ ps) w → PlanFits p w × PlansFit ps w
unfolding PlansFit plans_columns all_columns
both-plans p ps w f = plans-parted p ps w f.0 f.1 (plan_columns p f.0) refl (all_columns (map plan_columns ps) f.0) refl f.2

pub first-fits : (p : Plan) (ps : List Plan) (w : World) → PlansFit (p ∷ ps) w → PlanFits p w
first-fits p ps w f = (both-plans p ps w f).0

pub others-fit : (p : Plan) (ps : List Plan) (w : World) → PlansFit (p ∷ ps) w → PlansFit ps w
others-fit p ps w f = (both-plans p ps w f).1

pub more-tables : (p : Plan) (ps left : List Plan) (w : World) (made next all : List Grid) (t : Grid) → left ≡ p ∷ ps → t ≡ plan_means p w → next ≡ made ++ t ∷ [] → made ++ plans_mean left w ≡ all → next ++ plans_mean ps w ≡ all
more-tables p ps left w made next all t is table pushed rest =
    ap (λ (ts : List Grid). ts ++ plans_mean ps w) (pushed ∙ ap (λ (u : Grid). made ++ u ∷ []) table)
    ∙ (append_assoc made (plan_means p w ∷ []) (plans_mean ps w) ∙ (ap (λ (qs : List Plan). made ++ plans_mean qs w) (sym is) ∙ rest))

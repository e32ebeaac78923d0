-- The equations of `op_means`, `plan_means` and their columns: a plan is its source and then its operators, one after another.
use Rattle.std.proofs.Common.{◌≡◌, List, [], ◌∷◌, map, refl, ap, ◌∙◌}
use Rattle.std.specs.Prelude.{fold}
use Rattle.kql_cells.specs.Table.{Grid}
use Rattle.kql_bound.specs.declared.plan.Op.{Op, out-Op, fold_out-Op}
use Rattle.kql_bound.specs.declared.plan.Op.TheFolds.{map-Op}
use Rattle.kql_bound.specs.declared.plan.Plan.{Plan, fold_out-Plan}
use Rattle.kql_meaning.specs.Plans.{Gives, Makes, World, one_after_another, op_means, op_step, plan_means, plan_step, source_table}

-- Operators, each over what the one before it made.
pub ops_mean-map : (ops : List Op) (w : World) (t : Grid) → one_after_another (map op_means ops) w t ≡ fold (λ before op. op_means op w before) t ops
unfolding one_after_another
ops_mean-map [] w t = refl
ops_mean-map (op ∷ ops) w t = ops_mean-map ops w (op_means op w t)

-- A plan: its source, and then its operators.
pub plan_means-out : (p : Plan) (w : World) → plan_means p w ≡ fold (λ before op. op_means op w before) (source_table p.source w) p.ops
unfolding plan_means op_means
plan_means-out p w = ap (λ (f : Gives). f w) (fold_out-Plan Makes Gives op_step plan_step p) ∙ ops_mean-map p.ops w (source_table p.source w)

-- An operator, from those and the plans in it.
pub op_means-out : (op : Op) (w : World) (t : Grid) → op_means op w t ≡ op_step (map-Op Op Plan Makes Gives op_means plan_means (out-Op op)) w t
unfolding plan_means op_means
op_means-out op w t = ap (λ (f : Makes). f w t) (fold_out-Op Makes Gives op_step plan_step op)

use Rattle.std.proofs.Common.{◌≡◌, take, drop, true}
use Rattle.std.specs.Prelude.{Some}
use Rattle.std.specs.List.{list_all}
use Rattle.kql_meaning.specs.Fits.{known_of, ops_columns}
use Rattle.plan_push.proofs.RewrittenSteps.{Rewritten}
use Rattle.plan_push.specs.Settled.{settled_ops, settled_plan}
use Rattle.plan_push.proofs.driver.+rewrite.Given as goal

abbrev pub invariant-rewritten_ops-loop-i : goal.invariant-rewritten_ops-loop-i
invariant-rewritten_ops-loop-i l = Rewritten (known_of l.tables l.lets) l.inside l.columns l.ops l.i l.before l.all l.changed

abbrev pub invariant-rewritten_plans-loop-i : goal.invariant-rewritten_plans-loop-i
invariant-rewritten_plans-loop-i l = list_all (λ p. settled_plan p (known_of l.tables l.lets)) l.plans ≡ list_all (λ p. settled_plan p (known_of l.tables l.lets)) (drop l.i l.plans)

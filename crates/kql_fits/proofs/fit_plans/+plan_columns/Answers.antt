use Rattle.std.proofs.Common.{arith, ◌∙◌, ap, sym}
use Rattle.std.specs.Prelude.{Some}
use Rattle.kql_meaning.specs.Fits.{known_of, op_columns, plan_columns}
use Rattle.kql_meaning.proofs.OperatorFitLaws.{ops-more, plans-more}
use Rattle.kql_fits.proofs.fit_plans.+plan_columns.Goals as goal

pub ops_columns-loop-op-preserved : goal.ops_columns-loop-op-preserved
ops_columns-loop-op-preserved t c =
    ops-more c.args.ops.now (known_of c.args.tables.now c.args.lets.now) c.args.inside c.args.columns.now c.loop-op.op-index c.op-item.result c.loop-op.made (Some c.in-Some.next)
    (omega (arith, c.loop-op-test.true)) c.loop-op.invariant
    (sym (ap (λ o. op_columns o (known_of c.args.tables.now c.args.lets.now) c.args.inside c.loop-op.made) (sym c.op-item.is)
    ∙ (ap (λ m. op_columns c.op-item.result (known_of c.args.tables.now c.args.lets.now) c.args.inside m) (sym c.as_slice.ensures.items) ∙ (sym c.in_ok-next.ensures.columns ∙ c.in-Some.is))))

pub plans_columns-loop-plan-preserved : goal.plans_columns-loop-plan-preserved
plans_columns-loop-plan-preserved t c =
    plans-more c.args.plans.now (known_of c.args.tables.now c.args.lets.now) c.loop-plan.plan-index c.plan-item.result c.loop-plan.all c.push.new.self c.in-Some.columns
    (omega (arith, c.loop-plan-test.true)) c.loop-plan.invariant
    (ap (λ p. plan_columns p (known_of c.args.tables.now c.args.lets.now)) (sym c.plan-item.is) ∙ (sym c.in_ok-columns.ensures.columns ∙ c.in-Some.is)) c.in_ok-push.ensures.added

use Rattle.std.proofs.Common.{arith, ◌∙◌, ap, sym}
use Rattle.kql_meaning.specs.Fits.{known_of, plan_columns}
use Rattle.kql_meaning.proofs.OperatorFitLaws.{lets-more}
use Rattle.kql_fits.proofs.fit_programs.lets_columns.Goals as goal

pub loop-plan-preserved : goal.loop-plan-preserved
loop-plan-preserved c =
    lets-more c.args.lets.now c.args.tables.now c.loop-plan.plan-index c.plan-item.result c.loop-plan.all c.push.new.self c.in-Some.columns
    (omega (arith, c.loop-plan-test.true)) c.loop-plan.invariant
    (ap (λ p. plan_columns p (known_of c.args.tables.now c.loop-plan.all)) (sym c.plan-item.is)
    ∙ (ap (λ m. plan_columns c.plan-item.result (known_of c.args.tables.now m)) (sym c.as_slice.ensures.items) ∙ (sym c.in_ok-columns.ensures.columns ∙ c.in-Some.is))) c.in_ok-push.ensures.added

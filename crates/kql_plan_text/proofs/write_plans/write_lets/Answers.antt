use Rattle.std.proofs.Common.{[], ◌+◌, ◌++◌, append-nil, sym, ap, ◌∙◌, arith}
use Rattle.kql_plan_text.proofs.PlanSteps.{text_of-lets, text_of-no_lets}
use Rattle.kql_plan_text.proofs.Separated.{one_more_part}
use Rattle.kql_plan_text.proofs.write_plans.write_lets.Goals as goal

pub loop-number-init : goal.loop-number-init
loop-number-init c = sym (ap (λ l. c.args.text.now ++ l) (text_of-no_lets [] c.args.lets.now) ∙ append-nil _)

pub loop-number-preserved : goal.loop-number-preserved
loop-number-preserved c =
    let more = text_of-lets [] c.args.lets.now c.loop-number.number (c.loop-number.number + 1) c.index-lets-number.result (omega arith) (omega arith) c.index-lets-number.is in
    one_more_part _ _ _ _ _ _ c.loop-number.invariant c.in_ok-write_let_plan.ensures.added more

use Rattle.kql_plan_text.proofs.Escapes.{one_more}
use Rattle.kql_plan_text.proofs.write_literals.push_escaped.Goals as goal

pub loop-c-preserved : goal.loop-c-preserved
loop-c-preserved c = one_more _ _ _ _ _ _ _ c.requires.ascii c.loop-c.invariant c.in-Some.ensures.steps.0 c.in_ok-push_char.ensures.added

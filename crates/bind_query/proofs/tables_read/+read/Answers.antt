use Rattle.std.proofs.Common.{◌∙◌, ap, arith}
use Rattle.bind_query.specs.TablesRead.{op_tables, plan_tables, with_tables_read}
use Rattle.bind_query.proofs.ReadSteps.{ops-turn, plans-turn}
use Rattle.bind_query.proofs.tables_read.+read.Goals as goal

pub read_ops-each-preserved : goal.read_ops-each-preserved
read_ops-each-preserved t c =
    ops-turn c.args.schemas.now c.args.made c.each.tables c.in_ok-tables.tables c.args.ops.now c.each.op-index c.op-item.result
    (omega (arith, c.each-test.true)) c.each.invariant
    (c.in_ok-tables.ensures.tables ∙ ap (λ o. with_tables_read c.args.schemas.now c.each.tables (op_tables o)) c.op-item.is)

pub read_plans-each-preserved : goal.read_plans-each-preserved
read_plans-each-preserved t c =
    plans-turn c.args.schemas.now c.args.made c.each.tables c.in_ok-tables.tables c.args.plans.now c.each.plan-index c.plan-item.result
    (omega (arith, c.each-test.true)) c.each.invariant
    (c.in_ok-tables.ensures.tables ∙ ap (λ p. with_tables_read c.args.schemas.now c.each.tables (plan_tables p)) c.plan-item.is)

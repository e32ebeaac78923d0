use Rattle.std.proofs.Common.{ap, ◌∙◌}
use Rattle.kql_plan_text.specs.Exprs.{expr_text}
use Rattle.kql_plan_text.proofs.ExprSteps.{expr_text-Chain, expr_text-Path}
use Rattle.kql_plan_text.proofs.Separated.{on_ok, three}
use Rattle.kql_plan_text.proofs.write_exprs.+write_expr.Goals as goal

pub write_expr-returns-in_ok-write_expr-in-Chain : goal.write_expr-returns-in_ok-write_expr-in-Chain
write_expr-returns-in_ok-write_expr-in-Chain t c = record {
  added = on_ok _ _ _ (three _ _ _ _ _ _ _ _
      (ap expr_text c.in-Chain.is ∙ expr_text-Chain c.in-Chain.first c.in-Chain.links)
      (rw c.as_slice-in-Chain.ensures.items at c.in_ok-write_chain_front-in-Chain.ensures.added)
      (rw c.get.ensures.value at c.in_ok-write_expr-in-Chain.ensures.added))
      (rw c.as_slice-in-Chain-2.ensures.items at c.write_chain_end.ensures.added);
}

pub write_expr-returns-in_ok-write_expr-in-Path : goal.write_expr-returns-in_ok-write_expr-in-Path
write_expr-returns-in_ok-write_expr-in-Path t c = record {
  added = on_ok _ _ _ (three _ _ _ _ _ _ _ _
      (ap expr_text c.in-Path.is ∙ expr_text-Path c.in-Path.whole c.in-Path.steps)
      (rw c.as_slice-in-Path.ensures.items at c.in_ok-write_path_front-in-Path.ensures.added)
      (rw c.get-in-Path.ensures.value at c.in_ok-write_expr-in-Path.ensures.added))
      (rw c.as_slice-in-Path-2.ensures.items at c.write_path_end.ensures.added);
}

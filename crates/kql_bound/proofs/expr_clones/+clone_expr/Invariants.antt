use Rattle.std.proofs.Common.{◌≡◌, take}
use Rattle.kql_bound.proofs.expr_clones.+clone_expr.Given as goal

abbrev pub invariant-clone_exprs-loop-e : goal.invariant-clone_exprs-loop-e
invariant-clone_exprs-loop-e l = l.copies ≡ take l.e-index l.e-items

abbrev pub invariant-clone_links-loop-link : goal.invariant-clone_links-loop-link
invariant-clone_links-loop-link l = l.copies ≡ take l.link-index l.link-items

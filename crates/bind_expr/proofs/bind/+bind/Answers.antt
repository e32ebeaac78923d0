use Rattle.std.proofs.Common.{rules}
use Rattle.bind_expr.proofs.bind.+bind.Goals as goal
use Rattle.bind_expr.proofs.BoundSteps.{ands-turn, compared-answers, factors-turn, links-turn, ors-turn}

pub bind_ors-ors-preserved : goal.bind_ors-ors-preserved
bind_ors-ors-preserved t c = ors-turn c.args.scope.now c.args.spot c.args.more.now c.ors.link-index c.link-item.result c.args.start c.ors.left c.bind_and-right.result c.next_or-left.result c.link-item.is (search rules) c.ors.invariant c.bind_and-right.ensures.exact c.next_or-left.ensures.exact

pub bind_ands-ands-preserved : goal.bind_ands-ands-preserved
bind_ands-ands-preserved t c = ands-turn c.args.scope.now c.args.spot c.args.more.now c.ands.link-index c.link-item.result c.args.start c.ands.left c.bind_cmp-right.result c.next_and-left.result c.link-item.is (search rules) c.ands.invariant c.bind_cmp-right.ensures.exact c.next_and-left.ensures.exact

pub bind_links-links-preserved : goal.bind_links-links-preserved
bind_links-links-preserved t c = links-turn c.args.scope.now c.args.spot c.args.more.now c.links.link-index c.link-item.result c.args.start c.links.left c.bind_prod-right.result c.next_link-left.result c.link-item.is (search rules) c.links.invariant c.bind_prod-right.ensures.exact c.next_link-left.ensures.exact

pub bind_factors-factors-preserved : goal.bind_factors-factors-preserved
bind_factors-factors-preserved t c = factors-turn c.args.scope.now c.args.spot c.args.more.now c.factors.link-index c.link-item.result c.args.start c.factors.left c.bind_sign-right.result c.next_factor-left.result c.link-item.is (search rules) c.factors.invariant c.bind_sign-right.ensures.exact c.next_factor-left.ensures.exact

pub bind_cmp-returns-in-Some : goal.bind_cmp-returns-in-Some
bind_cmp-returns-in-Some t c = record {
  exact = compared-answers c.args.e.now c.in-Compared.left c.in-Compared.sign c.get-in-Some.result.now c.compare_func.result c.in-Some.f c.args.scope.now c.args.spot c.inside-at.result c.bind_sum-left.result c.bind_sum-right.result c.compare_node.result (search rules) c.compare_func.ensures c.in-Some.is (search rules) c.bind_sum-left.ensures.exact c.bind_sum-right.ensures.exact c.compare_node.ensures.exact;
}

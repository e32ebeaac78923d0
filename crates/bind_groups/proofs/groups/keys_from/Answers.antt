use Rattle.std.proofs.Common.{arith, subst}
use Rattle.bind_expr.specs.Outcome.{Answers}
use Rattle.kql_syntax.specs.declared.query.Item.{Item}
use Rattle.bind_operators.proofs.AnswerSteps.{items-turn}
use Rattle.bind_operators.specs.Items.{item_link}
use Rattle.bind_groups.specs.Summarize.{group_key}
use Rattle.bind_groups.proofs.groups.keys_from.Goals as goal

pub each-preserved : goal.each-preserved
each-preserved c =
    let scope = c.args.scope.now in
    let before = c.each.done in
    let t = c.bind_typed-t.result in
    items-turn (group_key scope) c.args.next c.args.keys.now c.each.key-index c.key-item.result before t c.next_item-done.result (omega (arith, c.each-test.true)) c.each.invariant
    (subst (λ (item : Item). Answers t (group_key scope item)) c.key-item.is c.bind_typed-t.ensures.exact)
    (subst (λ (item : Item). Answers c.next_item-done.result (item_link before item t)) c.key-item.is c.next_item-done.ensures.exact)

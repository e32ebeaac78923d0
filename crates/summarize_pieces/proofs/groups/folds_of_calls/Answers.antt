use Rattle.std.proofs.Common.{◌∙◌, ap, rules}
use Rattle.summarize_pieces.specs.Pieces.{Called}
use Rattle.summarize_pieces.proofs.GroupSteps.{calls-next}
use Rattle.summarize_pieces.proofs.groups.folds_of_calls.Goals as goal

pub calls-preserved : goal.calls-preserved
calls-preserved c =
    let own = c.as_slice.ensures.value ∙ ap (λ (q : Called). q.columns) c.call.view_is in
    calls-next c.args.calls.now c.args.numbers.now c.args.count c.calls.call-index c.call-item.result c.calls.folds.items c.push.new.self.items c.in_ok-kept.kept c.as_slice.result.now (search rules) c.call-item.is own c.calls.invariant c.in_ok-kept.ensures.states c.in_ok-made.ensures.stored (search rules)

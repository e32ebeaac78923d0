use Rattle.std.proofs.Common.{ap, rules}
use Rattle.summarize_pieces.specs.Pieces.{Called}
use Rattle.summarize_pieces.proofs.GroupSteps.{fold-calls-more}
use Rattle.summarize_pieces.proofs.groups.fold_calls.Goals as goal

pub calls-preserved : goal.calls-preserved
calls-preserved c = fold-calls-more c.args.calls.now c.calls.call-index c.call-item.result _ c.calls.made.items c.push.new.self.items (search rules) c.call-item.is (ap (λ (q : Called). q.call) c.call.view_is) c.calls.invariant c.in_ok-push.ensures.items

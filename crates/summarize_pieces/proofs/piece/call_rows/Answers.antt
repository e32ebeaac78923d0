use Rattle.std.proofs.Common.{rules}
use Rattle.summarize_pieces.proofs.PlanSteps.{calls-more}
use Rattle.summarize_pieces.proofs.piece.call_rows.Goals as goal

pub calls-preserved : goal.calls-preserved
calls-preserved c = calls-more c.args.t.now c.args.from c.args.to c.args.found.now c.calls.call-index c.call-item.result c.aggregate.result c.arguments.result.now c.calls.calls.items c.push.new.self.items c.in_ok-one.one (search rules) c.call-item.is c.aggregate.ensures.aggregate c.arguments.ensures.arguments c.calls.invariant c.in_ok-one.ensures.call c.in_ok-push.ensures.items

use Rattle.summarize_pieces.proofs.FirstSteps.{firsts-more}
use Rattle.summarize_pieces.proofs.calls.push_firsts.Goals as goal

pub columns-preserved : goal.columns-preserved
columns-preserved c = firsts-more c.args.columns.now c.columns.column-index c.column-item.result c.from_ref.result.now c.args.calls.now.items c.columns.calls.items c.push.new.self.items c.columns-test.true c.column-item.is c.from_ref.ensures.value c.columns.invariant c.in_ok-push.ensures.items

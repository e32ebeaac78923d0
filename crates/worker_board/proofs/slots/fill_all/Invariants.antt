use Rattle.worker_board.specs.Placing.{IsFilling}
use Rattle.worker_board.proofs.slots.fill_all.Given as goal

abbrev pub invariant-loop-made : goal.invariant-loop-made
invariant-loop-made g l = IsFilling (g.W.Work.answer l.work) l.pieces l.slots.items l.results.items

abbrev pub decreases-loop-made : goal.decreases-loop-made
decreases-loop-made g l = goal.left-loop-made g l

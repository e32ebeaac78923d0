use Rattle.phase_windows.proofs.ItemSteps.{all-cut, last-round}
use Rattle.phase_windows.proofs.items.run_items.Goals as goal

pub returns-clause-rounds : goal.returns-clause-rounds
returns-clause-rounds g c = last-round c.args.workers c.args.items.now c.in_ok-before.field-0.gathered c.push.new.self c.in_ok-made.field-0.gathered c.in_ok-before.ensures.rounds c.in_ok-push.ensures.added c.in_ok-made.ensures.whole

pub returns-clause-pieces : goal.returns-clause-pieces
returns-clause-pieces g c = all-cut _ _ _ _ _ _ _ c.cut_rows-cut.ensures.pieces c.len.ensures.count c.in_ok-before.ensures.pieces c.in_ok-push.ensures.added c.in_ok-made.ensures.pieces

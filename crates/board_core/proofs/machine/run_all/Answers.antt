use Rattle.std.proofs.Common.{sym, ap, ◌∙◌, subst}
use Rattle.std.proofs.lemmas.List.{at_drop_all}
use Rattle.board_core.specs.State.{run, worker_count, piece_count, IsReached}
use Rattle.board_core.proofs.Lawful.{lawful_reached, reached_run}
use Rattle.board_core.proofs.Sizes.{worker_count-run, piece_count-run}
use Rattle.board_core.proofs.machine.run_all.Goals as goal

pub returns-clause-state : goal.returns-clause-state
returns-clause-state c =
    sym (at_drop_all (λ events. run events c.loop-event.core) c.args.events.now c.loop-event.event-index c.loop-event-test.false) ∙ c.loop-event.invariant

pub returns-clause-workers : goal.returns-clause-workers
returns-clause-workers c = ap worker_count (returns-clause-state c) ∙ worker_count-run c.args.events.now c.args.core.now

pub returns-clause-pieces : goal.returns-clause-pieces
returns-clause-pieces c = ap piece_count (returns-clause-state c) ∙ piece_count-run c.args.events.now c.args.core.now

pub returns-clause-reached : goal.returns-clause-reached
returns-clause-reached c =
    subst IsReached (sym (returns-clause-state c)) (reached_run c.args.events.now c.args.core.now (subst IsReached c.core.view_is c.core.invariant.reached))

pub returns-clause-lawful : goal.returns-clause-lawful
returns-clause-lawful c = lawful_reached c.loop-event.core (returns-clause-reached c)

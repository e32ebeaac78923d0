use Rattle.std.proofs.Common.{◌≡◌, drop}
use Rattle.board_core.specs.State.{run}
use Rattle.board_core.proofs.machine.run_all.Given as goal

abbrev pub invariant-loop-event : goal.invariant-loop-event
invariant-loop-event l = run (drop l.event-index l.events) l.core ≡ run l.events l.fn.core

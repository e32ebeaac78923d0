use Rattle.std.proofs.Common.{◌≡◌}
use Rattle.window_ops.specs.Carries.{run_on}
use Rattle.window_ops.specs.Running.{restart_at, term_at}
use Rattle.window_ops.proofs.running.carry_over.Given as goal

-- the carry of the rows so far
abbrev pub invariant-rows : goal.invariant-rows
invariant-rows l = l.run ≡ run_on (restart_at l.restarts) (term_at l.terms) l.before l.i

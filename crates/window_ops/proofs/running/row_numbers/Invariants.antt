use Rattle.std.proofs.Common.{◌≡◌, map}
use Rattle.std.specs.Prelude.{None}
use Rattle.std.specs.List.{range_with_len}
use Rattle.window_ops.specs.Carries.{run_on}
use Rattle.window_ops.specs.Running.{number_at, restart_at, term_at}
use Rattle.window_ops.proofs.running.row_numbers.Given as goal

-- the numbers so far, and the carry of these rows
abbrev pub invariant-rows : goal.invariant-rows
invariant-rows l = record {
  made : l.numbers ≡ map (number_at l.starts l.restarts l.before) (range_with_len 0 l.i);
  run : l.run ≡ run_on (restart_at l.restarts) (term_at None) l.before l.i;
}

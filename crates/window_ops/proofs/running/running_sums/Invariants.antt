use Rattle.std.proofs.Common.{◌≡◌, map}
use Rattle.std.specs.Prelude.{Some}
use Rattle.std.specs.List.{range_with_len}
use Rattle.window_ops.specs.Carries.{run_on}
use Rattle.window_ops.specs.Running.{restart_at, sum_at, term_at}
use Rattle.window_ops.proofs.running.running_sums.Given as goal

-- the sums so far, and the carry of these rows
abbrev pub invariant-rows : goal.invariant-rows
invariant-rows l = record {
  made : l.sums ≡ map (sum_at l.kind l.restarts l.terms l.before) (range_with_len 0 l.i);
  run : l.run ≡ run_on (restart_at l.restarts) (term_at (Some l.terms)) l.before l.i;
}

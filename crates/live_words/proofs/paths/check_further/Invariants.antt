use Rattle.std.proofs.Common.{◌≡◌, ◌≤◌, ◌+◌, length}
use Rattle.kql_words.specs.Command.{texts}
use Rattle.kql_words.specs.Refusals.{unless}
use Rattle.live_words.specs.LiveWords.{further_faults}
use Rattle.live_words.proofs.paths.check_further.Given as goal

abbrev pub invariant-paths : goal.invariant-paths
invariant-paths l = record {
  few : l.before ≤ 64;
  count : l.before + length l.left ≡ 1 + length l.fn.paths;
  number : l.number + 1 ≡ l.first + l.before;
  left : unless (further_faults l.number l.before (texts l.left)) (tt {0}) ≡ unless (further_faults l.first 1 (texts l.fn.paths)) (tt {0});
}

abbrev pub decreases-paths : goal.decreases-paths
decreases-paths l = length l.left

use Rattle.std.proofs.Common.{length, replicate, true}
use Rattle.std.specs.Prelude.{All}
use Rattle.phase_pieces.specs.Reports.{IsWholeFor}
use Rattle.phase_run.proofs.ToldSteps.{Telling}
use Rattle.phase_run.proofs.report.Phases.tell_rounds.Given as goal

-- the rounds that are left
abbrev pub invariant-each : goal.invariant-each
invariant-each l = record {
  whole : All (IsWholeFor l.fn.self.workers) l.left;
  told : Telling l.fn.self l.self (λ m. replicate (length l.fn.rounds) true) (λ m. replicate (length l.left) true);
}

abbrev pub decreases-each : goal.decreases-each
decreases-each l = length l.left

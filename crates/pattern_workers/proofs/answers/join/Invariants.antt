use Rattle.std.proofs.Common.{◌≤◌, Some, length}
use Rattle.std.specs.Prelude.{All, slice_range}
use Rattle.pattern_ops.specs.Answers.{AreAnswers, FitAnswers}
use Rattle.pattern_workers.specs.Ranges.{IsRanged}
use Rattle.pattern_workers.proofs.answers.join.Given as goal

abbrev pub invariant-parts : goal.invariant-parts
invariant-parts g l = record {
  within : l.at ≤ length l.cells;
  values : AreAnswers (Some (g.P.Pattern.finds l.pattern)) l.group (slice_range l.cells 0 l.at) l.answers;
  fits : FitAnswers l.group (slice_range l.cells 0 l.at) l.answers;
  left : All (IsRanged (g.P.Pattern.finds l.pattern) l.group l.cells) l.left;
}

abbrev pub decreases-parts : goal.decreases-parts
decreases-parts g l = length l.left

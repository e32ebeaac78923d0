use Rattle.std.proofs.Common.{◌≡◌, All, length}
use Rattle.std.specs.Prelude.{slice_range}
use Rattle.kql_cells.specs.Values.{IsOfKind}
use Rattle.pattern_ops.specs.Answers.{answer_kind, AreAnswers}
use Rattle.pattern_ops.proofs.column.answers_by.Given as goal

abbrev pub invariant-loop-i : goal.invariant-loop-i
invariant-loop-i g l = record {
  same : g.S.Search.finds l.search ≡ g.S.Search.finds l.initial.search;
  values : AreAnswers (g.S.Search.finds l.initial.search) l.group (slice_range l.cells l.from l.i) l.answers;
  count : length l.answers ≡ length (slice_range l.cells l.from l.i);
  kinds : All (IsOfKind (answer_kind l.group)) l.answers;
}

use Rattle.std.proofs.Common.{◌∙◌, ap, arith}
use Rattle.std.proofs.lemmas.List.Elements.{All-push}
use Rattle.kql_cells.specs.Values.{IsOfKind}
use Rattle.pattern_ops.specs.Answers.{text_of, answer_kind}
use Rattle.pattern_ops.proofs.AnswerFacts.{answered, one_counted}
use Rattle.pattern_ops.proofs.column.answers_by.Goals as goal

pub loop-i-preserved : goal.loop-i-preserved
loop-i-preserved g c = record {
  same = c.answer.ensures.same ∙ c.loop-i.invariant.same;
  values = rw c.in_ok-push_cell.ensures.added
      (answered _ _ _ _ _ c.args.from _ _ _ c.loop-i.invariant.same (omega arith) (omega arith) (c.text_of.ensures.text ∙ ap text_of c.cell.ensures.same) c.loop-i.invariant.values c.answer.ensures.value);
  count = rw c.in_ok-push_cell.ensures.added (one_counted _ _ c.args.from _ _ (omega arith) (omega arith) c.loop-i.invariant.count);
  kinds = rw c.in_ok-push_cell.ensures.added (All-push (IsOfKind (answer_kind c.args.group)) _ _ c.loop-i.invariant.kinds c.answer.ensures.kind);
}

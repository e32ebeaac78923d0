use Rattle.pattern_run.proofs.AnsweredColumns.{call-column}
use Rattle.pattern_run.proofs.answers.column_of_call.Goals as goal

pub returns : goal.returns
returns c = record { column = call-column c.args.marks.now c.in_ok-name.name c.args.call.now c.answer_kind-kind.result c.in_ok-name.ensures.name c.answer_kind-kind.ensures.kind }

use Rattle.std.proofs.Common.{rules}
use Rattle.summarize_pieces.proofs.FirstSteps.{given-others}
use Rattle.summarize_pieces.proofs.ItemSteps.{push-best, push-one}
use Rattle.summarize_pieces.proofs.finish.push_value.Goals as goal

pub returns-in_ok-push_further : goal.returns-in_ok-push_further
returns-in_ok-push_further c = record {
  pushed = λ u rows h g e. push-best c.args.schema.now c.args.e.now c.further_columns-columns.result.now u rows c.args.values.now _ c.args.line.now c.push.new.self c.push_further.new.line c.in_ok-value.value c.requires.other c.further_columns-columns.ensures (search rules) h g e c.in_ok-value.ensures.value c.in_ok-push.ensures.added c.in_ok-push_further.ensures.pushed;
}

pub returns-in_ok-push-2 : goal.returns-in_ok-push-2
returns-in_ok-push-2 c = record {
  pushed = λ u rows h g e. push-one c.args.schema.now c.args.e.now c.further_columns-columns.result.now u c.args.line.now c.push-else-columns-gt0.new.self c.in_ok-value-2.value c.requires.item c.requires.other c.further_columns-columns.ensures (search rules) (c.in_ok-value-2.ensures.value u (given-others c.args.e.now u c.args.values.now c.requires.other h)) c.in_ok-push-2.ensures.added;
}

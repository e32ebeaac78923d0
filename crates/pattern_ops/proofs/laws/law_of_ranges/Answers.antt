use Rattle.pattern_ops.proofs.AnswerFacts.{answers-join, fitting-joins, whole-is-range}
use Rattle.pattern_ops.proofs.laws.law_of_ranges.Goals as goal

pub returns-clause-values : goal.returns-clause-values
returns-clause-values c = answers-join

pub returns-clause-fits : goal.returns-clause-fits
returns-clause-fits c = fitting-joins

pub returns-clause-whole : goal.returns-clause-whole
returns-clause-whole c = whole-is-range

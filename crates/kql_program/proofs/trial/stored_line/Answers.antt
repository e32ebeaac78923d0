use Rattle.std.proofs.Common.{◌+◌}
use Rattle.kql_trial.specs.Queries.{stored_query}
use Rattle.kql_program.proofs.TrialFacts.{line-made, line-raised}
use Rattle.kql_program.proofs.WordFacts.{raised-words, stopped-words}
use Rattle.kql_program.proofs.trial.stored_line.Goals as goal

pub returns-in_err-rows-clause-line : goal.returns-in_err-rows-clause-line
returns-in_err-rows-clause-line g c = line-raised c.args.catalogue.now (c.args.k + 1) c.stored_query.result.now (stored_query c.args.k) _ _ c.stored_query.ensures.text c.in_err-rows.ensures.rows c.from_residual.ensures.1

pub returns-clause-line : goal.returns-clause-line
returns-clause-line g c =
    line-made c.args.catalogue.now (c.args.k + 1) c.len.result c.len-2.result c.stored_query.result.now (stored_query c.args.k) c.in_ok-text.text c.in_ok-rows.rows c.in_ok-counted_line.field-0
    c.stored_query.ensures.text c.in_ok-rows.ensures.rows c.len.ensures.count c.in_ok-text.ensures.text c.len-2.ensures.count c.in_ok-counted_line.ensures

pub returns-in_err-rows-clause-words : goal.returns-in_err-rows-clause-words
returns-in_err-rows-clause-words g c = raised-words _ _ c.from_residual.ensures.1 (stopped-words _ c.in_err-rows.ensures.words)

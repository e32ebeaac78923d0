use Rattle.std.proofs.Common.{rules}
use Rattle.std.specs.Prelude.{None}
use Rattle.kql_program.proofs.StepFacts.{stored-fault, stored-rows, stored-tokens}
use Rattle.kql_program.proofs.WordFacts.{raised-words, row-words, stopped-words, syntax-words, tokens-words}
use Rattle.kql_program.proofs.trial.stored_rows.Goals as goal

pub returns-in_err-tokens-clause-rows : goal.returns-in_err-tokens-clause-rows
returns-in_err-tokens-clause-rows g c = stored-tokens c.args.text.now c.as_bytes.result.now c.args.catalogue.now _ _ (search rules) c.in_err-tokens.ensures.tokens c.from_residual.ensures.1

pub returns-in_err-query-clause-rows : goal.returns-in_err-query-clause-rows
returns-in_err-query-clause-rows g c = stored-fault c.args.text.now c.as_bytes.result.now c.in_ok-tokens.tokens c.args.catalogue.now _ _ (search rules) c.in_ok-tokens.ensures.tokens c.in_err-query.ensures.parsed c.from_residual-in_err-query.ensures.1

pub returns-clause-rows : goal.returns-clause-rows
returns-clause-rows g c = stored-rows c.args.text.now c.as_bytes.result.now c.in_ok-tokens.tokens c.args.catalogue.now c.in_ok-query.query _ (search rules) c.in_ok-tokens.ensures.tokens c.in_ok-query.ensures.parsed c.rows_over-rows.ensures.rows

pub returns-in_err-tokens-clause-words : goal.returns-in_err-tokens-clause-words
returns-in_err-tokens-clause-words g c = raised-words _ _ c.from_residual.ensures.1 (stopped-words _ (tokens-words _ _ c.in_err-tokens.ensures.tokens))

pub returns-in_err-query-clause-words : goal.returns-in_err-query-clause-words
returns-in_err-query-clause-words g c = raised-words _ _ c.from_residual-in_err-query.ensures.1 (syntax-words _)

pub returns-clause-words : goal.returns-clause-words
returns-clause-words g c = row-words _ None _ _ c.rows_over-rows.ensures.rows

use Rattle.kql_program.proofs.AnswerFacts.{raised-gives}
use Rattle.kql_program.proofs.FileFacts.{tokens-fault, tokens-ok}
use Rattle.kql_program.proofs.files.read_tokens.Goals as goal

pub returns-in_err-lex : goal.returns-in_err-lex
returns-in_err-lex c = record { tokens = raised-gives _ _ _ c.from_residual.ensures.1 (tokens-fault _ _ c.in_err-lex.ensures.refused) }

pub returns : goal.returns
returns c = record { tokens = tokens-ok _ _ c.in_ok-lex.ensures.tokens }

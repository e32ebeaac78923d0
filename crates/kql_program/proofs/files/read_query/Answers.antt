use Rattle.std.proofs.Common.{ap}
use Rattle.kql_program.specs.Files.{query_tokens}
use Rattle.kql_program.proofs.AnswerFacts.{gives-along}
use Rattle.kql_program.proofs.FileFacts.{query-lexed, query-unread}
use Rattle.kql_program.proofs.WordFacts.{tokens-words}
use Rattle.kql_program.proofs.CallFacts.{given-stops, raised-stops}
use Rattle.kql_program.proofs.LexFacts.{tokens-no_pattern}
use Rattle.kql_program.proofs.PatternFacts.{gives-pattern}
use Rattle.kql_program.proofs.files.read_query.Goals as goal

pub returns-in_err-bytes-clause-tokens : goal.returns-in_err-bytes-clause-tokens
returns-in_err-bytes-clause-tokens g c = query-unread _ c.args.path.now _ _ c.in_err-bytes.ensures.front c.from_residual.ensures.1

pub returns-clause-tokens : goal.returns-clause-tokens
returns-clause-tokens g c = query-lexed _ c.args.path.now _ _ c.in_ok-bytes.ensures.front (gives-along _ _ _ (ap query_tokens c.as_slice.ensures.items) c.read_tokens.ensures.tokens)

pub returns-clause-words : goal.returns-clause-words
returns-clause-words g c = tokens-words _ _ c.read_tokens.ensures.tokens

pub returns-in_err-bytes-clause-stops : goal.returns-in_err-bytes-clause-stops
returns-in_err-bytes-clause-stops g c = raised-stops _ _ _ _ c.from_residual.ensures.1 c.in_err-bytes.ensures.stops

pub returns-clause-stops : goal.returns-clause-stops
returns-clause-stops g c = given-stops _ _ _ _ c.read_tokens.ensures.tokens c.in_ok-bytes.ensures.stops

pub returns-clause-patterns : goal.returns-clause-patterns
returns-clause-patterns g c = gives-pattern _ _ (tokens-no_pattern _) c.read_tokens.ensures.tokens

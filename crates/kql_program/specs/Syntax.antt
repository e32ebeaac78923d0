-- What the grammar says of the tokens of a query.
use Rattle.std.specs.Prelude.{List, Ok, Err}
use Rattle.kql_lexer.specs.declared.token.Token.{Token}
use Rattle.kql_parser.specs.Parsing.{Parsed, Refuses}
use Rattle.kql_syntax.specs.declared.query.Query.{Query}
use Rattle.kql_words.specs.declared.refusal.Refusal.TheVariants as refusal
use Rattle.kql_words.specs.Refusals.{Answer}

-- a query, or a fault of the syntax
abbrev pub Verdict : Type 0
Verdict = Answer Query

-- the verdict on these tokens: the query that they are, or the first fault of their syntax
abbrev pub IsVerdict : List Token → Verdict → Type 0
IsVerdict tokens (Ok query) = Parsed tokens query
IsVerdict tokens (Err (refusal.Query code place)) = Refuses tokens code place
IsVerdict tokens (Err (refusal.Usage word code)) = ⊥
IsVerdict tokens (Err (refusal.Data file code row column)) = ⊥

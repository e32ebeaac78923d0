-- Where a query has too much.
use Rattle.std.specs.Prelude.{ℕ, ◌<◌, ◌≡◌, ◌⊎◌, List, length, None}
use Rattle.kql_lexer.specs.declared.token.Token.{Token}
use Rattle.kql_syntax.specs.Parsing.{OpensTooDeep, too_deep}
use Rattle.kql_parser.specs.declared.count.Next.TheVariants as next
use Rattle.kql_parser.specs.Operators.{NamesTooMany, one_too_many}
use Rattle.kql_parser.specs.Parsing.{ShallowTo, FewTo}

-- this is the first token that is too much, and this the code of its refusal
pub record Limited (s : List Token) (w code : ℕ) : Type 0 where
  pub within : w < length s
  pub cause : ((code ≡ 202) × OpensTooDeep s 0 w × FewTo s w) ⊎ ((code ≡ 203) × NamesTooMany s w × ShallowTo s w)

-- no token is too much
pub record Unlimited (s : List Token) : Type 0 where
  pub shallow : too_deep 0 0 s ≡ None
  pub few : one_too_many 0 0 next.Free s ≡ None

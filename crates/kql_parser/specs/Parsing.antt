-- What `parse` answers: the query that all tokens are, or where they are refused.
use Rattle.std.specs.Prelude.{ℕ, ◌+◌, ◌≤◌, ◌≡◌, ◌⊎◌, List, length, Result, Ok, Err}
use Rattle.kql_lexer.specs.declared.place.Place.{Place}
use Rattle.kql_lexer.specs.declared.token.Token.{Token}
use Rattle.kql_syntax.specs.declared.parse.SyntaxFault.{SyntaxFault}
use Rattle.kql_syntax.specs.declared.parse.SyntaxFault.TheVariants as fault
use Rattle.kql_syntax.specs.declared.query.Query.{Query}
use Rattle.kql_syntax.specs.Derives.{IsForm, BeginsForm}
use Rattle.kql_syntax.specs.Parsing.{OpensTooDeep, place_of}
use Rattle.kql_parser.specs.Operators.{NamesTooMany}
use Rattle.kql_parser.specs.Query.{query}

-- no bracket before index v opens too deep
abbrev pub ShallowTo : List Token → ℕ → Type 0
ShallowTo s v = (w : ℕ) → OpensTooDeep s 0 w → v ≤ w

-- no operator before index v is one too many
abbrev pub FewTo : List Token → ℕ → Type 0
FewTo s v = (w : ℕ) → NamesTooMany s w → v ≤ w

-- all tokens are this query, with its end mark; no bracket opens too deep, and no operator is one too many
pub record Parsed (s : List Token) (q : Query) : Type 0 where
  pub is : IsForm s query 0 (length s) q
  pub shallow : ShallowTo s (length s)
  pub few : FewTo s (length s)

-- the longest tokens that begin a query end before index v, and all tokens are none; no bracket and no operator before it is
-- too much
pub record Unexpected (s : List Token) (v : ℕ) : Type 0 where
  pub begins : BeginsForm s query 0 v
  pub furthest : (j : ℕ) → BeginsForm s query 0 j → j ≤ v
  pub none : (q : Query) → IsForm s query 0 (length s) q → ⊥
  pub shallow : ShallowTo s v
  pub few : FewTo s v

-- a bracket opens too deep at index w, and the tokens with it begin a query; no operator before it is one too many
pub record TooDeep (s : List Token) (w : ℕ) : Type 0 where
  pub deep : OpensTooDeep s 0 w
  pub begins : BeginsForm s query 0 (w + 1)
  pub few : FewTo s w

-- the operator that is named at index w is one too many, and the tokens with it begin a query; no bracket before it opens too
-- deep
pub record TooMany (s : List Token) (w : ℕ) : Type 0 where
  pub many : NamesTooMany s w
  pub begins : BeginsForm s query 0 (w + 1)
  pub shallow : ShallowTo s w

-- a refusal with this code at this place
pub record Refuses (s : List Token) (code : ℕ) (p : Place) : Type 0 where
  pub at : ℕ
  pub place : p ≡ place_of s at
  pub cause : ((code ≡ 201) × Unexpected s at) ⊎ (((code ≡ 202) × TooDeep s at) ⊎ ((code ≡ 203) × TooMany s at))

-- the query, or the refusal; want of memory says nothing
abbrev pub Parses : List Token → Result Query SyntaxFault → Type 0
Parses s (Ok q) = Parsed s q
Parses s (Err (fault.Refused code p)) = Refuses s code p
Parses s (Err fault.OutOfMemory) = Unit {0}

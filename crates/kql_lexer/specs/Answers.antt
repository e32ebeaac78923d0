-- How an error of the lexer tells a fault. Want of memory tells none.
use Rattle.std.specs.Prelude.{◌≡◌, ℕ, List, Option, Some, Result, Err}
use Rattle.std.specs.Prelude.{option_map}
use Rattle.kql_lexer.specs.Lexing.{Fault, fault_at}
use Rattle.kql_lexer.specs.declared.lexer.LexFault.{LexFault}
use Rattle.kql_lexer.specs.declared.lexer.LexFault.TheVariants.{Refused, OutOfMemory}
use Rattle.kql_lexer.specs.declared.token.Token.{Token}

-- an error tells a fault that stands in a text at a byte
abbrev pub IsFaultAt : List ℕ → LexFault → Option (ℕ × ℕ) → Type 0
IsFaultAt text OutOfMemory found = Unit {0}
IsFaultAt text (Refused code place) found = option_map (fault_at text) found ≡ Some (record { code = code; place = place })

abbrev pub IsFirstFault : LexFault → Result (List Token) Fault → Type 0
IsFirstFault OutOfMemory answer = Unit {0}
IsFirstFault (Refused code place) answer = answer ≡ Err (record { code = code; place = place })

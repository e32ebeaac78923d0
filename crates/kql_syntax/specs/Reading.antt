-- What a reader answers.
use Rattle.std.specs.Prelude.{ℕ, List, Result, Ok, Err}
use Rattle.kql_lexer.specs.declared.token.Token.{Token}
use Rattle.kql_syntax.specs.declared.reader.Fault.{Fault}
use Rattle.kql_syntax.specs.declared.reader.Fault.TheVariants as fault
use Rattle.kql_syntax.specs.Forms.{Form}
use Rattle.kql_syntax.specs.Derives.{Found, Refused}

-- a refusal at this place; want of memory says nothing
abbrev pub IsRefusedAt : (ℕ → Type 0) → Fault → Type 0
IsRefusedAt P (fault.Refused at) = P at
IsRefusedAt P fault.OutOfMemory = Unit {0}

-- the form is refused where the fault says
pub record Fails {A : Type 0} (a : Form A) (s : List Token) (i : ℕ) (f : Fault) : Type 0 where
  pub place : IsRefusedAt (Refused a s i) f

-- a value and its end, or a refusal
abbrev pub Reads : {A : Type 0} → Form A → List Token → ℕ → Result (A × ℕ) Fault → Type 0
Reads a s i (Ok r) = Found a s i r.1 r.0
Reads a s i (Err f) = Fails a s i f

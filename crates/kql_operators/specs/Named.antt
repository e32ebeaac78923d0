-- Names that stand at a place.
use Rattle.std.specs.Prelude.{ℕ, List, [], ◌∷◌}
use Rattle.kql_lexer.specs.declared.place.Place.{Place}
use Rattle.kql_lexer.specs.declared.token.Token.{Token}
use Rattle.kql_syntax.specs.declared.class.Class.TheVariants as class
use Rattle.kql_syntax.specs.declared.tree.Name.{Name}
use Rattle.kql_syntax.specs.Levels.{Level}
use Rattle.kql_syntax.specs.Forms.{level, mark, before}
use Rattle.kql_syntax.specs.Derives.{Found, Refused, BeginsForm}

-- a name stands here, and ends there
pub record NameEnds (s : List Token) (i end : ℕ) : Type 0 where
  pub it : Name
  pub name : Found (level Level.Name) s i end it

-- no name stands here
pub record NoName (s : List Token) (i : ℕ) : Type 0 where
  pub end : ℕ
  pub refused : Refused (level Level.Name) s i end

-- a name and an `=` stand here
pub record Named (s : List Token) (i : ℕ) : Type 0 where
  pub middle : ℕ
  pub end : ℕ
  pub it : Name
  pub sign : Place
  pub name : Found (level Level.Name) s i middle it
  pub assign : Found (mark (class.Assign ∷ [])) s middle end sign

-- no name and `=` stand here
pub record Nameless (s : List Token) (i : ℕ) : Type 0 where
  pub middle : ℕ
  pub refused : Refused (before (level Level.Name) (class.Assign ∷ [])) s i middle
  pub begins : BeginsForm s (level Level.Name) i middle

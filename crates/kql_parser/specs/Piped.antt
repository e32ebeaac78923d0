-- Pipes that stand at a place where an expression could.
use Rattle.std.specs.Prelude.{ℕ, ◌⊎◌, List, [], ◌∷◌}
use Rattle.kql_lexer.specs.declared.token.Token.{Token}
use Rattle.kql_syntax.specs.declared.class.Class.TheVariants as class
use Rattle.kql_syntax.specs.declared.tree.Name.{Name}
use Rattle.kql_syntax.specs.Levels.{Level, source_words}
use Rattle.kql_syntax.specs.Forms.{level}
use Rattle.kql_syntax.specs.Derives.{Found, Stands, Missing}
use Rattle.kql_operators.specs.Named.{NoName}

-- a name stands here with a bar behind it
pub record Barred (s : List Token) (i : ℕ) : Type 0 where
  pub end : ℕ
  pub it : Name
  pub name : Found (level Level.Name) s i end it
  pub bar : Stands s end (class.Bar ∷ [])

-- a name stands here with no bar behind it
pub record Unbarred (s : List Token) (i : ℕ) : Type 0 where
  pub end : ℕ
  pub it : Name
  pub name : Found (level Level.Name) s i end it
  pub bar : Missing s end (class.Bar ∷ [])

-- a pipe stands here, and no expression
pub record Piped (s : List Token) (i : ℕ) : Type 0 where
  pub start : Stands s i source_words ⊎ Barred s i

-- no pipe stands here but a name alone, if one does
pub record Unpiped (s : List Token) (i : ℕ) : Type 0 where
  pub start : Missing s i source_words
  pub rest : NoName s i ⊎ Unbarred s i

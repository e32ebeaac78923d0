-- Grammars as data: what is written, and the value that it makes.
use Rattle.std.specs.Prelude.{Bool, true, false, ◌||◌, ◌&&◌, if◌then◌else◌, List, [], ◌∷◌, ◌++◌, Option}
use Rattle.kql_lexer.specs.declared.place.Place.{Place}
use Rattle.kql_lexer.specs.declared.token.Token.{Token}
use Rattle.kql_syntax.specs.declared.class.Class.{Class}
use Rattle.kql_syntax.specs.Levels.{Level, may_be_empty, starts, followers}
use Rattle.kql_syntax.specs.Trees.{Tree}

-- a form of text, by the value that a text of it makes
pub data Form : Type 0 → Type 1 where
  -- one token of one of these classes
  token : List Class → Form Token
  -- a level of the grammar
  level : (l : Level) → Form (Tree l)
  -- one after another
  pair : {A B : Type 0} → Form A → Form B → Form (A × B)
  -- either of two
  either : {A : Type 0} → Form A → Form A → Form A
  -- at most once
  option : {A : Type 0} → Form A → Form (Option A)
  -- any number of times
  many : {A : Type 0} → Form A → Form (List A)
  -- another value made of it
  makes : {A B : Type 0} → (A → B) → Form A → Form B

-- whether nothing at all is of the form
abbrev pub nullable : {A : Type 0} → Form A → Bool
nullable (token cs) = false
nullable (level l) = may_be_empty l
nullable (pair a b) = nullable a && nullable b
nullable (either a b) = nullable a || nullable b
nullable (option a) = true
nullable (many a) = true
nullable (makes f a) = nullable a

-- the classes with which the form can start
abbrev pub first : {A : Type 0} → Form A → List Class
first (token cs) = cs
first (level l) = starts l
first (pair a b) = if nullable a then first a ++ first b else first a
first (either a b) = first a ++ first b
first (option a) = first a
first (many a) = first a
first (makes f a) = first a

-- the classes that can follow a text of the form that is not the longest
abbrev pub extends : {A : Type 0} → Form A → List Class
extends (token cs) = []
extends (level l) = followers l
extends (pair a b) = if nullable b then extends b ++ extends a else extends b
extends (either a b) = extends a ++ extends b
extends (option a) = first a ++ extends a
extends (many a) = first a ++ extends a
extends (makes f a) = extends a

-- the place of a token of one of these classes
abbrev pub mark : List Class → Form Place
mark cs = makes (λ t. t.place) (token cs)

-- a token of one of these classes, and then the form, whose value it has
abbrev pub after : {A : Type 0} → List Class → Form A → Form A
after cs a = makes (λ p. p.1) (pair (mark cs) a)

-- the form, whose value it has, and then a token of one of these classes
abbrev pub before : {A : Type 0} → Form A → List Class → Form A
before a cs = makes (λ p. p.0) (pair a (mark cs))

-- one or more of the form, with tokens of these classes between them
abbrev pub listed : {A : Type 0} → List Class → Form A → Form (List A)
listed cs a = makes (λ p. p.0 ∷ p.1) (pair a (many (after cs a)))

-- one or more of the form
abbrev pub some : {A : Type 0} → Form A → Form (List A)
some a = makes (λ p. p.0 ∷ p.1) (pair a (many a))

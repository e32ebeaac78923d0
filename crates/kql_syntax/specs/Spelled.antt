-- What a word of a choice says is what its token spells: none falls to a default.
use Rattle.std.specs.Prelude.{◌≡◌, true, List, Option, Some}
use Rattle.kql_lexer.specs.declared.place.Place.{Place}
use Rattle.kql_lexer.specs.declared.token.Token.{Token}
use Rattle.kql_lexer.specs.declared.token.TokenForm.{TokenForm}
use Rattle.kql_syntax.specs.declared.class.Class.{Class}
use Rattle.kql_syntax.specs.Classes.{has}

-- a token of these classes is in the table of what they say, and says that
abbrev pub IsSpelled : {A : Type 0} → List Class → (Place → TokenForm → Option A) → (Token → A) → Type 0
IsSpelled cs table says = (t : Token) → has cs t.form ≡ true → table t.place t.form ≡ Some (says t)

-- The tokens that are operators' names.
use Rattle.std.specs.Prelude.{if◌then◌else◌, List, [], ◌∷◌}
use Rattle.kql_lexer.specs.declared.place.Place.{Place}
use Rattle.kql_lexer.specs.declared.token.Token.{Token}
use Rattle.kql_lexer.specs.declared.token.TokenForm.TheVariants as form
use Rattle.kql_parser.specs.Operators.{after_free, after_token, is_operator}

-- the type of a value
abbrev type_of : {A : Type 0} → A → Type 0
type_of {A = A} x = A

-- what is known of a token from those before it, a type that the parser keeps to itself
abbrev pub Next : Type 0
Next = type_of (after_free form.Close)

-- nothing is known of the first token, as of one behind a bracket
unfoldable pub at_first : Next
at_first = after_free form.Close

-- the places of the operators' names of a list of whose first token this is known
unfoldable pub names_from : Next → List Token → List Place
names_from n [] = []
names_from n (t ∷ ts) =
    if is_operator n t.form then t.place ∷ names_from (after_token n t.form) ts else names_from (after_token n t.form) ts

-- the places of the operators' names of a query's tokens
abbrev pub operators_named : List Token → List Place
operators_named s = names_from at_first s

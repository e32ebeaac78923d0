-- Literals, of which the typed ones are read from the text between their brackets.
use Rattle.std.specs.Prelude.{ℕ, true, false, List, Option, None, Some, Ok, Err}
use Rattle.kql_cells.specs.declared.value.Kind.{Kind}
use Rattle.kql_cells.specs.declared.value.Kind.TheVariants as kind
use Rattle.kql_cells.specs.declared.value.Value.{Value}
use Rattle.kql_cells.specs.declared.value.Value.TheVariants as value
use Rattle.kql_bound.specs.declared.expr.BExpr.TheVariants as V
use Rattle.kql_lexer.specs.declared.keyword.Keyword.{Keyword}
use Rattle.kql_lexer.specs.declared.place.Place.{Place}
use Rattle.kql_syntax.specs.declared.tree.Literal.{Literal}
use Rattle.kql_syntax.specs.declared.tree.Literal.TheVariants as literal
use Rattle.typed_literals.specs.Reading.{kind_of_word, trimmed, value_or_null}
use Rattle.bind_expr.specs.Outcome.{Outcome}
use Rattle.bind_expr.specs.declared.fault.BindFault.TheVariants as fault
use Rattle.bind_expr.specs.declared.typed.Typed.{Typed}

abbrev pub literal_of : Kind → Value → Typed
literal_of k v = record { expr = V.Literal (record { kind = k; value = v }); kind = k }

abbrev pub read_or_fault : Place → Kind → Option Value → Outcome Typed
read_or_fault place k None = Err (fault.Refused 418 place)
read_or_fault place k (Some v) = Ok (literal_of k v)

abbrev pub typed_of_kind : Place → List ℕ → Option Kind → Outcome Typed
typed_of_kind place t None = Err (fault.Refused 405 place)
typed_of_kind place t (Some k) = read_or_fault place k (value_or_null k (trimmed t))

-- A typed literal: 405 where the language leaves out its type, and 418 where its text does not read.
unfoldable pub typed_literal : Place → Keyword → List ℕ → Outcome Typed
typed_literal place w t = typed_of_kind place t (kind_of_word w)

-- A literal.
unfoldable pub literal_bound : Literal → Outcome Typed
literal_bound (literal.Number place n) = Ok (literal_of kind.Long (value.Long n))
literal_bound (literal.Span place n) = Ok (literal_of kind.Span (value.Span n))
literal_bound (literal.Text place text) = Ok (literal_of kind.Text (value.Text text))
literal_bound (literal.True place) = Ok (literal_of kind.Bool (value.Bool true))
literal_bound (literal.False place) = Ok (literal_of kind.Bool (value.Bool false))
literal_bound (literal.Typed place w text) = typed_literal place w text

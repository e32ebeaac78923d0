-- How values print.
use Rattle.std.specs.Prelude.{ℕ, Bool, true, false, List, [], codes, Option, Some, None, unsigned_abs}
use Rattle.std.specs.Fmt.{signed_decimal}
use Rattle.kql_dynamic.specs.Parts.{text}
use Rattle.kql_dynamic.specs.Printed.{printed}
use Rattle.kql_ticks.specs.Texts.{moment_text, span_text}
use Rattle.kql_cells.specs.declared.dynamic.Dyn.{Dyn}
use Rattle.kql_cells.specs.declared.value.Value.{Value}
use Rattle.kql_cells.specs.declared.value.Value.TheVariants as value

-- JSON, but a text without its quotes
abbrev pub text_or : List ℕ → Option (List ℕ) → List ℕ
text_or json None = json
text_or json (Some t) = t

unfoldable pub dynamic_text : Dyn → List ℕ
dynamic_text d = text_or (printed d) (text d)

abbrev pub bool_text : Bool → List ℕ
bool_text true = codes "true"
bool_text false = codes "false"

-- what a value prints as; null is the empty text
unfoldable pub text_of : Value → List ℕ
text_of value.Null = []
text_of (value.Bool b) = bool_text b
text_of (value.Long n) = signed_decimal n
text_of (value.Text t) = t
text_of (value.Moment n) = moment_text (unsigned_abs n)
text_of (value.Span n) = span_text n
text_of (value.Dynamic d) = dynamic_text d

-- Literals written with a type, as `datetime(2024-02-01)`: what the text between the brackets reads as.
use Rattle.std.specs.Prelude.{ℕ, ℤ, pos, neg_ℤ, ◌==◌, ◌&&◌, Bool, true, false, List, [], ◌∷◌, codes, drop, length, nat_le, option_and_then, reverse, slice_index, Option, None, Some, option_map, if◌then◌else◌}
use Rattle.std.specs.List.{list_all}
use Rattle.std.specs.Option.{option_or}
use Rattle.std.specs.Str.{bytes_eq}
use Rattle.serde_json.specs.Data.{Data}
use Rattle.serde_json.specs.Read.{read}
use Rattle.kql_cells.specs.Readings.{long_written}
use Rattle.kql_cells.specs.declared.value.Kind.{Kind}
use Rattle.kql_cells.specs.declared.value.Kind.TheVariants as kind
use Rattle.kql_cells.specs.declared.value.Value.{Value}
use Rattle.kql_cells.specs.declared.value.Value.TheVariants as value
use Rattle.kql_dynamic.specs.Json.{dyn_of}
use Rattle.kql_dynamic.specs.Parts.{value_of}
use Rattle.kql_ticks.specs.Forms.{moment_in, span_in}
use Rattle.kql_ticks.specs.Ranges.{fit}
use Rattle.kql_lexer.specs.Bytes.{is_blank}
use Rattle.kql_lexer.specs.Numbers.{hexadecimal, is_hex_digit}
use Rattle.kql_lexer.specs.declared.keyword.Keyword.{Keyword}
use Rattle.kql_lexer.specs.declared.keyword.Keyword.TheVariants as word

-- The type of a type word; the language has no values of the others.
unfoldable pub kind_of_word : Keyword → Option Kind
kind_of_word word.Bool = Some kind.Bool
kind_of_word word.Long = Some kind.Long
kind_of_word word.Datetime = Some kind.Moment
kind_of_word word.Timespan = Some kind.Span
kind_of_word word.Time = Some kind.Span
kind_of_word word.Dynamic = Some kind.Dynamic
kind_of_word _ = None

-- A text without the blanks at its ends.
unfoldable pub begins_blank : List ℕ → Bool
begins_blank [] = false
begins_blank (b ∷ bs) = is_blank b

unfoldable pub behind_blanks : List ℕ → List ℕ
behind_blanks [] = []
behind_blanks (b ∷ bs) = if is_blank b then behind_blanks bs else b ∷ bs

unfoldable pub trimmed : List ℕ → List ℕ
trimmed t = reverse (behind_blanks (reverse (behind_blanks t)))

-- `true` and `false` in lower case.
unfoldable pub bool_read : List ℕ → Option Bool
bool_read t = if bytes_eq t (codes "true") then Some true else (if bytes_eq t (codes "false") then Some false else None)

-- The number that `0x` and hexadecimal digits spell.
unfoldable pub hexadecimal_number : List ℕ → Option ℕ
hexadecimal_number t =
    if nat_le 3 (length t) && (slice_index t 0 == 48 && (slice_index t 1 == 120 && list_all is_hex_digit (drop 2 t)))
    then Some (hexadecimal (drop 2 t))
    else None

-- The same, with a minus before it or none, in a long's range.
unfoldable pub hexadecimal_read : List ℕ → Option ℤ
hexadecimal_read t =
    if slice_index t 0 == 45
    then option_and_then (λ n. fit (neg_ℤ (pos n))) (hexadecimal_number (drop 1 t))
    else option_and_then (λ n. fit (pos n)) (hexadecimal_number t)

-- A whole number, in decimal digits or as `0x` and hexadecimal ones.
unfoldable pub long_read : List ℕ → Option ℤ
long_read t = option_or (long_written t) (hexadecimal_read t)

-- A JSON text.
unfoldable pub json_read : List ℕ → Option Value
json_read t = option_map (λ (d : Data). value_of (dyn_of d)) (read t)

-- The value that a text without blanks at its ends is, of this type; there are no typed literals of strings.
unfoldable pub value_read : Kind → List ℕ → Option Value
value_read kind.Bool t = option_map value.Bool (bool_read t)
value_read kind.Long t = option_map value.Long (long_read t)
value_read kind.Text t = None
value_read kind.Moment t = option_map (λ n. value.Moment (pos n)) (moment_in t)
value_read kind.Span t = option_map value.Span (span_in t)
value_read kind.Dynamic t = json_read t

-- The same, or null.
unfoldable pub value_or_null : Kind → List ℕ → Option Value
value_or_null k t = if bytes_eq t (codes "null") then Some value.Null else value_read k t

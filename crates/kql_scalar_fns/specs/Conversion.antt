-- Conversions to a type. A dynamic value is converted by what it holds; what does not convert is null.
use Rattle.std.specs.Prelude.{ℕ, ℤ, pos, Bool, true, false, not, List, Option, None, Some, option_and_then, option_map}
use Rattle.std.specs.Ordering.{int_eq}
use Rattle.kql_dynamic.specs.Parts.{text}
use Rattle.kql_ticks.specs.Forms.{moment_in, span_in}
use Rattle.kql_cells.specs.Readings.{bool_written, long_written}
use Rattle.kql_cells.specs.declared.dynamic.Dyn.{Dyn, out-Dyn}
use Rattle.kql_cells.specs.declared.dynamic.Dyn.TheOpen.{Dyn-F}
use Rattle.kql_cells.specs.declared.value.Value.{Value}
use Rattle.kql_cells.specs.declared.value.Value.TheVariants as value
use Rattle.kql_functions.specs.declared.func.ConversionFunc.{ConversionFunc}
use Rattle.kql_functions.specs.declared.func.ConversionFunc.TheVariants as func
use Rattle.kql_scalar_fns.specs.Arguments.{argument, bool_or_null, long_or_null, moment_or_null, span_or_null}
use Rattle.kql_scalar_fns.specs.Readings.{text_of}

abbrev pub one_if : Bool → ℤ
one_if true = pos 1
one_if false = pos 0

abbrev pub is_not_zero : ℤ → Bool
is_not_zero n = not (int_eq n (pos 0))

-- the long that a dynamic value holds
abbrev pub long_held_step : Dyn-F Dyn → Option ℤ
long_held_step (Dyn-F.Bool b) = Some (one_if b)
long_held_step (Dyn-F.Long n) = Some n
long_held_step (Dyn-F.Text t) = long_written t
long_held_step _ = None

unfoldable pub long_held : Dyn → Option ℤ
long_held d = long_held_step (out-Dyn d)

-- the bool that a dynamic value holds
abbrev pub bool_held_step : Dyn-F Dyn → Option Bool
bool_held_step (Dyn-F.Bool b) = Some b
bool_held_step (Dyn-F.Long n) = Some (is_not_zero n)
bool_held_step (Dyn-F.Text t) = bool_written t
bool_held_step _ = None

unfoldable pub bool_held : Dyn → Option Bool
bool_held d = bool_held_step (out-Dyn d)

-- a long: 1 or 0 for a bool, and the ticks of a datetime or timespan
unfoldable pub to_long : Value → Value
to_long value.Null = value.Null
to_long (value.Bool b) = value.Long (one_if b)
to_long (value.Long n) = value.Long n
to_long (value.Text t) = long_or_null (long_written t)
to_long (value.Moment n) = value.Long n
to_long (value.Span n) = value.Long n
to_long (value.Dynamic d) = long_or_null (long_held d)

-- a bool: whether a long is not 0
unfoldable pub to_bool : Value → Value
to_bool (value.Bool b) = value.Bool b
to_bool (value.Long n) = value.Bool (is_not_zero n)
to_bool (value.Text t) = bool_or_null (bool_written t)
to_bool (value.Dynamic d) = bool_or_null (bool_held d)
to_bool _ = value.Null

-- the datetime that a text is
unfoldable pub moment_written : List ℕ → Option ℤ
moment_written t = option_map pos (moment_in t)

-- a datetime
unfoldable pub to_moment : Value → Value
to_moment (value.Moment n) = value.Moment n
to_moment (value.Text t) = moment_or_null (moment_written t)
to_moment (value.Dynamic d) = moment_or_null (option_and_then moment_written (text d))
to_moment _ = value.Null

-- a timespan
unfoldable pub to_span : Value → Value
to_span (value.Span n) = value.Span n
to_span (value.Text t) = span_or_null (span_in t)
to_span (value.Dynamic d) = span_or_null (option_and_then span_in (text d))
to_span _ = value.Null

-- what each conversion gives
unfoldable pub conversion : ConversionFunc → List Value → Value
conversion func.ToLong args = to_long (argument args 0)
conversion func.ToText args = value.Text (text_of (argument args 0))
conversion func.ToBool args = to_bool (argument args 0)
conversion func.ToMoment args = to_moment (argument args 0)
conversion func.ToSpan args = to_span (argument args 0)

-- The names of functions and operators, window functions and aggregates.
use Rattle.std.specs.Prelude.{ℕ, Bool, true, false, List, Option, None, Some, codes}
use Rattle.kql_functions.specs.declared.func.ArithmeticFunc.{ArithmeticFunc}
use Rattle.kql_functions.specs.declared.func.ArithmeticFunc.TheVariants as arithmetic
use Rattle.kql_functions.specs.declared.func.ComparisonFunc.{ComparisonFunc}
use Rattle.kql_functions.specs.declared.func.ComparisonFunc.TheVariants as comparison
use Rattle.kql_functions.specs.declared.func.LogicFunc.{LogicFunc}
use Rattle.kql_functions.specs.declared.func.LogicFunc.TheVariants as logic
use Rattle.kql_functions.specs.declared.func.ChoiceFunc.{ChoiceFunc}
use Rattle.kql_functions.specs.declared.func.ChoiceFunc.TheVariants as choice
use Rattle.kql_functions.specs.declared.func.ConversionFunc.{ConversionFunc}
use Rattle.kql_functions.specs.declared.func.ConversionFunc.TheVariants as conversion
use Rattle.kql_functions.specs.declared.func.TextFunc.{TextFunc}
use Rattle.kql_functions.specs.declared.func.TextFunc.TheVariants as text
use Rattle.kql_functions.specs.declared.func.TimeFunc.{TimeFunc}
use Rattle.kql_functions.specs.declared.func.TimeFunc.TheVariants as time
use Rattle.kql_functions.specs.declared.func.DynamicFunc.{DynamicFunc}
use Rattle.kql_functions.specs.declared.func.DynamicFunc.TheVariants as dynamic
use Rattle.kql_functions.specs.declared.func.SearchFunc.{SearchFunc}
use Rattle.kql_functions.specs.declared.func.SearchPlace.{SearchPlace}
use Rattle.kql_functions.specs.declared.func.SearchPlace.TheVariants as place
use Rattle.kql_texts.specs.declared.folding.Fold.{Fold}
use Rattle.kql_texts.specs.declared.folding.Fold.TheVariants as fold
use Rattle.kql_functions.specs.declared.func.Func.{Func}
use Rattle.kql_functions.specs.declared.func.Func.TheVariants as func
use Rattle.kql_functions.specs.declared.window.Window.{Window}
use Rattle.kql_functions.specs.declared.window.Window.TheVariants as window
use Rattle.kql_functions.specs.declared.aggregate.Aggregate.{Aggregate}
use Rattle.kql_functions.specs.declared.aggregate.Aggregate.TheVariants as aggregate

unfoldable pub arithmetic_name : ArithmeticFunc → List ℕ
arithmetic_name arithmetic.Add = codes "+"
arithmetic_name arithmetic.Subtract = codes "-"
arithmetic_name arithmetic.Multiply = codes "*"
arithmetic_name arithmetic.Divide = codes "/"
arithmetic_name arithmetic.Modulo = codes "%"
arithmetic_name arithmetic.Negate = codes "neg"
arithmetic_name arithmetic.Abs = codes "abs"
arithmetic_name arithmetic.Sign = codes "sign"
arithmetic_name arithmetic.Bin = codes "bin"
arithmetic_name arithmetic.Floor = codes "floor"
arithmetic_name arithmetic.BinAt = codes "bin_at"
arithmetic_name arithmetic.BinaryAnd = codes "binary_and"
arithmetic_name arithmetic.BinaryOr = codes "binary_or"
arithmetic_name arithmetic.BinaryXor = codes "binary_xor"
arithmetic_name arithmetic.BinaryNot = codes "binary_not"

unfoldable pub comparison_name : ComparisonFunc → List ℕ
comparison_name comparison.Equal = codes "=="
comparison_name comparison.NotEqual = codes "!="
comparison_name comparison.Less = codes "<"
comparison_name comparison.AtMost = codes "<="
comparison_name comparison.Greater = codes ">"
comparison_name comparison.AtLeast = codes ">="
comparison_name comparison.EqualText = codes "=~"
comparison_name comparison.NotEqualText = codes "!~"
comparison_name comparison.In = codes "in"
comparison_name comparison.NotIn = codes "!in"
comparison_name comparison.InTexts = codes "in~"
comparison_name comparison.NotInTexts = codes "!in~"
comparison_name comparison.Between = codes "between"
comparison_name comparison.NotBetween = codes "!between"

unfoldable pub logic_name : LogicFunc → List ℕ
logic_name logic.And = codes "and"
logic_name logic.Or = codes "or"
logic_name logic.Not = codes "not"

unfoldable pub choice_name : ChoiceFunc → List ℕ
choice_name choice.IsNull = codes "isnull"
choice_name choice.IsNotNull = codes "isnotnull"
choice_name choice.IsEmpty = codes "isempty"
choice_name choice.IsNotEmpty = codes "isnotempty"
choice_name choice.Iff = codes "iff"
choice_name choice.Case = codes "case"
choice_name choice.Coalesce = codes "coalesce"
choice_name choice.MinOf = codes "min_of"
choice_name choice.MaxOf = codes "max_of"

unfoldable pub conversion_name : ConversionFunc → List ℕ
conversion_name conversion.ToLong = codes "tolong"
conversion_name conversion.ToText = codes "tostring"
conversion_name conversion.ToBool = codes "tobool"
conversion_name conversion.ToMoment = codes "todatetime"
conversion_name conversion.ToSpan = codes "totimespan"

unfoldable pub text_name : TextFunc → List ℕ
text_name text.Length = codes "strlen"
text_name text.Substring = codes "substring"
text_name text.IndexOf = codes "indexof"
text_name text.ToUpper = codes "toupper"
text_name text.ToLower = codes "tolower"
text_name text.Reverse = codes "reverse"
text_name text.Concat = codes "strcat"
text_name text.ConcatDelimited = codes "strcat_delim"
text_name text.Replace = codes "replace_string"
text_name text.Split = codes "split"
text_name text.Compare = codes "strcmp"

unfoldable pub time_name : TimeFunc → List ℕ
time_name time.Now = codes "now"
time_name time.Ago = codes "ago"
time_name time.StartOfDay = codes "startofday"
time_name time.StartOfWeek = codes "startofweek"
time_name time.StartOfMonth = codes "startofmonth"
time_name time.StartOfYear = codes "startofyear"
time_name time.EndOfDay = codes "endofday"
time_name time.EndOfWeek = codes "endofweek"
time_name time.EndOfMonth = codes "endofmonth"
time_name time.EndOfYear = codes "endofyear"
time_name time.DayOfWeek = codes "dayofweek"
time_name time.DayOfMonth = codes "dayofmonth"
time_name time.DayOfYear = codes "dayofyear"
time_name time.GetYear = codes "getyear"
time_name time.GetMonth = codes "getmonth"
time_name time.MonthOfYear = codes "monthofyear"
time_name time.HourOfDay = codes "hourofday"
time_name time.DatetimeAdd = codes "datetime_add"
time_name time.DatetimeDiff = codes "datetime_diff"
time_name time.DatetimePart = codes "datetime_part"
time_name time.MakeDatetime = codes "make_datetime"
time_name time.UnixSeconds = codes "unixtime_seconds_todatetime"
time_name time.UnixMilliseconds = codes "unixtime_milliseconds_todatetime"

unfoldable pub dynamic_name : DynamicFunc → List ℕ
dynamic_name dynamic.At = codes "at"
dynamic_name dynamic.ParseJson = codes "parse_json"
dynamic_name dynamic.ToDynamic = codes "todynamic"
dynamic_name dynamic.ArrayLength = codes "array_length"
dynamic_name dynamic.ArrayConcat = codes "array_concat"
dynamic_name dynamic.ArraySlice = codes "array_slice"
dynamic_name dynamic.ArrayReverse = codes "array_reverse"
dynamic_name dynamic.ArrayIndexOf = codes "array_index_of"
dynamic_name dynamic.BagKeys = codes "bag_keys"
dynamic_name dynamic.BagHasKey = codes "bag_has_key"
dynamic_name dynamic.BagMerge = codes "bag_merge"
dynamic_name dynamic.PackArray = codes "pack_array"
dynamic_name dynamic.BagPack = codes "bag_pack"
dynamic_name dynamic.SetUnion = codes "set_union"
dynamic_name dynamic.SetIntersect = codes "set_intersect"
dynamic_name dynamic.SetDifference = codes "set_difference"
dynamic_name dynamic.SetHasElement = codes "set_has_element"

-- the place, whether case counts, and whether the answer is turned round
unfoldable pub search_text : SearchPlace → Fold → Bool → List ℕ
search_text place.Anywhere fold.Caseless false = codes "contains"
search_text place.Anywhere fold.Caseless true = codes "!contains"
search_text place.Anywhere fold.Exact false = codes "contains_cs"
search_text place.Anywhere fold.Exact true = codes "!contains_cs"
search_text place.Start fold.Caseless false = codes "startswith"
search_text place.Start fold.Caseless true = codes "!startswith"
search_text place.Start fold.Exact false = codes "startswith_cs"
search_text place.Start fold.Exact true = codes "!startswith_cs"
search_text place.End fold.Caseless false = codes "endswith"
search_text place.End fold.Caseless true = codes "!endswith"
search_text place.End fold.Exact false = codes "endswith_cs"
search_text place.End fold.Exact true = codes "!endswith_cs"
search_text place.Term fold.Caseless false = codes "has"
search_text place.Term fold.Caseless true = codes "!has"
search_text place.Term fold.Exact false = codes "has_cs"
search_text place.Term fold.Exact true = codes "!has_cs"

abbrev pub search_name : SearchFunc → List ℕ
search_name f = search_text f.place f.fold f.negated

-- the name of a call of a pattern, by the group that it asks for
abbrev pub pattern_name : Option ℕ → List ℕ
pattern_name None = codes "matches regex"
pattern_name (Some n) = codes "extract"

-- each function and operator has a name of its own; calls of patterns share theirs
unfoldable pub func_name : Func → List ℕ
func_name (func.Arithmetic f) = arithmetic_name f
func_name (func.Comparison f) = comparison_name f
func_name (func.Search f) = search_name f
func_name (func.Logic f) = logic_name f
func_name (func.Choice f) = choice_name f
func_name (func.Conversion f) = conversion_name f
func_name (func.Text f) = text_name f
func_name (func.Time f) = time_name f
func_name (func.Dynamic f) = dynamic_name f
func_name (func.Pattern f) = pattern_name f.group

unfoldable pub window_name : Window → List ℕ
window_name window.Prev = codes "prev"
window_name window.Next = codes "next"
window_name window.RowCumsum = codes "row_cumsum"
window_name window.RowNumber = codes "row_number"

unfoldable pub aggregate_name : Aggregate → List ℕ
aggregate_name aggregate.Count = codes "count"
aggregate_name aggregate.CountIf = codes "countif"
aggregate_name aggregate.CountDistinct = codes "count_distinct"
aggregate_name aggregate.CountDistinctIf = codes "count_distinctif"
aggregate_name aggregate.Sum = codes "sum"
aggregate_name aggregate.SumIf = codes "sumif"
aggregate_name aggregate.Min = codes "min"
aggregate_name aggregate.MinIf = codes "minif"
aggregate_name aggregate.Max = codes "max"
aggregate_name aggregate.MaxIf = codes "maxif"
aggregate_name aggregate.MakeList = codes "make_list"
aggregate_name aggregate.MakeListIf = codes "make_list_if"
aggregate_name aggregate.MakeSet = codes "make_set"
aggregate_name aggregate.MakeSetIf = codes "make_set_if"
aggregate_name aggregate.ArgMax = codes "arg_max"
aggregate_name aggregate.ArgMin = codes "arg_min"
aggregate_name aggregate.TakeAny = codes "take_any"
aggregate_name aggregate.BinaryAllAnd = codes "binary_all_and"
aggregate_name aggregate.BinaryAllOr = codes "binary_all_or"
aggregate_name aggregate.BinaryAllXor = codes "binary_all_xor"

-- How many arguments a scalar function takes.
use Rattle.std.specs.Prelude.{ℕ, ◌==◌, ◌||◌, ◌&&◌, Bool, true, false, nat_le, ◌%◌}
use Rattle.kql_functions.specs.declared.func.ArithmeticFunc.{ArithmeticFunc}
use Rattle.kql_functions.specs.declared.func.ArithmeticFunc.TheVariants as arithmetic
use Rattle.kql_functions.specs.declared.func.ChoiceFunc.{ChoiceFunc}
use Rattle.kql_functions.specs.declared.func.ChoiceFunc.TheVariants as choice
use Rattle.kql_functions.specs.declared.func.DynamicFunc.{DynamicFunc}
use Rattle.kql_functions.specs.declared.func.DynamicFunc.TheVariants as dynamic
use Rattle.kql_functions.specs.declared.func.Func.{Func}
use Rattle.kql_functions.specs.declared.func.Func.TheVariants as func
use Rattle.kql_functions.specs.declared.func.LogicFunc.{LogicFunc}
use Rattle.kql_functions.specs.declared.func.LogicFunc.TheVariants as logic
use Rattle.kql_functions.specs.declared.func.TextFunc.{TextFunc}
use Rattle.kql_functions.specs.declared.func.TextFunc.TheVariants as text
use Rattle.kql_functions.specs.declared.func.TimeFunc.{TimeFunc}
use Rattle.kql_functions.specs.declared.func.TimeFunc.TheVariants as time
use Rattle.bind_expr.specs.declared.counts.Count.{Count}
use Rattle.bind_expr.specs.declared.counts.Count.TheVariants as count

unfoldable pub arithmetic_count : ArithmeticFunc → Count
arithmetic_count arithmetic.Add = count.Exactly 2
arithmetic_count arithmetic.Subtract = count.Exactly 2
arithmetic_count arithmetic.Multiply = count.Exactly 2
arithmetic_count arithmetic.Divide = count.Exactly 2
arithmetic_count arithmetic.Modulo = count.Exactly 2
arithmetic_count arithmetic.Negate = count.Exactly 1
arithmetic_count arithmetic.Abs = count.Exactly 1
arithmetic_count arithmetic.Sign = count.Exactly 1
arithmetic_count arithmetic.Bin = count.Exactly 2
arithmetic_count arithmetic.Floor = count.Exactly 2
arithmetic_count arithmetic.BinAt = count.Exactly 3
arithmetic_count arithmetic.BinaryAnd = count.Exactly 2
arithmetic_count arithmetic.BinaryOr = count.Exactly 2
arithmetic_count arithmetic.BinaryXor = count.Exactly 2
arithmetic_count arithmetic.BinaryNot = count.Exactly 1

unfoldable pub logic_count : LogicFunc → Count
logic_count logic.And = count.AtLeast 2
logic_count logic.Or = count.AtLeast 2
logic_count logic.Not = count.Exactly 1

-- `case` takes conditions and values in turn, and a last value.
unfoldable pub choice_count : ChoiceFunc → Count
choice_count choice.IsNull = count.Exactly 1
choice_count choice.IsNotNull = count.Exactly 1
choice_count choice.IsEmpty = count.Exactly 1
choice_count choice.IsNotEmpty = count.Exactly 1
choice_count choice.Iff = count.Exactly 3
choice_count choice.Case = count.PairsAndOne
choice_count choice.Coalesce = count.AtLeast 2
choice_count choice.MinOf = count.AtLeast 2
choice_count choice.MaxOf = count.AtLeast 2

unfoldable pub text_count : TextFunc → Count
text_count text.Length = count.Exactly 1
text_count text.Substring = count.Either 2 3
text_count text.IndexOf = count.Exactly 2
text_count text.ToUpper = count.Exactly 1
text_count text.ToLower = count.Exactly 1
text_count text.Reverse = count.Exactly 1
text_count text.Concat = count.AtLeast 1
text_count text.ConcatDelimited = count.AtLeast 2
text_count text.Replace = count.Exactly 3
text_count text.Split = count.Exactly 2
text_count text.Compare = count.Exactly 2

unfoldable pub time_count : TimeFunc → Count
time_count time.Now = count.Either 0 1
time_count time.Ago = count.Exactly 1
time_count time.StartOfDay = count.Exactly 1
time_count time.StartOfWeek = count.Exactly 1
time_count time.StartOfMonth = count.Exactly 1
time_count time.StartOfYear = count.Exactly 1
time_count time.EndOfDay = count.Exactly 1
time_count time.EndOfWeek = count.Exactly 1
time_count time.EndOfMonth = count.Exactly 1
time_count time.EndOfYear = count.Exactly 1
time_count time.DayOfWeek = count.Exactly 1
time_count time.DayOfMonth = count.Exactly 1
time_count time.DayOfYear = count.Exactly 1
time_count time.GetYear = count.Exactly 1
time_count time.GetMonth = count.Exactly 1
time_count time.MonthOfYear = count.Exactly 1
time_count time.HourOfDay = count.Exactly 1
time_count time.DatetimeAdd = count.Exactly 3
time_count time.DatetimeDiff = count.Exactly 3
time_count time.DatetimePart = count.Exactly 2
time_count time.MakeDatetime = count.Either 3 5
time_count time.UnixSeconds = count.Exactly 1
time_count time.UnixMilliseconds = count.Exactly 1

-- `bag_pack` takes names and values in turn.
unfoldable pub dynamic_count : DynamicFunc → Count
dynamic_count dynamic.At = count.Exactly 2
dynamic_count dynamic.ParseJson = count.Exactly 1
dynamic_count dynamic.ToDynamic = count.Exactly 1
dynamic_count dynamic.ArrayLength = count.Exactly 1
dynamic_count dynamic.ArrayConcat = count.AtLeast 1
dynamic_count dynamic.ArraySlice = count.Exactly 3
dynamic_count dynamic.ArrayReverse = count.Exactly 1
dynamic_count dynamic.ArrayIndexOf = count.Exactly 2
dynamic_count dynamic.BagKeys = count.Exactly 1
dynamic_count dynamic.BagHasKey = count.Exactly 2
dynamic_count dynamic.BagMerge = count.AtLeast 2
dynamic_count dynamic.PackArray = count.AtLeast 1
dynamic_count dynamic.BagPack = count.Pairs
dynamic_count dynamic.SetUnion = count.Exactly 2
dynamic_count dynamic.SetIntersect = count.Exactly 2
dynamic_count dynamic.SetDifference = count.Exactly 2
dynamic_count dynamic.SetHasElement = count.Exactly 2

-- How many arguments a function takes.
unfoldable pub count_of : Func → Count
count_of (func.Arithmetic f) = arithmetic_count f
count_of (func.Comparison f) = count.AtLeast 2
count_of (func.Search f) = count.Exactly 2
count_of (func.Logic f) = logic_count f
count_of (func.Choice f) = choice_count f
count_of (func.Conversion f) = count.Exactly 1
count_of (func.Text f) = text_count f
count_of (func.Time f) = time_count f
count_of (func.Dynamic f) = dynamic_count f
count_of (func.Pattern f) = count.Exactly 2

-- Whether so many arguments are as many as wanted: pairs are one or more.
unfoldable pub is_count : Count → ℕ → Bool
is_count (count.Exactly k) n = n == k
is_count (count.Either k l) n = n == k || n == l
is_count (count.AtLeast k) n = nat_le k n
is_count count.Pairs n = nat_le 2 n && n % 2 == 0
is_count count.PairsAndOne n = nat_le 3 n && n % 2 == 1

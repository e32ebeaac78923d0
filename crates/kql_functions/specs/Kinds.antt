-- The types that functions take, and the ones that they give.
use Rattle.std.specs.Prelude.{ℕ, ◌&&◌, Bool, true, false, nat_le, List, [], ◌∷◌, length, Option, None, Some, if◌then◌else◌}
use Rattle.std.specs.Borrow.{Bor}
use Rattle.std.specs.List.{list_all}
use Rattle.std.specs.Option.{option_or}
use Rattle.kql_cells.specs.Values.{IsOfKind}
use Rattle.kql_cells.specs.declared.value.Kind.{Kind}
use Rattle.kql_cells.specs.declared.value.Kind.TheVariants as kind
use Rattle.kql_cells.specs.declared.value.Value.{Value}
use Rattle.kql_functions.specs.declared.func.ArithmeticFunc.{ArithmeticFunc}
use Rattle.kql_functions.specs.declared.func.ArithmeticFunc.TheVariants as arithmetic
use Rattle.kql_functions.specs.declared.func.ComparisonFunc.{ComparisonFunc}
use Rattle.kql_functions.specs.declared.func.ComparisonFunc.TheVariants as comparison
use Rattle.kql_functions.specs.declared.func.LogicFunc.{LogicFunc}
use Rattle.kql_functions.specs.declared.func.LogicFunc.TheVariants as logic
use Rattle.kql_functions.specs.declared.func.ChoiceFunc.{ChoiceFunc}
use Rattle.kql_functions.specs.declared.func.ChoiceFunc.TheVariants as choice
use Rattle.kql_functions.specs.declared.func.ConversionFunc.{ConversionFunc}
use Rattle.kql_functions.specs.declared.func.ConversionFunc.TheVariants as conversion
use Rattle.kql_functions.specs.declared.func.TextFunc.{TextFunc}
use Rattle.kql_functions.specs.declared.func.TextFunc.TheVariants as text
use Rattle.kql_functions.specs.declared.func.TimeFunc.{TimeFunc}
use Rattle.kql_functions.specs.declared.func.TimeFunc.TheVariants as time
use Rattle.kql_functions.specs.declared.func.DynamicFunc.{DynamicFunc}
use Rattle.kql_functions.specs.declared.func.DynamicFunc.TheVariants as dynamic
use Rattle.kql_functions.specs.declared.func.Func.{Func}
use Rattle.kql_functions.specs.declared.func.Func.TheVariants as func

-- these values are of these types, one each, or null
abbrev pub AreOfKinds : List Kind → List Value → Type 0
AreOfKinds [] [] = Unit {0}
AreOfKinds (k ∷ ks) (v ∷ vs) = IsOfKind k v × AreOfKinds ks vs
AreOfKinds _ _ = ⊥

abbrev pub same_kind : Kind → Kind → Bool
same_kind kind.Bool kind.Bool = true
same_kind kind.Long kind.Long = true
same_kind kind.Text kind.Text = true
same_kind kind.Moment kind.Moment = true
same_kind kind.Span kind.Span = true
same_kind kind.Dynamic kind.Dynamic = true
same_kind _ _ = false

unfoldable pub same_kinds : List Kind → List Kind → Bool
same_kinds [] [] = true
same_kinds (k ∷ ks) (w ∷ ws) = same_kind k w && same_kinds ks ws
same_kinds _ _ = false

-- a row of a table: the type given where these are the types taken
unfoldable pub row : List Kind → List Kind → Kind → Option Kind
row ks taken given = if same_kinds ks taken then Some given else None

-- the first of two rows that fits
abbrev pub either : Option Kind → Option Kind → Option Kind
either a b = option_or a b

-- a row of a table of the program
abbrev pub read_row : Bor (List Kind) × Kind → List Kind × Kind
read_row r = (r.0.now, r.1)

-- the first row of a table that fits
abbrev pub rows : List Kind → List (List Kind × Kind) → Option Kind
rows ks [] = None
rows ks (r ∷ []) = row ks r.0 r.1
rows ks (r ∷ s ∷ more) = either (row ks r.0 r.1) (rows ks (s ∷ more))

-- one type throughout
unfoldable pub all_same : Kind → List Kind → Bool
all_same k ks = list_all (same_kind k) ks

abbrev pub is_dynamic : Kind → Bool
is_dynamic kind.Dynamic = true
is_dynamic _ = false

-- longs, datetimes and timespans have an order
abbrev pub has_order : Kind → Bool
has_order kind.Long = true
has_order kind.Moment = true
has_order kind.Span = true
has_order _ = false

-- what is given for one argument of any type
unfoldable pub one_of_any : Kind → List Kind → Option Kind
one_of_any given (k ∷ []) = Some given
one_of_any given _ = None

-- for two arguments of one type that has ==
unfoldable pub two_equal : List Kind → Option Kind
two_equal (a ∷ b ∷ []) = if same_kind a b && (if is_dynamic a then false else true) then Some kind.Bool else None
two_equal _ = None

-- for two arguments of one type that has <
unfoldable pub two_ordered : List Kind → Option Kind
two_ordered (a ∷ b ∷ []) = if same_kind a b && has_order a then Some kind.Bool else None
two_ordered _ = None

-- of this type, or dynamic
abbrev pub is_listed : Kind → Kind → Bool
is_listed k kind.Dynamic = true
is_listed k l = same_kind k l

unfoldable pub all_listed : Kind → List Kind → Bool
all_listed k ks = list_all (is_listed k) ks

-- for a value and a list of one or more in which it is looked for: its type has ==, and theirs are the same or dynamic
unfoldable pub one_among : List Kind → Option Kind
one_among (a ∷ b ∷ more) = if all_listed a (b ∷ more) && (if is_dynamic a then false else true) then Some kind.Bool else None
one_among _ = None

-- the same for a text
unfoldable pub text_among : List Kind → Option Kind
text_among (a ∷ b ∷ more) = if all_listed kind.Text (b ∷ more) && same_kind a kind.Text then Some kind.Bool else None
text_among _ = None

-- for so many or more of one type
unfoldable pub several_of : ℕ → Kind → Kind → List Kind → Option Kind
several_of least taken given ks = if nat_le least (length ks) && all_same taken ks then Some given else None

-- for so many or more of any types
unfoldable pub several : ℕ → Kind → List Kind → Option Kind
several least given ks = if nat_le least (length ks) then Some given else None

-- for two or more of one type: that type
unfoldable pub two_or_more : List Kind → Option Kind
two_or_more (a ∷ b ∷ more) = if all_same a (b ∷ more) then Some a else None
two_or_more _ = None

-- the same where the type has an order
unfoldable pub two_or_more_ordered : List Kind → Option Kind
two_or_more_ordered (a ∷ b ∷ more) = if all_same a (b ∷ more) && has_order a then Some a else None
two_or_more_ordered _ = None

-- conditions and values in turn, of the type of the last
unfoldable pub cases_of : Kind → List Kind → Bool
cases_of last [] = false
cases_of last (k ∷ []) = same_kind k last
cases_of last (c ∷ k ∷ more) = same_kind c kind.Bool && (same_kind k last && cases_of last more)

-- for a condition and two values of one type: that type
unfoldable pub one_of_two : List Kind → Option Kind
one_of_two (c ∷ a ∷ b ∷ []) = if same_kind c kind.Bool && same_kind b a then Some a else None
one_of_two _ = None

-- for one condition and value or more, and a last value, of one type: that type
unfoldable pub one_of_cases : List Kind → Option Kind
one_of_cases (c ∷ a ∷ more) = if same_kind c kind.Bool && cases_of a more then Some a else None
one_of_cases _ = None

-- for a text and one or more of any types
unfoldable pub behind_text : List Kind → Option Kind
behind_text (t ∷ k ∷ more) = if same_kind t kind.Text then Some kind.Text else None
behind_text _ = None

-- for a dynamic and one of any type
unfoldable pub beside_dynamic : Kind → List Kind → Option Kind
beside_dynamic given (d ∷ k ∷ []) = if same_kind d kind.Dynamic then Some given else None
beside_dynamic given _ = None

-- texts and values in turn
unfoldable pub are_pairs : List Kind → Bool
are_pairs [] = true
are_pairs (k ∷ []) = false
are_pairs (k ∷ v ∷ more) = same_kind k kind.Text && are_pairs more

-- for one text and value or more
unfoldable pub one_of_pairs : List Kind → Option Kind
one_of_pairs ks = if nat_le 1 (length ks) && are_pairs ks then Some kind.Dynamic else None

-- the rows of arithmetic
unfoldable pub arithmetic_kind : ArithmeticFunc → List Kind → Option Kind
arithmetic_kind arithmetic.Add ks = rows ks (
    (kind.Long ∷ kind.Long ∷ [], kind.Long) ∷
    (kind.Span ∷ kind.Span ∷ [], kind.Span) ∷
    (kind.Moment ∷ kind.Span ∷ [], kind.Moment) ∷
    (kind.Span ∷ kind.Moment ∷ [], kind.Moment) ∷ [])
arithmetic_kind arithmetic.Subtract ks = rows ks (
    (kind.Long ∷ kind.Long ∷ [], kind.Long) ∷
    (kind.Span ∷ kind.Span ∷ [], kind.Span) ∷
    (kind.Moment ∷ kind.Span ∷ [], kind.Moment) ∷
    (kind.Moment ∷ kind.Moment ∷ [], kind.Span) ∷ [])
arithmetic_kind arithmetic.Multiply ks = rows ks (
    (kind.Long ∷ kind.Long ∷ [], kind.Long) ∷
    (kind.Span ∷ kind.Long ∷ [], kind.Span) ∷
    (kind.Long ∷ kind.Span ∷ [], kind.Span) ∷ [])
arithmetic_kind arithmetic.Divide ks = rows ks (
    (kind.Long ∷ kind.Long ∷ [], kind.Long) ∷
    (kind.Span ∷ kind.Long ∷ [], kind.Span) ∷
    (kind.Span ∷ kind.Span ∷ [], kind.Long) ∷ [])
arithmetic_kind arithmetic.Modulo ks = row ks (kind.Long ∷ kind.Long ∷ []) kind.Long
arithmetic_kind arithmetic.Negate ks = rows ks (
    (kind.Long ∷ [], kind.Long) ∷
    (kind.Span ∷ [], kind.Span) ∷ [])
arithmetic_kind arithmetic.Abs ks = rows ks (
    (kind.Long ∷ [], kind.Long) ∷
    (kind.Span ∷ [], kind.Span) ∷ [])
arithmetic_kind arithmetic.Sign ks = row ks (kind.Long ∷ []) kind.Long
arithmetic_kind arithmetic.Bin ks = rows ks (
    (kind.Long ∷ kind.Long ∷ [], kind.Long) ∷
    (kind.Moment ∷ kind.Span ∷ [], kind.Moment) ∷
    (kind.Span ∷ kind.Span ∷ [], kind.Span) ∷ [])
arithmetic_kind arithmetic.Floor ks = rows ks (
    (kind.Long ∷ kind.Long ∷ [], kind.Long) ∷
    (kind.Moment ∷ kind.Span ∷ [], kind.Moment) ∷
    (kind.Span ∷ kind.Span ∷ [], kind.Span) ∷ [])
arithmetic_kind arithmetic.BinAt ks = rows ks (
    (kind.Long ∷ kind.Long ∷ kind.Long ∷ [], kind.Long) ∷
    (kind.Moment ∷ kind.Span ∷ kind.Moment ∷ [], kind.Moment) ∷
    (kind.Span ∷ kind.Span ∷ kind.Span ∷ [], kind.Span) ∷ [])
arithmetic_kind arithmetic.BinaryAnd ks = row ks (kind.Long ∷ kind.Long ∷ []) kind.Long
arithmetic_kind arithmetic.BinaryOr ks = row ks (kind.Long ∷ kind.Long ∷ []) kind.Long
arithmetic_kind arithmetic.BinaryXor ks = row ks (kind.Long ∷ kind.Long ∷ []) kind.Long
arithmetic_kind arithmetic.BinaryNot ks = row ks (kind.Long ∷ []) kind.Long

-- the rows of comparisons
unfoldable pub comparison_kind : ComparisonFunc → List Kind → Option Kind
comparison_kind comparison.Equal ks = two_equal ks
comparison_kind comparison.NotEqual ks = two_equal ks
comparison_kind comparison.Less ks = two_ordered ks
comparison_kind comparison.AtMost ks = two_ordered ks
comparison_kind comparison.Greater ks = two_ordered ks
comparison_kind comparison.AtLeast ks = two_ordered ks
comparison_kind comparison.EqualText ks = row ks (kind.Text ∷ kind.Text ∷ []) kind.Bool
comparison_kind comparison.NotEqualText ks = row ks (kind.Text ∷ kind.Text ∷ []) kind.Bool
comparison_kind comparison.In ks = one_among ks
comparison_kind comparison.NotIn ks = one_among ks
comparison_kind comparison.InTexts ks = text_among ks
comparison_kind comparison.NotInTexts ks = text_among ks
comparison_kind comparison.Between ks = rows ks (
    (kind.Long ∷ kind.Long ∷ kind.Long ∷ [], kind.Bool) ∷
    (kind.Moment ∷ kind.Moment ∷ kind.Moment ∷ [], kind.Bool) ∷
    (kind.Span ∷ kind.Span ∷ kind.Span ∷ [], kind.Bool) ∷
    (kind.Moment ∷ kind.Moment ∷ kind.Span ∷ [], kind.Bool) ∷ [])
comparison_kind comparison.NotBetween ks = rows ks (
    (kind.Long ∷ kind.Long ∷ kind.Long ∷ [], kind.Bool) ∷
    (kind.Moment ∷ kind.Moment ∷ kind.Moment ∷ [], kind.Bool) ∷
    (kind.Span ∷ kind.Span ∷ kind.Span ∷ [], kind.Bool) ∷
    (kind.Moment ∷ kind.Moment ∷ kind.Span ∷ [], kind.Bool) ∷ [])

-- the rows of logic
unfoldable pub logic_kind : LogicFunc → List Kind → Option Kind
logic_kind logic.And ks = several_of 2 kind.Bool kind.Bool ks
logic_kind logic.Or ks = several_of 2 kind.Bool kind.Bool ks
logic_kind logic.Not ks = row ks (kind.Bool ∷ []) kind.Bool

-- the rows of choices
unfoldable pub choice_kind : ChoiceFunc → List Kind → Option Kind
choice_kind choice.IsNull ks = one_of_any kind.Bool ks
choice_kind choice.IsNotNull ks = one_of_any kind.Bool ks
choice_kind choice.IsEmpty ks = one_of_any kind.Bool ks
choice_kind choice.IsNotEmpty ks = one_of_any kind.Bool ks
choice_kind choice.Iff ks = one_of_two ks
choice_kind choice.Case ks = one_of_cases ks
choice_kind choice.Coalesce ks = two_or_more ks
choice_kind choice.MinOf ks = two_or_more_ordered ks
choice_kind choice.MaxOf ks = two_or_more_ordered ks

-- the rows of conversions
unfoldable pub conversion_kind : ConversionFunc → List Kind → Option Kind
conversion_kind conversion.ToLong ks = one_of_any kind.Long ks
conversion_kind conversion.ToText ks = one_of_any kind.Text ks
conversion_kind conversion.ToBool ks = rows ks (
    (kind.Bool ∷ [], kind.Bool) ∷
    (kind.Long ∷ [], kind.Bool) ∷
    (kind.Text ∷ [], kind.Bool) ∷
    (kind.Dynamic ∷ [], kind.Bool) ∷ [])
conversion_kind conversion.ToMoment ks = rows ks (
    (kind.Moment ∷ [], kind.Moment) ∷
    (kind.Text ∷ [], kind.Moment) ∷
    (kind.Dynamic ∷ [], kind.Moment) ∷ [])
conversion_kind conversion.ToSpan ks = rows ks (
    (kind.Span ∷ [], kind.Span) ∷
    (kind.Text ∷ [], kind.Span) ∷
    (kind.Dynamic ∷ [], kind.Span) ∷ [])

-- the rows of texts
unfoldable pub text_kind : TextFunc → List Kind → Option Kind
text_kind text.Length ks = row ks (kind.Text ∷ []) kind.Long
text_kind text.Substring ks = rows ks (
    (kind.Text ∷ kind.Long ∷ [], kind.Text) ∷
    (kind.Text ∷ kind.Long ∷ kind.Long ∷ [], kind.Text) ∷ [])
text_kind text.IndexOf ks = row ks (kind.Text ∷ kind.Text ∷ []) kind.Long
text_kind text.ToUpper ks = row ks (kind.Text ∷ []) kind.Text
text_kind text.ToLower ks = row ks (kind.Text ∷ []) kind.Text
text_kind text.Reverse ks = row ks (kind.Text ∷ []) kind.Text
text_kind text.Concat ks = several 1 kind.Text ks
text_kind text.ConcatDelimited ks = behind_text ks
text_kind text.Replace ks = row ks (kind.Text ∷ kind.Text ∷ kind.Text ∷ []) kind.Text
text_kind text.Split ks = row ks (kind.Text ∷ kind.Text ∷ []) kind.Dynamic
text_kind text.Compare ks = row ks (kind.Text ∷ kind.Text ∷ []) kind.Long

-- the rows of datetimes and timespans
unfoldable pub time_kind : TimeFunc → List Kind → Option Kind
time_kind time.Now ks = rows ks (
    ([], kind.Moment) ∷
    (kind.Span ∷ [], kind.Moment) ∷ [])
time_kind time.Ago ks = row ks (kind.Span ∷ []) kind.Moment
time_kind time.StartOfDay ks = row ks (kind.Moment ∷ []) kind.Moment
time_kind time.StartOfWeek ks = row ks (kind.Moment ∷ []) kind.Moment
time_kind time.StartOfMonth ks = row ks (kind.Moment ∷ []) kind.Moment
time_kind time.StartOfYear ks = row ks (kind.Moment ∷ []) kind.Moment
time_kind time.EndOfDay ks = row ks (kind.Moment ∷ []) kind.Moment
time_kind time.EndOfWeek ks = row ks (kind.Moment ∷ []) kind.Moment
time_kind time.EndOfMonth ks = row ks (kind.Moment ∷ []) kind.Moment
time_kind time.EndOfYear ks = row ks (kind.Moment ∷ []) kind.Moment
time_kind time.DayOfWeek ks = row ks (kind.Moment ∷ []) kind.Span
time_kind time.DayOfMonth ks = row ks (kind.Moment ∷ []) kind.Long
time_kind time.DayOfYear ks = row ks (kind.Moment ∷ []) kind.Long
time_kind time.GetYear ks = row ks (kind.Moment ∷ []) kind.Long
time_kind time.GetMonth ks = row ks (kind.Moment ∷ []) kind.Long
time_kind time.MonthOfYear ks = row ks (kind.Moment ∷ []) kind.Long
time_kind time.HourOfDay ks = row ks (kind.Moment ∷ []) kind.Long
time_kind time.DatetimeAdd ks = row ks (kind.Text ∷ kind.Long ∷ kind.Moment ∷ []) kind.Moment
time_kind time.DatetimeDiff ks = row ks (kind.Text ∷ kind.Moment ∷ kind.Moment ∷ []) kind.Long
time_kind time.DatetimePart ks = row ks (kind.Text ∷ kind.Moment ∷ []) kind.Long
time_kind time.MakeDatetime ks = rows ks (
    (kind.Long ∷ kind.Long ∷ kind.Long ∷ [], kind.Moment) ∷
    (kind.Long ∷ kind.Long ∷ kind.Long ∷ kind.Long ∷ kind.Long ∷ [], kind.Moment) ∷ [])
time_kind time.UnixSeconds ks = row ks (kind.Long ∷ []) kind.Moment
time_kind time.UnixMilliseconds ks = row ks (kind.Long ∷ []) kind.Moment

-- the rows of dynamic values
unfoldable pub dynamic_kind : DynamicFunc → List Kind → Option Kind
dynamic_kind dynamic.At ks = rows ks (
    (kind.Dynamic ∷ kind.Text ∷ [], kind.Dynamic) ∷
    (kind.Dynamic ∷ kind.Long ∷ [], kind.Dynamic) ∷ [])
dynamic_kind dynamic.ParseJson ks = rows ks (
    (kind.Text ∷ [], kind.Dynamic) ∷
    (kind.Dynamic ∷ [], kind.Dynamic) ∷ [])
dynamic_kind dynamic.ToDynamic ks = rows ks (
    (kind.Text ∷ [], kind.Dynamic) ∷
    (kind.Dynamic ∷ [], kind.Dynamic) ∷ [])
dynamic_kind dynamic.ArrayLength ks = row ks (kind.Dynamic ∷ []) kind.Long
dynamic_kind dynamic.ArrayConcat ks = several_of 1 kind.Dynamic kind.Dynamic ks
dynamic_kind dynamic.ArraySlice ks = row ks (kind.Dynamic ∷ kind.Long ∷ kind.Long ∷ []) kind.Dynamic
dynamic_kind dynamic.ArrayReverse ks = row ks (kind.Dynamic ∷ []) kind.Dynamic
dynamic_kind dynamic.ArrayIndexOf ks = beside_dynamic kind.Long ks
dynamic_kind dynamic.BagKeys ks = row ks (kind.Dynamic ∷ []) kind.Dynamic
dynamic_kind dynamic.BagHasKey ks = row ks (kind.Dynamic ∷ kind.Text ∷ []) kind.Bool
dynamic_kind dynamic.BagMerge ks = several_of 2 kind.Dynamic kind.Dynamic ks
dynamic_kind dynamic.PackArray ks = several 1 kind.Dynamic ks
dynamic_kind dynamic.BagPack ks = one_of_pairs ks
dynamic_kind dynamic.SetUnion ks = row ks (kind.Dynamic ∷ kind.Dynamic ∷ []) kind.Dynamic
dynamic_kind dynamic.SetIntersect ks = row ks (kind.Dynamic ∷ kind.Dynamic ∷ []) kind.Dynamic
dynamic_kind dynamic.SetDifference ks = row ks (kind.Dynamic ∷ kind.Dynamic ∷ []) kind.Dynamic
dynamic_kind dynamic.SetHasElement ks = beside_dynamic kind.Bool ks

-- a call of a pattern: whether it is found, or the text of a group
abbrev pub pattern_kind : Option ℕ → Kind
pattern_kind None = kind.Bool
pattern_kind (Some n) = kind.Text

-- the type that a function gives for arguments of these types, or none where it does not take them
unfoldable pub result_kind : Func → List Kind → Option Kind
result_kind (func.Arithmetic f) ks = arithmetic_kind f ks
result_kind (func.Comparison f) ks = comparison_kind f ks
result_kind (func.Search f) ks = row ks (kind.Text ∷ kind.Text ∷ []) kind.Bool
result_kind (func.Logic f) ks = logic_kind f ks
result_kind (func.Choice f) ks = choice_kind f ks
result_kind (func.Conversion f) ks = conversion_kind f ks
result_kind (func.Text f) ks = text_kind f ks
result_kind (func.Time f) ks = time_kind f ks
result_kind (func.Dynamic f) ks = dynamic_kind f ks
result_kind (func.Pattern f) ks = row ks (kind.Text ∷ kind.Text ∷ []) (pattern_kind f.group)

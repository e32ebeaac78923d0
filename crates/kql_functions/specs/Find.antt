-- The functions that a call can name, and what a name is.
use Rattle.std.specs.Prelude.{◌≡◌, ◌≢◌, ℕ, Bool, true, false, not, ◌||◌, List, [], ◌∷◌, ◌++◌, codes, Contains, Option, None, Some, if◌then◌else◌}
use Rattle.std.specs.List.{AllPairs, list_any}
use Rattle.std.specs.Str.{bytes_eq}
use Rattle.kql_functions.specs.declared.func.ArithmeticFunc.{ArithmeticFunc}
use Rattle.kql_functions.specs.declared.func.ArithmeticFunc.TheVariants as arithmetic
use Rattle.kql_functions.specs.declared.func.ComparisonFunc.TheVariants as comparison
use Rattle.kql_functions.specs.declared.func.LogicFunc.{LogicFunc}
use Rattle.kql_functions.specs.declared.func.LogicFunc.TheVariants as logic
use Rattle.kql_functions.specs.declared.func.ChoiceFunc.TheVariants as choice
use Rattle.kql_functions.specs.declared.func.ConversionFunc.TheVariants as conversion
use Rattle.kql_functions.specs.declared.func.TextFunc.TheVariants as text
use Rattle.kql_functions.specs.declared.func.TimeFunc.TheVariants as time
use Rattle.kql_functions.specs.declared.func.DynamicFunc.{DynamicFunc}
use Rattle.kql_functions.specs.declared.func.DynamicFunc.TheVariants as dynamic
use Rattle.kql_functions.specs.declared.func.SearchPlace.{SearchPlace}
use Rattle.kql_functions.specs.declared.func.SearchPlace.TheVariants as place
use Rattle.kql_texts.specs.declared.folding.Fold.{Fold}
use Rattle.kql_texts.specs.declared.folding.Fold.TheVariants as fold
use Rattle.kql_functions.specs.declared.func.Func.{Func}
use Rattle.kql_functions.specs.declared.func.Func.TheVariants as func
use Rattle.kql_functions.specs.declared.names.Found.{Found}
use Rattle.kql_functions.specs.declared.names.Found.TheVariants as found
use Rattle.kql_functions.specs.declared.window.Window.{Window}
use Rattle.kql_functions.specs.declared.window.Window.TheVariants as window
use Rattle.kql_functions.specs.declared.aggregate.Aggregate.{Aggregate}
use Rattle.kql_functions.specs.declared.aggregate.Aggregate.TheVariants as aggregate
use Rattle.kql_functions.specs.Names.{aggregate_name, func_name, window_name}

-- every scalar function that a call names
unfoldable pub functions : List Func
functions =
    func.Arithmetic arithmetic.Abs ∷ func.Arithmetic arithmetic.Sign ∷ func.Arithmetic arithmetic.Bin ∷
    func.Arithmetic arithmetic.Floor ∷ func.Arithmetic arithmetic.BinAt ∷ func.Arithmetic arithmetic.BinaryAnd ∷
    func.Arithmetic arithmetic.BinaryOr ∷ func.Arithmetic arithmetic.BinaryXor ∷
    func.Arithmetic arithmetic.BinaryNot ∷ func.Logic logic.Not ∷ func.Choice choice.IsNull ∷
    func.Choice choice.IsNotNull ∷ func.Choice choice.IsEmpty ∷ func.Choice choice.IsNotEmpty ∷
    func.Choice choice.Iff ∷ func.Choice choice.Case ∷ func.Choice choice.Coalesce ∷ func.Choice choice.MinOf ∷
    func.Choice choice.MaxOf ∷ func.Conversion conversion.ToLong ∷ func.Conversion conversion.ToText ∷
    func.Conversion conversion.ToBool ∷ func.Conversion conversion.ToMoment ∷ func.Conversion conversion.ToSpan ∷
    func.Text text.Length ∷ func.Text text.Substring ∷ func.Text text.IndexOf ∷ func.Text text.ToUpper ∷
    func.Text text.ToLower ∷ func.Text text.Reverse ∷ func.Text text.Concat ∷ func.Text text.ConcatDelimited ∷
    func.Text text.Replace ∷ func.Text text.Split ∷ func.Text text.Compare ∷ func.Time time.Now ∷
    func.Time time.Ago ∷ func.Time time.StartOfDay ∷ func.Time time.StartOfWeek ∷ func.Time time.StartOfMonth ∷
    func.Time time.StartOfYear ∷ func.Time time.EndOfDay ∷ func.Time time.EndOfWeek ∷ func.Time time.EndOfMonth ∷
    func.Time time.EndOfYear ∷ func.Time time.DayOfWeek ∷ func.Time time.DayOfMonth ∷ func.Time time.DayOfYear ∷
    func.Time time.GetYear ∷ func.Time time.GetMonth ∷ func.Time time.MonthOfYear ∷ func.Time time.HourOfDay ∷
    func.Time time.DatetimeAdd ∷ func.Time time.DatetimeDiff ∷ func.Time time.DatetimePart ∷
    func.Time time.MakeDatetime ∷ func.Time time.UnixSeconds ∷ func.Time time.UnixMilliseconds ∷
    func.Dynamic dynamic.ParseJson ∷ func.Dynamic dynamic.ToDynamic ∷ func.Dynamic dynamic.ArrayLength ∷
    func.Dynamic dynamic.ArrayConcat ∷ func.Dynamic dynamic.ArraySlice ∷ func.Dynamic dynamic.ArrayReverse ∷
    func.Dynamic dynamic.ArrayIndexOf ∷ func.Dynamic dynamic.BagKeys ∷ func.Dynamic dynamic.BagHasKey ∷
    func.Dynamic dynamic.BagMerge ∷ func.Dynamic dynamic.PackArray ∷ func.Dynamic dynamic.BagPack ∷
    func.Dynamic dynamic.SetUnion ∷ func.Dynamic dynamic.SetIntersect ∷ func.Dynamic dynamic.SetDifference ∷
    func.Dynamic dynamic.SetHasElement ∷ []

abbrev pub search : SearchPlace → Fold → Bool → Func
search p c n = func.Search (record { place = p; fold = c; negated = n })

-- every operator
unfoldable pub operators : List Func
operators =
    func.Arithmetic arithmetic.Add ∷ func.Arithmetic arithmetic.Subtract ∷ func.Arithmetic arithmetic.Multiply ∷
    func.Arithmetic arithmetic.Divide ∷ func.Arithmetic arithmetic.Modulo ∷ func.Arithmetic arithmetic.Negate ∷
    func.Comparison comparison.Equal ∷ func.Comparison comparison.NotEqual ∷ func.Comparison comparison.Less ∷
    func.Comparison comparison.AtMost ∷ func.Comparison comparison.Greater ∷ func.Comparison comparison.AtLeast ∷
    func.Comparison comparison.EqualText ∷ func.Comparison comparison.NotEqualText ∷ func.Comparison comparison.In ∷
    func.Comparison comparison.NotIn ∷ func.Comparison comparison.InTexts ∷ func.Comparison comparison.NotInTexts ∷
    func.Comparison comparison.Between ∷ func.Comparison comparison.NotBetween ∷
    search place.Anywhere fold.Caseless false ∷ search place.Anywhere fold.Caseless true ∷
    search place.Anywhere fold.Exact false ∷ search place.Anywhere fold.Exact true ∷
    search place.Start fold.Caseless false ∷ search place.Start fold.Caseless true ∷
    search place.Start fold.Exact false ∷ search place.Start fold.Exact true ∷ search place.End fold.Caseless false ∷
    search place.End fold.Caseless true ∷ search place.End fold.Exact false ∷ search place.End fold.Exact true ∷
    search place.Term fold.Caseless false ∷ search place.Term fold.Caseless true ∷
    search place.Term fold.Exact false ∷ search place.Term fold.Exact true ∷ func.Logic logic.And ∷
    func.Logic logic.Or ∷ func.Dynamic dynamic.At ∷ []

-- every window function
unfoldable pub windows : List Window
windows = window.Prev ∷ window.Next ∷ window.RowCumsum ∷ window.RowNumber ∷ []

-- every aggregate
unfoldable pub aggregates : List Aggregate
aggregates =
    aggregate.Count ∷ aggregate.CountIf ∷ aggregate.CountDistinct ∷ aggregate.CountDistinctIf ∷ aggregate.Sum ∷
    aggregate.SumIf ∷ aggregate.Min ∷ aggregate.MinIf ∷ aggregate.Max ∷ aggregate.MaxIf ∷ aggregate.MakeList ∷
    aggregate.MakeListIf ∷ aggregate.MakeSet ∷ aggregate.MakeSetIf ∷ aggregate.ArgMax ∷ aggregate.ArgMin ∷
    aggregate.TakeAny ∷ aggregate.BinaryAllAnd ∷ aggregate.BinaryAllOr ∷ aggregate.BinaryAllXor ∷ []

-- each of these once
abbrev pub AreDistinct : {A : Type 0} → List A → Type 0
AreDistinct xs = AllPairs (λ x y. x ≢ y) xs

-- the first of these that has this name
unfoldable pub named_among : {A : Type 0} → (A → List ℕ) → List A → List ℕ → Option A
named_among name [] n = None
named_among name (x ∷ xs) n = if bytes_eq (name x) n then Some x else named_among name xs n

-- functions of the reference that the language leaves out: estimates and means, functions of reals, and conversions
unfoldable pub refused_aggregates : List (List ℕ)
refused_aggregates =
    codes "avg" ∷ codes "avgif" ∷ codes "dcount" ∷ codes "dcountif" ∷ codes "percentile" ∷ codes "percentiles" ∷
    codes "stdev" ∷ codes "stdevif" ∷ codes "variance" ∷ codes "varianceif" ∷ codes "hll" ∷ codes "tdigest" ∷ []

unfoldable pub refused_functions : List (List ℕ)
refused_functions =
    codes "sqrt" ∷ codes "pow" ∷ codes "exp" ∷ codes "log" ∷ codes "log10" ∷ codes "round" ∷ codes "rand" ∷
    codes "series_stats" ∷ []

unfoldable pub refused_conversions : List (List ℕ)
refused_conversions =
    codes "toreal" ∷ codes "todouble" ∷ codes "todecimal" ∷ codes "toint" ∷ codes "toguid" ∷ []

abbrev pub refused_names : List (List ℕ)
refused_names = refused_aggregates ++ (refused_functions ++ refused_conversions)

unfoldable pub is_one_of : List (List ℕ) → List ℕ → Bool
is_one_of names n = list_any (λ r. bytes_eq n r) names

abbrev pub is_refused : List ℕ → Bool
is_refused n = is_one_of refused_aggregates n || (is_one_of refused_functions n || is_one_of refused_conversions n)

-- the name by which a call asks for the text of a pattern's group
abbrev pub extract_name : List ℕ
extract_name = codes "extract"

-- a name that stands in no table of names
abbrev pub found_apart : Bool → Bool → Found
found_apart true p = found.Refused
found_apart false true = found.Pattern
found_apart false false = found.Unknown

-- what is found first: a function, a window function, an aggregate, or a name that stands in none of these tables
abbrev pub found_first : Option Func → Option Window → Option Aggregate → Found → Found
found_first (Some f) w a r = found.Scalar f
found_first None (Some w) a r = found.Window w
found_first None None (Some a) r = found.Aggregate a
found_first None None None r = r

-- what a name is
unfoldable pub found_as : List ℕ → Found
found_as n = found_first (named_among func_name functions n) (named_among window_name windows n) (named_among aggregate_name aggregates n) (found_apart (is_refused n) (bytes_eq n extract_name))

-- operators, which no call names
abbrev pub is_arithmetic_operator : ArithmeticFunc → Bool
is_arithmetic_operator arithmetic.Add = true
is_arithmetic_operator arithmetic.Subtract = true
is_arithmetic_operator arithmetic.Multiply = true
is_arithmetic_operator arithmetic.Divide = true
is_arithmetic_operator arithmetic.Modulo = true
is_arithmetic_operator arithmetic.Negate = true
is_arithmetic_operator arithmetic.Abs = false
is_arithmetic_operator arithmetic.Sign = false
is_arithmetic_operator arithmetic.Bin = false
is_arithmetic_operator arithmetic.Floor = false
is_arithmetic_operator arithmetic.BinAt = false
is_arithmetic_operator arithmetic.BinaryAnd = false
is_arithmetic_operator arithmetic.BinaryOr = false
is_arithmetic_operator arithmetic.BinaryXor = false
is_arithmetic_operator arithmetic.BinaryNot = false

abbrev pub is_logic_operator : LogicFunc → Bool
is_logic_operator logic.And = true
is_logic_operator logic.Or = true
is_logic_operator logic.Not = false

abbrev pub is_dynamic_operator : DynamicFunc → Bool
is_dynamic_operator dynamic.At = true
is_dynamic_operator dynamic.ParseJson = false
is_dynamic_operator dynamic.ToDynamic = false
is_dynamic_operator dynamic.ArrayLength = false
is_dynamic_operator dynamic.ArrayConcat = false
is_dynamic_operator dynamic.ArraySlice = false
is_dynamic_operator dynamic.ArrayReverse = false
is_dynamic_operator dynamic.ArrayIndexOf = false
is_dynamic_operator dynamic.BagKeys = false
is_dynamic_operator dynamic.BagHasKey = false
is_dynamic_operator dynamic.BagMerge = false
is_dynamic_operator dynamic.PackArray = false
is_dynamic_operator dynamic.BagPack = false
is_dynamic_operator dynamic.SetUnion = false
is_dynamic_operator dynamic.SetIntersect = false
is_dynamic_operator dynamic.SetDifference = false
is_dynamic_operator dynamic.SetHasElement = false

abbrev pub is_operator : Func → Bool
is_operator (func.Arithmetic f) = is_arithmetic_operator f
is_operator (func.Comparison f) = true
is_operator (func.Search f) = true
is_operator (func.Logic f) = is_logic_operator f
is_operator (func.Choice f) = false
is_operator (func.Conversion f) = false
is_operator (func.Text f) = false
is_operator (func.Time f) = false
is_operator (func.Dynamic f) = is_dynamic_operator f
is_operator (func.Pattern f) = false

-- calls of patterns, which are neither operators nor functions of a table
abbrev pub is_pattern : Func → Bool
is_pattern (func.Arithmetic f) = false
is_pattern (func.Comparison f) = false
is_pattern (func.Search f) = false
is_pattern (func.Logic f) = false
is_pattern (func.Choice f) = false
is_pattern (func.Conversion f) = false
is_pattern (func.Text f) = false
is_pattern (func.Time f) = false
is_pattern (func.Dynamic f) = false
is_pattern (func.Pattern f) = true

-- functions that a call names
abbrev pub is_called : Func → Bool
is_called f = not (is_operator f || is_pattern f)

-- a name of no function that a call names, of no window function, of no aggregate, of none that is refused, and not `extract`
abbrev pub IsNoName : List ℕ → Type 0
IsNoName n = ((f : Func) → is_called f ≡ true → func_name f ≢ n) × (((w : Window) → window_name w ≢ n) × (((a : Aggregate) → aggregate_name a ≢ n) × ((¬ Contains refused_names n) × (n ≢ extract_name))))

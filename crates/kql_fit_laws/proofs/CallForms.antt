-- What a call of well formed values gives is well formed.
use Rattle.std.proofs.Common.{◌≡◌, ℕ, suc, Bool, true, false, List, [], ◌∷◌, map, length, refl, arith, inl, inr}
use Rattle.std.specs.Prelude.{ℤ, ◌==◌, nat_le, Option, None, Some, IfSome, Ok, option_and_then, if◌then◌else◌, unsigned_abs}
use Rattle.std.specs.List.{list_all}
use Rattle.std.proofs.lemmas.Bool.{and_from, cases_Bool}
use Rattle.kql_cells.specs.Dynamic.{is_well_formed_dynamic, levels}
use Rattle.kql_cells.specs.Values.{IsMoment, IsWellFormed}
use Rattle.kql_cells.specs.declared.dynamic.Dyn.TheVariants as V
use Rattle.kql_cells.specs.declared.dynamic.Dyn.{Dyn}
use Rattle.kql_cells.specs.declared.value.Value.TheVariants as value
use Rattle.kql_cells.specs.declared.value.Value.{Value}
use Rattle.kql_texts.specs.Texts.{split_by}
use Rattle.kql_ticks.specs.Moves.{add_part}
use Rattle.kql_ticks.specs.Ranges.{fit_moment}
use Rattle.kql_ticks.specs.declared.part.Part.{Part}
use Rattle.kql_ticks.proofs.RangeLaws.{fit_moment_gives}
use Rattle.kql_dynamic.specs.Arrays.{array_concat, array_index_of, array_length, array_reverse, array_slice, pack_array}
use Rattle.kql_dynamic.specs.Bags.{bag_has_key, bag_keys, bag_merge, bag_of, bag_pack, pairs}
use Rattle.kql_dynamic.specs.Parts.{argument as part_at, elements, entries, text, value_within_levels}
use Rattle.kql_dynamic.specs.Sets.{set_difference, set_has_element, set_intersect, set_union}
use Rattle.kql_dynamic.proofs.ArrayFormLaws.{concat-form, pack-form as packed-form, reverse-form, slice-form}
use Rattle.kql_dynamic.proofs.BagFormLaws.{keys-form, merge-form, pack-form}
use Rattle.kql_dynamic.proofs.FormLaws.{value-form}
use Rattle.kql_dynamic.proofs.PartLaws.{at_index-form, at_name-form, or-null-form}
use Rattle.kql_dynamic.proofs.SetFormLaws.{difference-form as set_difference-form, intersect-form, union-form}
use Rattle.kql_functions.specs.declared.func.ArithmeticFunc.TheVariants as func
use Rattle.kql_functions.specs.declared.func.ArithmeticFunc.{ArithmeticFunc}
use Rattle.kql_functions.specs.declared.func.ChoiceFunc.{ChoiceFunc}
use Rattle.kql_functions.specs.declared.func.ComparisonFunc.TheVariants as comparing
use Rattle.kql_functions.specs.declared.func.ComparisonFunc.{ComparisonFunc}
use Rattle.kql_functions.specs.declared.func.ConversionFunc.TheVariants as converting
use Rattle.kql_functions.specs.declared.func.ConversionFunc.{ConversionFunc}
use Rattle.kql_functions.specs.declared.func.DynamicFunc.TheVariants as dynamic
use Rattle.kql_functions.specs.declared.func.DynamicFunc.{DynamicFunc}
use Rattle.kql_functions.specs.declared.func.Func.TheVariants as function
use Rattle.kql_functions.specs.declared.func.Func.{Func}
use Rattle.kql_functions.specs.declared.func.LogicFunc.TheVariants as logical
use Rattle.kql_functions.specs.declared.func.LogicFunc.{LogicFunc}
use Rattle.kql_functions.specs.declared.func.SearchFunc.{SearchFunc}
use Rattle.kql_functions.specs.declared.func.TextFunc.TheVariants as texts
use Rattle.kql_functions.specs.declared.func.TextFunc.{TextFunc}
use Rattle.kql_functions.specs.declared.func.TimeFunc.TheVariants as time
use Rattle.kql_functions.specs.declared.func.TimeFunc.{TimeFunc}
use Rattle.kql_scalar_fns.specs.Applied.{applied, untold}
use Rattle.kql_scalar_fns.specs.Arguments.{AreWellFormed, bool_or_null, long_or_null, moment_or_null, span_or_null}
use Rattle.kql_scalar_fns.specs.Arithmetic.{arithmetic, bin, bin_from_zero, bits_of_both, bits_turned, difference, negative, product, quotient, remainder, sign, size, sum}
use Rattle.kql_scalar_fns.specs.Choice.{choice}
use Rattle.kql_scalar_fns.specs.Comparison.{comparison}
use Rattle.kql_scalar_fns.specs.Conversion.{conversion, moment_written, to_bool, to_long, to_moment, to_span}
use Rattle.kql_scalar_fns.specs.Dynamic.{at, dynamic_call, element, of_all, of_count, of_one, read, read_or_itself}
use Rattle.kql_scalar_fns.specs.Logic.{logic}
use Rattle.kql_scalar_fns.specs.Search.{search_call}
use Rattle.kql_scalar_fns.specs.Text.{char_count, lowered, part, pieces, place_of, raised, replaced, rest_from, reversed, text_call, text_order}
use Rattle.kql_scalar_fns.specs.Time.{crossed, end, field_of, made, moved, named_field, period_named, since_1970, start, time_call, weekday}
use Rattle.kql_scalar_fns.proofs.ChoiceFormLaws.{argument-form, choice_form}
use Rattle.kql_scalar_fns.proofs.ElementLaws.{form-Bool, form-Long, form-Null, form-Text}
use Rattle.kql_scalar_fns.proofs.PieceLaws.{texts_form}
use Rattle.kql_fit_laws.proofs.MomentForms.{add_part-range, moment_at-range, moment_in-range}
use Rattle.kql_fit_laws.proofs.ReadForms.{parsed-form}

pub bool-form : (o : Option Bool) → IsWellFormed (bool_or_null o)
bool-form None = tt
bool-form (Some b) = tt

pub long-form : (o : Option ℤ) → IsWellFormed (long_or_null o)
long-form None = tt
long-form (Some n) = tt

pub span-form : (o : Option ℤ) → IsWellFormed (span_or_null o)
span-form None = tt
span-form (Some n) = tt

pub moment-form : (o : Option ℤ) → IfSome o IsMoment → IsWellFormed (moment_or_null o)
moment-form None h = tt
moment-form (Some n) h = h

pub fit-form : (n : ℤ) → IsWellFormed (moment_or_null (fit_moment n))
fit-form n = moment-form (fit_moment n) (fit_moment_gives (fit_moment n) n refl)

-- Arithmetic.

sum-form : (a b : Value) → IsWellFormed (sum a b)
unfolding sum
sum-form (value.Long a) (value.Long b) = long-form _
sum-form (value.Span a) (value.Span b) = span-form _
sum-form (value.Moment a) (value.Span b) = fit-form _
sum-form (value.Span a) (value.Moment b) = fit-form _
sum-form _ _ = tt

difference-form : (a b : Value) → IsWellFormed (difference a b)
unfolding difference
difference-form (value.Long a) (value.Long b) = long-form _
difference-form (value.Span a) (value.Span b) = span-form _
difference-form (value.Moment a) (value.Span b) = fit-form _
difference-form (value.Moment a) (value.Moment b) = span-form _
difference-form _ _ = tt

product-form : (a b : Value) → IsWellFormed (product a b)
unfolding product
product-form (value.Long a) (value.Long b) = long-form _
product-form (value.Span a) (value.Long b) = span-form _
product-form (value.Long a) (value.Span b) = span-form _
product-form _ _ = tt

quotient-form : (a b : Value) → IsWellFormed (quotient a b)
unfolding quotient
quotient-form (value.Long a) (value.Long b) = long-form _
quotient-form (value.Span a) (value.Long b) = span-form _
quotient-form (value.Span a) (value.Span b) = long-form _
quotient-form _ _ = tt

remainder-form : (a b : Value) → IsWellFormed (remainder a b)
unfolding remainder
remainder-form (value.Long a) (value.Long b) = long-form _
remainder-form _ _ = tt

negative-form : (a : Value) → IsWellFormed (negative a)
unfolding negative
negative-form (value.Long a) = long-form _
negative-form (value.Span a) = span-form _
negative-form _ = tt

size-form : (a : Value) → IsWellFormed (size a)
unfolding size
size-form (value.Long a) = long-form _
size-form (value.Span a) = span-form _
size-form _ = tt

sign-form : (a : Value) → IsWellFormed (sign a)
unfolding sign
sign-form (value.Long a) = tt
sign-form _ = tt

binned-form : (o : Option ℤ) → IsWellFormed (moment_or_null (option_and_then fit_moment o))
binned-form None = tt
binned-form (Some n) = fit-form n

bin-form : (x s f : Value) → IsWellFormed (bin x s f)
unfolding bin
bin-form (value.Long x) (value.Long s) (value.Long f) = long-form _
bin-form (value.Span x) (value.Span s) (value.Span f) = span-form _
bin-form (value.Moment x) (value.Span s) (value.Moment f) = binned-form _
bin-form _ _ _ = tt

from-zero-form : (x s : Value) → IsWellFormed (bin_from_zero x s)
unfolding bin_from_zero
from-zero-form (value.Long x) s = bin-form _ s _
from-zero-form (value.Span x) s = bin-form _ s _
from-zero-form (value.Moment x) s = bin-form _ s _
from-zero-form _ s = tt

both-form : (f : ℤ → ℤ → ℤ) (a b : Value) → IsWellFormed (bits_of_both f a b)
unfolding bits_of_both
both-form f (value.Long a) (value.Long b) = tt
both-form f _ _ = tt

turned-form : (a : Value) → IsWellFormed (bits_turned a)
unfolding bits_turned
turned-form (value.Long a) = tt
turned-form _ = tt

arithmetic-form : (f : ArithmeticFunc) (vs : List Value) → IsWellFormed (arithmetic f vs)
unfolding arithmetic
arithmetic-form func.Add vs = sum-form _ _
arithmetic-form func.Subtract vs = difference-form _ _
arithmetic-form func.Multiply vs = product-form _ _
arithmetic-form func.Divide vs = quotient-form _ _
arithmetic-form func.Modulo vs = remainder-form _ _
arithmetic-form func.Negate vs = negative-form _
arithmetic-form func.Abs vs = size-form _
arithmetic-form func.Sign vs = sign-form _
arithmetic-form func.Bin vs = from-zero-form _ _
arithmetic-form func.Floor vs = from-zero-form _ _
arithmetic-form func.BinAt vs = bin-form _ _ _
arithmetic-form func.BinaryAnd vs = both-form _ _ _
arithmetic-form func.BinaryOr vs = both-form _ _ _
arithmetic-form func.BinaryXor vs = both-form _ _ _
arithmetic-form func.BinaryNot vs = turned-form _

-- Comparisons, searches and logic.

comparison-form : (f : ComparisonFunc) (vs : List Value) → IsWellFormed (comparison f vs)
unfolding comparison
comparison-form comparing.In vs = tt
comparison-form comparing.NotIn vs = tt
comparison-form comparing.InTexts vs = tt
comparison-form comparing.NotInTexts vs = tt
comparison-form _ vs = bool-form _

search-form : (f : SearchFunc) (vs : List Value) → IsWellFormed (search_call f vs)
unfolding search_call
search-form f vs = bool-form _

logic-form : (f : LogicFunc) (vs : List Value) → IsWellFormed (logic f vs)
unfolding logic
logic-form logical.And vs = bool-form _
logic-form logical.Or vs = bool-form _
logic-form logical.Not vs = bool-form _

-- Choices.

choice-form : (f : ChoiceFunc) (vs : List Value) → AreWellFormed vs → IsWellFormed (choice f vs)
choice-form f vs h = choice_form {E = ℕ} (Ok (choice f vs)) f vs h refl

-- Conversions.

to_long-form : (v : Value) → IsWellFormed (to_long v)
unfolding to_long
to_long-form (value.Text t) = long-form _
to_long-form (value.Dynamic d) = long-form _
to_long-form _ = tt

to_bool-form : (v : Value) → IsWellFormed (to_bool v)
unfolding to_bool
to_bool-form (value.Text t) = bool-form _
to_bool-form (value.Dynamic d) = bool-form _
to_bool-form _ = tt

to_span-form : (v : Value) → IsWellFormed (to_span v)
unfolding to_span
to_span-form (value.Text t) = span-form _
to_span-form (value.Dynamic d) = span-form _
to_span-form _ = tt

written-range : (t : List ℕ) → IfSome (moment_written t) IsMoment
unfolding moment_written
written-range t = moment_in-range t

held-range : (o : Option (List ℕ)) → IfSome (option_and_then moment_written o) IsMoment
held-range None = tt
held-range (Some t) = written-range t

to_moment-form : (v : Value) → IsWellFormed v → IsWellFormed (to_moment v)
unfolding to_moment
to_moment-form (value.Moment n) h = h
to_moment-form (value.Text t) h = moment-form _ (written-range t)
to_moment-form (value.Dynamic d) h = moment-form _ (held-range (text d))
to_moment-form _ h = tt

conversion-form : (f : ConversionFunc) (vs : List Value) → AreWellFormed vs → IsWellFormed (conversion f vs)
unfolding conversion
conversion-form converting.ToLong vs h = to_long-form _
conversion-form converting.ToText vs h = tt
conversion-form converting.ToBool vs h = to_bool-form _
conversion-form converting.ToMoment vs h = to_moment-form _ (argument-form vs 0 h)
conversion-form converting.ToSpan vs h = to_span-form _

-- Texts.

char_count-form : (v : Value) → IsWellFormed (char_count v)
unfolding char_count
char_count-form (value.Text t) = tt
char_count-form _ = tt

part-form : (t start count : Value) → IsWellFormed (part t start count)
unfolding part
part-form (value.Text t) (value.Long start) (value.Long count) = tt
part-form (value.Text t) _ _ = tt
part-form _ _ _ = tt

rest_from-form : (t start : Value) → IsWellFormed (rest_from t start)
unfolding rest_from
rest_from-form (value.Text t) (value.Long start) = tt
rest_from-form (value.Text t) _ = tt
rest_from-form _ _ = tt

place_of-form : (t p : Value) → IsWellFormed (place_of t p)
unfolding place_of
place_of-form (value.Text t) (value.Text p) = tt
place_of-form _ _ = tt

raised-form : (t : Value) → IsWellFormed (raised t)
unfolding raised
raised-form (value.Text t) = tt
raised-form _ = tt

lowered-form : (t : Value) → IsWellFormed (lowered t)
unfolding lowered
lowered-form (value.Text t) = tt
lowered-form _ = tt

reversed-form : (t : Value) → IsWellFormed (reversed t)
unfolding reversed
reversed-form (value.Text t) = tt
reversed-form _ = tt

replaced-form : (t a b : Value) → IsWellFormed (replaced t a b)
unfolding replaced
replaced-form (value.Text t) (value.Text a) (value.Text b) = tt
replaced-form _ _ _ = tt

pieces-form : (t d : Value) → IsWellFormed (pieces t d)
unfolding pieces
pieces-form (value.Text t) (value.Text d) = texts_form (split_by t d)
pieces-form _ _ = tt

text_order-form : (a b : Value) → IsWellFormed (text_order a b)
unfolding text_order
text_order-form (value.Text a) (value.Text b) = tt
text_order-form _ _ = tt

either-form : (b : Bool) (v w : Value) → IsWellFormed v → IsWellFormed w → IsWellFormed (if b then v else w)
either-form true v w h k = h
either-form false v w h k = k

text-form : (f : TextFunc) (vs : List Value) → IsWellFormed (text_call f vs)
unfolding text_call
text-form texts.Length vs = char_count-form _
text-form texts.Substring vs = either-form (length vs == 2) _ _ (rest_from-form _ _) (part-form _ _ _)
text-form texts.IndexOf vs = place_of-form _ _
text-form texts.ToUpper vs = raised-form _
text-form texts.ToLower vs = lowered-form _
text-form texts.Reverse vs = reversed-form _
text-form texts.Concat vs = tt
text-form texts.ConcatDelimited vs = tt
text-form texts.Replace vs = replaced-form _ _ _
text-form texts.Split vs = pieces-form _ _
text-form texts.Compare vs = text_order-form _ _

-- Datetimes and timespans.

start-form : (p : Part) (v : Value) → IsWellFormed (start p v)
unfolding start
start-form p (value.Moment x) = fit-form _
start-form p _ = tt

end-form : (p : Part) (v : Value) → IsWellFormed (end p v)
unfolding end
end-form p (value.Moment x) = fit-form _
end-form p _ = tt

weekday-form : (v : Value) → IsWellFormed (weekday v)
unfolding weekday
weekday-form (value.Moment x) = tt
weekday-form _ = tt

field_of-form : (p : Part) (v : Value) → IsWellFormed (field_of p v)
unfolding field_of
field_of-form p (value.Moment x) = tt
field_of-form p _ = tt

part-range : (o : Option Part) (n : ℤ) (t : ℕ) → IfSome (option_and_then (λ p. add_part p n t) o) IsMoment
part-range None n t = tt
part-range (Some p) n t = add_part-range p n t

moved-form : (w n x : Value) → IsWellFormed (moved w n x)
unfolding moved
moved-form (value.Text w) (value.Long n) (value.Moment x) = moment-form _ (part-range (period_named w) n (unsigned_abs x))
moved-form _ _ _ = tt

crossed-form : (w a b : Value) → IsWellFormed (crossed w a b)
unfolding crossed
crossed-form (value.Text w) (value.Moment a) (value.Moment b) = long-form _
crossed-form _ _ _ = tt

named_field-form : (w x : Value) → IsWellFormed (named_field w x)
unfolding named_field
named_field-form (value.Text w) (value.Moment x) = long-form _
named_field-form _ _ = tt

made-form : (y m d h mi : Value) → IsWellFormed (made y m d h mi)
unfolding made
made-form (value.Long y) (value.Long m) (value.Long d) (value.Long h) (value.Long mi) = moment-form _ (moment_at-range y m d h mi)
made-form _ _ _ _ _ = tt

since_1970-form : (unit : ℕ) (v : Value) → IsWellFormed (since_1970 unit v)
unfolding since_1970
since_1970-form unit (value.Long n) = fit-form _
since_1970-form unit _ = tt

time-form : (f : TimeFunc) (vs : List Value) → IsWellFormed (time_call f vs)
unfolding time_call
time-form time.Now vs = tt
time-form time.Ago vs = tt
time-form time.StartOfDay vs = start-form _ _
time-form time.StartOfWeek vs = start-form _ _
time-form time.StartOfMonth vs = start-form _ _
time-form time.StartOfYear vs = start-form _ _
time-form time.EndOfDay vs = end-form _ _
time-form time.EndOfWeek vs = end-form _ _
time-form time.EndOfMonth vs = end-form _ _
time-form time.EndOfYear vs = end-form _ _
time-form time.DayOfWeek vs = weekday-form _
time-form time.DayOfMonth vs = field_of-form _ _
time-form time.DayOfYear vs = field_of-form _ _
time-form time.GetYear vs = field_of-form _ _
time-form time.GetMonth vs = field_of-form _ _
time-form time.MonthOfYear vs = field_of-form _ _
time-form time.HourOfDay vs = field_of-form _ _
time-form time.DatetimeAdd vs = moved-form _ _ _
time-form time.DatetimeDiff vs = crossed-form _ _ _
time-form time.DatetimePart vs = named_field-form _ _
time-form time.MakeDatetime vs = either-form (length vs == 3) _ _ (made-form _ _ _ _ _) (made-form _ _ _ _ _)
time-form time.UnixSeconds vs = since_1970-form _ _
time-form time.UnixMilliseconds vs = since_1970-form _ _

-- Dynamic values.

pub element-form : (v : Value) → IsWellFormed v → is_well_formed_dynamic (element v) ≡ true
unfolding element
element-form value.Null h = form-Null
element-form (value.Bool b) h = form-Bool b
element-form (value.Long n) h = form-Long n
element-form (value.Text t) h = form-Text t
element-form (value.Moment n) h = form-Text _
element-form (value.Span n) h = form-Text _
element-form (value.Dynamic d) h = h.1

first-form : (v : Value) (vs : List Value) → AreWellFormed (v ∷ vs) → IsWellFormed v
first-form v vs h = h.each 0 value.Null (omega arith)

rest-form : (v : Value) (vs : List Value) → AreWellFormed (v ∷ vs) → AreWellFormed vs
rest-form v vs h = record { each = λ k d l. h.each (suc k) d (omega arith) }

pub elements-form : (vs : List Value) → AreWellFormed vs → list_all is_well_formed_dynamic (map element vs) ≡ true
elements-form [] h = refl
elements-form (v ∷ vs) h = and_from (is_well_formed_dynamic (element v)) (list_all is_well_formed_dynamic (map element vs)) (element-form v (first-form v vs h)) (elements-form vs (rest-form v vs h))

at-form : (d i : Value) → IsWellFormed d → IsWellFormed (at d i)
unfolding at
at-form (value.Dynamic d) (value.Text n) h = at_name-form d n h.1
at-form (value.Dynamic d) (value.Long i) h = at_index-form d i h.1
at-form _ _ h = tt

itself-form : (d : Dyn) (o : Option (List ℕ)) → IsWellFormed (value.Dynamic d) → IsWellFormed (read_or_itself d o)
itself-form d None h = h
itself-form d (Some t) h = parsed-form t

read-form : (v : Value) → IsWellFormed v → IsWellFormed (read v)
unfolding read
read-form (value.Text t) h = parsed-form t
read-form (value.Dynamic d) h = itself-form d (text d) h
read-form _ h = tt

-- What makes a well formed value of well formed elements.
abbrev Makes : (List Dyn → Value) → Type 0
Makes make = (ds : List Dyn) → list_all is_well_formed_dynamic ds ≡ true → IsWellFormed (make ds)

of_one-form : (make : List Dyn → Value) (v : Value) → Makes make → IsWellFormed v → IsWellFormed (of_one make v)
unfolding of_one
of_one-form make (value.Dynamic d) m h = m (d ∷ []) (and_from (is_well_formed_dynamic d) true h.1 refl)
of_one-form make _ m h = tt

of_all-form : (make : List Dyn → Value) (vs : List Value) → Makes make → AreWellFormed vs → IsWellFormed (of_all make vs)
unfolding of_all
of_all-form make vs m h = m (map element vs) (elements-form vs h)

of_count-form : (n : ℕ) (make : List Dyn → Value) (vs : List Value) → Makes make → AreWellFormed vs → IsWellFormed (of_count n make vs)
unfolding of_count
of_count-form n make vs m h = either-form (length vs == n) (make (map element vs)) value.Null (m (map element vs) (elements-form vs h)) tt

length-form : Makes array_length
length-form ds h = or-null-form (elements (part_at ds 0)) _ (λ xs e. tt)

index-form : Makes array_index_of
index-form ds h = or-null-form (elements (part_at ds 0)) _ (λ xs e. tt)

bag_keys-form : Makes bag_keys
bag_keys-form ds h = or-null-form (entries (part_at ds 0)) _ (λ es e. keys-form es)

has_key-form : Makes bag_has_key
has_key-form ds h = or-null-form (entries (part_at ds 0)) _ (λ es e. or-null-form (text (part_at ds 1)) _ (λ k f. tt))

has_element-form : Makes set_has_element
has_element-form ds h = or-null-form (elements (part_at ds 0)) _ (λ xs e. tt)

within-form : (d : Dyn) → (nat_le (levels d) 127 ≡ true → is_well_formed_dynamic d ≡ true) → IsWellFormed (value_within_levels d)
within-form d h = elim (cases_Bool (nat_le (levels d) 127)) [
  | inl t ↦ rw t (value-form d (h t))
  | inr f ↦ rw f tt
]

pub pack_array-form : Makes pack_array
pack_array-form ds h = within-form (V.Array ds) (λ e. (packed-form ds h e).1)

bag_pack-form : Makes bag_pack
bag_pack-form ds h = or-null-form (pairs ds) _ (λ es e. within-form (V.Bag (bag_of es)) (λ f. (pack-form ds (bag_of es) h (rw e refl) f).1))

dynamic-form : (f : DynamicFunc) (vs : List Value) → AreWellFormed vs → IsWellFormed (dynamic_call f vs)
unfolding dynamic_call
dynamic-form dynamic.At vs h = at-form _ _ (argument-form vs 0 h)
dynamic-form dynamic.ParseJson vs h = read-form _ (argument-form vs 0 h)
dynamic-form dynamic.ToDynamic vs h = read-form _ (argument-form vs 0 h)
dynamic-form dynamic.ArrayLength vs h = of_one-form array_length _ length-form (argument-form vs 0 h)
dynamic-form dynamic.ArrayConcat vs h = of_all-form array_concat vs concat-form h
dynamic-form dynamic.ArraySlice vs h = of_count-form 3 array_slice vs slice-form h
dynamic-form dynamic.ArrayReverse vs h = of_one-form array_reverse _ reverse-form (argument-form vs 0 h)
dynamic-form dynamic.ArrayIndexOf vs h = of_count-form 2 array_index_of vs index-form h
dynamic-form dynamic.BagKeys vs h = of_one-form bag_keys _ bag_keys-form (argument-form vs 0 h)
dynamic-form dynamic.BagHasKey vs h = of_count-form 2 bag_has_key vs has_key-form h
dynamic-form dynamic.BagMerge vs h = of_all-form bag_merge vs merge-form h
dynamic-form dynamic.PackArray vs h = of_all-form pack_array vs pack_array-form h
dynamic-form dynamic.BagPack vs h = of_all-form bag_pack vs bag_pack-form h
dynamic-form dynamic.SetUnion vs h = of_count-form 2 set_union vs union-form h
dynamic-form dynamic.SetIntersect vs h = of_count-form 2 set_intersect vs intersect-form h
dynamic-form dynamic.SetDifference vs h = of_count-form 2 set_difference vs set_difference-form h
dynamic-form dynamic.SetHasElement vs h = of_count-form 2 set_has_element vs has_element-form h

-- Calls of patterns.

untold-form : (g : Option ℕ) → IsWellFormed (untold g)
untold-form None = tt
untold-form (Some n) = tt

-- All calls.

pub applied-form : (f : Func) (vs : List Value) → AreWellFormed vs → IsWellFormed (applied f vs)
unfolding applied
applied-form (function.Arithmetic f) vs h = arithmetic-form f vs
applied-form (function.Comparison f) vs h = comparison-form f vs
applied-form (function.Search f) vs h = search-form f vs
applied-form (function.Logic f) vs h = logic-form f vs
applied-form (function.Choice f) vs h = choice-form f vs h
applied-form (function.Conversion f) vs h = conversion-form f vs h
applied-form (function.Text f) vs h = text-form f vs
applied-form (function.Time f) vs h = time-form f vs
applied-form (function.Dynamic f) vs h = dynamic-form f vs h
applied-form (function.Pattern f) vs h = untold-form f.group

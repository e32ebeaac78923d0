-- Arithmetic: over whole numbers of any size, and then tested against the range. What has no value is null.
use Rattle.std.specs.Prelude.{zero, suc, ℤ, pos, negsuc, neg_ℤ, ◌+ℤ◌, ◌-ℤ◌, ◌*ℤ◌, unsigned_abs, int_div, List, Option, None, Some, option_and_then}
use Rattle.std.specs.Int.{int_bit_and, int_bit_not, int_bit_or, int_bit_xor, int_rem_euclid, int_signum, w64}
use Rattle.kql_ticks.specs.Bins.{bin_at as bin_from}
use Rattle.kql_ticks.specs.Ranges.{fit, fit_moment}
use Rattle.kql_cells.specs.declared.value.Value.{Value}
use Rattle.kql_cells.specs.declared.value.Value.TheVariants as value
use Rattle.kql_functions.specs.declared.func.ArithmeticFunc.{ArithmeticFunc}
use Rattle.kql_functions.specs.declared.func.ArithmeticFunc.TheVariants as func
use Rattle.kql_scalar_fns.specs.Arguments.{argument, long_or_null, moment_or_null, span_or_null}

-- a + b
unfoldable pub sum : Value → Value → Value
sum (value.Long a) (value.Long b) = long_or_null (fit (a +ℤ b))
sum (value.Span a) (value.Span b) = span_or_null (fit (a +ℤ b))
sum (value.Moment a) (value.Span b) = moment_or_null (fit_moment (a +ℤ b))
sum (value.Span a) (value.Moment b) = moment_or_null (fit_moment (a +ℤ b))
sum _ _ = value.Null

-- a - b; two datetimes give a timespan
unfoldable pub difference : Value → Value → Value
difference (value.Long a) (value.Long b) = long_or_null (fit (a -ℤ b))
difference (value.Span a) (value.Span b) = span_or_null (fit (a -ℤ b))
difference (value.Moment a) (value.Span b) = moment_or_null (fit_moment (a -ℤ b))
difference (value.Moment a) (value.Moment b) = span_or_null (fit (a -ℤ b))
difference _ _ = value.Null

-- a * b
unfoldable pub product : Value → Value → Value
product (value.Long a) (value.Long b) = long_or_null (fit (a *ℤ b))
product (value.Span a) (value.Long b) = span_or_null (fit (a *ℤ b))
product (value.Long a) (value.Span b) = span_or_null (fit (a *ℤ b))
product _ _ = value.Null

-- the quotient cut toward zero; none for the divisor 0
abbrev pub quotient_of : ℤ → ℤ → Option ℤ
quotient_of a (pos zero) = None
quotient_of a (pos (suc n)) = fit (int_div a (pos (suc n)))
quotient_of a (negsuc n) = fit (int_div a (negsuc n))

-- a / b; two timespans give a long
unfoldable pub quotient : Value → Value → Value
quotient (value.Long a) (value.Long b) = long_or_null (quotient_of a b)
quotient (value.Span a) (value.Long b) = span_or_null (quotient_of a b)
quotient (value.Span a) (value.Span b) = long_or_null (quotient_of a b)
quotient _ _ = value.Null

-- the r from 0 on and below the size of b that differs from a by a multiple of b; none for 0
abbrev pub remainder_of : ℤ → ℤ → Option ℤ
remainder_of a (pos zero) = None
remainder_of a (pos (suc n)) = Some (int_rem_euclid a (pos (suc n)))
remainder_of a (negsuc n) = Some (int_rem_euclid a (negsuc n))

-- a % b
unfoldable pub remainder : Value → Value → Value
remainder (value.Long a) (value.Long b) = long_or_null (remainder_of a b)
remainder _ _ = value.Null

-- -a
unfoldable pub negative : Value → Value
negative (value.Long a) = long_or_null (fit (neg_ℤ a))
negative (value.Span a) = span_or_null (fit (neg_ℤ a))
negative _ = value.Null

-- the size of a
unfoldable pub size : Value → Value
size (value.Long a) = long_or_null (fit (pos (unsigned_abs a)))
size (value.Span a) = span_or_null (fit (pos (unsigned_abs a)))
size _ = value.Null

-- -1 below zero, 0, or 1 above
unfoldable pub sign : Value → Value
sign (value.Long a) = value.Long (int_signum a)
sign _ = value.Null

-- the greatest f + k * s that is not above x; none for an s that is not positive, and out of range
unfoldable pub bin : Value → Value → Value → Value
bin (value.Long x) (value.Long s) (value.Long f) = long_or_null (bin_from x s f)
bin (value.Span x) (value.Span s) (value.Span f) = span_or_null (bin_from x s f)
bin (value.Moment x) (value.Span s) (value.Moment f) = moment_or_null (option_and_then fit_moment (bin_from x s f))
bin _ _ _ = value.Null

-- bins that begin at 0
unfoldable pub bin_from_zero : Value → Value → Value
bin_from_zero (value.Long x) s = bin (value.Long x) s (value.Long (pos 0))
bin_from_zero (value.Span x) s = bin (value.Span x) s (value.Span (pos 0))
bin_from_zero (value.Moment x) s = bin (value.Moment x) s (value.Moment (pos 0))
bin_from_zero _ s = value.Null

-- the bits of two numbers, and those of one turned round
unfoldable pub bits_of_both : (ℤ → ℤ → ℤ) → Value → Value → Value
bits_of_both f (value.Long a) (value.Long b) = value.Long (f a b)
bits_of_both f _ _ = value.Null

unfoldable pub bits_turned : Value → Value
bits_turned (value.Long a) = value.Long (int_bit_not w64 a)
bits_turned _ = value.Null

-- what each function gives
unfoldable pub arithmetic : ArithmeticFunc → List Value → Value
arithmetic func.Add args = sum (argument args 0) (argument args 1)
arithmetic func.Subtract args = difference (argument args 0) (argument args 1)
arithmetic func.Multiply args = product (argument args 0) (argument args 1)
arithmetic func.Divide args = quotient (argument args 0) (argument args 1)
arithmetic func.Modulo args = remainder (argument args 0) (argument args 1)
arithmetic func.Negate args = negative (argument args 0)
arithmetic func.Abs args = size (argument args 0)
arithmetic func.Sign args = sign (argument args 0)
arithmetic func.Bin args = bin_from_zero (argument args 0) (argument args 1)
arithmetic func.Floor args = bin_from_zero (argument args 0) (argument args 1)
arithmetic func.BinAt args = bin (argument args 0) (argument args 1) (argument args 2)
arithmetic func.BinaryAnd args = bits_of_both (int_bit_and w64) (argument args 0) (argument args 1)
arithmetic func.BinaryOr args = bits_of_both (int_bit_or w64) (argument args 0) (argument args 1)
arithmetic func.BinaryXor args = bits_of_both (int_bit_xor w64) (argument args 0) (argument args 1)
arithmetic func.BinaryNot args = bits_turned (argument args 0)

-- What arithmetic gives is of the type that its rows say.
use Rattle.std.proofs.Common.{List, [], ◌∷◌}
use Rattle.std.specs.Prelude.{ℤ}
use Rattle.kql_cells.specs.Values.{IsOfKind}
use Rattle.kql_cells.specs.declared.value.Kind.{Kind}
use Rattle.kql_cells.specs.declared.value.Kind.TheVariants as kind
use Rattle.kql_cells.specs.declared.value.Value.{Value}
use Rattle.kql_cells.specs.declared.value.Value.TheVariants as value
use Rattle.kql_functions.specs.declared.func.ArithmeticFunc.{ArithmeticFunc}
use Rattle.kql_functions.specs.declared.func.ArithmeticFunc.TheVariants as func
use Rattle.kql_scalar_fns.specs.Arguments.{argument}
use Rattle.kql_scalar_fns.specs.Arithmetic.{arithmetic, bin, bin_from_zero, bits_of_both, bits_turned, difference, negative, product, quotient, remainder, sign, size, sum}
use Rattle.kql_functions.specs.Kinds.{AreOfKinds, arithmetic_kind}
use Rattle.kql_scalar_fns.proofs.KindLaws.{Gives, by-long, by-moment, by-span, either-gives, first-kind, long-kind, moment-kind, row-any, row-fits, second-kind, span-kind, third-kind}

sum-LL : (a b : Value) → IsOfKind kind.Long a → IsOfKind kind.Long b → IsOfKind kind.Long (sum a b)
unfolding sum
sum-LL a b ah bh = by-long (λ (x0 : Value). IsOfKind kind.Long (sum x0 b)) tt (λ an. by-long (λ (x1 : Value). IsOfKind kind.Long (sum (value.Long an) x1)) tt (λ bn. long-kind _) b bh) a ah

sum-SS : (a b : Value) → IsOfKind kind.Span a → IsOfKind kind.Span b → IsOfKind kind.Span (sum a b)
unfolding sum
sum-SS a b ah bh = by-span (λ (x0 : Value). IsOfKind kind.Span (sum x0 b)) tt (λ an. by-span (λ (x1 : Value). IsOfKind kind.Span (sum (value.Span an) x1)) tt (λ bn. span-kind _) b bh) a ah

sum-MS : (a b : Value) → IsOfKind kind.Moment a → IsOfKind kind.Span b → IsOfKind kind.Moment (sum a b)
unfolding sum
sum-MS a b ah bh = by-moment (λ (x0 : Value). IsOfKind kind.Moment (sum x0 b)) tt (λ an. by-span (λ (x1 : Value). IsOfKind kind.Moment (sum (value.Moment an) x1)) tt (λ bn. moment-kind _) b bh) a ah

sum-SM : (a b : Value) → IsOfKind kind.Span a → IsOfKind kind.Moment b → IsOfKind kind.Moment (sum a b)
unfolding sum
sum-SM a b ah bh = by-span (λ (x0 : Value). IsOfKind kind.Moment (sum x0 b)) tt (λ an. by-moment (λ (x1 : Value). IsOfKind kind.Moment (sum (value.Span an) x1)) tt (λ bn. moment-kind _) b bh) a ah

difference-LL : (a b : Value) → IsOfKind kind.Long a → IsOfKind kind.Long b → IsOfKind kind.Long (difference a b)
unfolding difference
difference-LL a b ah bh = by-long (λ (x0 : Value). IsOfKind kind.Long (difference x0 b)) tt (λ an. by-long (λ (x1 : Value). IsOfKind kind.Long (difference (value.Long an) x1)) tt (λ bn. long-kind _) b bh) a ah

difference-SS : (a b : Value) → IsOfKind kind.Span a → IsOfKind kind.Span b → IsOfKind kind.Span (difference a b)
unfolding difference
difference-SS a b ah bh = by-span (λ (x0 : Value). IsOfKind kind.Span (difference x0 b)) tt (λ an. by-span (λ (x1 : Value). IsOfKind kind.Span (difference (value.Span an) x1)) tt (λ bn. span-kind _) b bh) a ah

difference-MS : (a b : Value) → IsOfKind kind.Moment a → IsOfKind kind.Span b → IsOfKind kind.Moment (difference a b)
unfolding difference
difference-MS a b ah bh = by-moment (λ (x0 : Value). IsOfKind kind.Moment (difference x0 b)) tt (λ an. by-span (λ (x1 : Value). IsOfKind kind.Moment (difference (value.Moment an) x1)) tt (λ bn. moment-kind _) b bh) a ah

difference-MM : (a b : Value) → IsOfKind kind.Moment a → IsOfKind kind.Moment b → IsOfKind kind.Span (difference a b)
unfolding difference
difference-MM a b ah bh = by-moment (λ (x0 : Value). IsOfKind kind.Span (difference x0 b)) tt (λ an. by-moment (λ (x1 : Value). IsOfKind kind.Span (difference (value.Moment an) x1)) tt (λ bn. span-kind _) b bh) a ah

product-LL : (a b : Value) → IsOfKind kind.Long a → IsOfKind kind.Long b → IsOfKind kind.Long (product a b)
unfolding product
product-LL a b ah bh = by-long (λ (x0 : Value). IsOfKind kind.Long (product x0 b)) tt (λ an. by-long (λ (x1 : Value). IsOfKind kind.Long (product (value.Long an) x1)) tt (λ bn. long-kind _) b bh) a ah

product-SL : (a b : Value) → IsOfKind kind.Span a → IsOfKind kind.Long b → IsOfKind kind.Span (product a b)
unfolding product
product-SL a b ah bh = by-span (λ (x0 : Value). IsOfKind kind.Span (product x0 b)) tt (λ an. by-long (λ (x1 : Value). IsOfKind kind.Span (product (value.Span an) x1)) tt (λ bn. span-kind _) b bh) a ah

product-LS : (a b : Value) → IsOfKind kind.Long a → IsOfKind kind.Span b → IsOfKind kind.Span (product a b)
unfolding product
product-LS a b ah bh = by-long (λ (x0 : Value). IsOfKind kind.Span (product x0 b)) tt (λ an. by-span (λ (x1 : Value). IsOfKind kind.Span (product (value.Long an) x1)) tt (λ bn. span-kind _) b bh) a ah

quotient-LL : (a b : Value) → IsOfKind kind.Long a → IsOfKind kind.Long b → IsOfKind kind.Long (quotient a b)
unfolding quotient
quotient-LL a b ah bh = by-long (λ (x0 : Value). IsOfKind kind.Long (quotient x0 b)) tt (λ an. by-long (λ (x1 : Value). IsOfKind kind.Long (quotient (value.Long an) x1)) tt (λ bn. long-kind _) b bh) a ah

quotient-SL : (a b : Value) → IsOfKind kind.Span a → IsOfKind kind.Long b → IsOfKind kind.Span (quotient a b)
unfolding quotient
quotient-SL a b ah bh = by-span (λ (x0 : Value). IsOfKind kind.Span (quotient x0 b)) tt (λ an. by-long (λ (x1 : Value). IsOfKind kind.Span (quotient (value.Span an) x1)) tt (λ bn. span-kind _) b bh) a ah

quotient-SS : (a b : Value) → IsOfKind kind.Span a → IsOfKind kind.Span b → IsOfKind kind.Long (quotient a b)
unfolding quotient
quotient-SS a b ah bh = by-span (λ (x0 : Value). IsOfKind kind.Long (quotient x0 b)) tt (λ an. by-span (λ (x1 : Value). IsOfKind kind.Long (quotient (value.Span an) x1)) tt (λ bn. long-kind _) b bh) a ah

negative-L : (a : Value) → IsOfKind kind.Long a → IsOfKind kind.Long (negative a)
unfolding negative
negative-L a ah = by-long (λ (x0 : Value). IsOfKind kind.Long (negative x0)) tt (λ an. long-kind _) a ah

negative-S : (a : Value) → IsOfKind kind.Span a → IsOfKind kind.Span (negative a)
unfolding negative
negative-S a ah = by-span (λ (x0 : Value). IsOfKind kind.Span (negative x0)) tt (λ an. span-kind _) a ah

size-L : (a : Value) → IsOfKind kind.Long a → IsOfKind kind.Long (size a)
unfolding size
size-L a ah = by-long (λ (x0 : Value). IsOfKind kind.Long (size x0)) tt (λ an. long-kind _) a ah

size-S : (a : Value) → IsOfKind kind.Span a → IsOfKind kind.Span (size a)
unfolding size
size-S a ah = by-span (λ (x0 : Value). IsOfKind kind.Span (size x0)) tt (λ an. span-kind _) a ah

bin_from_zero-LL : (a b : Value) → IsOfKind kind.Long a → IsOfKind kind.Long b → IsOfKind kind.Long (bin_from_zero a b)
unfolding bin_from_zero bin
bin_from_zero-LL a b ah bh = by-long (λ (x0 : Value). IsOfKind kind.Long (bin_from_zero x0 b)) tt (λ an. by-long (λ (x1 : Value). IsOfKind kind.Long (bin_from_zero (value.Long an) x1)) tt (λ bn. long-kind _) b bh) a ah

bin_from_zero-MS : (a b : Value) → IsOfKind kind.Moment a → IsOfKind kind.Span b → IsOfKind kind.Moment (bin_from_zero a b)
unfolding bin_from_zero bin
bin_from_zero-MS a b ah bh = by-moment (λ (x0 : Value). IsOfKind kind.Moment (bin_from_zero x0 b)) tt (λ an. by-span (λ (x1 : Value). IsOfKind kind.Moment (bin_from_zero (value.Moment an) x1)) tt (λ bn. moment-kind _) b bh) a ah

bin_from_zero-SS : (a b : Value) → IsOfKind kind.Span a → IsOfKind kind.Span b → IsOfKind kind.Span (bin_from_zero a b)
unfolding bin_from_zero bin
bin_from_zero-SS a b ah bh = by-span (λ (x0 : Value). IsOfKind kind.Span (bin_from_zero x0 b)) tt (λ an. by-span (λ (x1 : Value). IsOfKind kind.Span (bin_from_zero (value.Span an) x1)) tt (λ bn. span-kind _) b bh) a ah

bin-LLL : (a b d : Value) → IsOfKind kind.Long a → IsOfKind kind.Long b → IsOfKind kind.Long d → IsOfKind kind.Long (bin a b d)
unfolding bin
bin-LLL a b d ah bh dh = by-long (λ (x0 : Value). IsOfKind kind.Long (bin x0 b d)) tt (λ an. by-long (λ (x1 : Value). IsOfKind kind.Long (bin (value.Long an) x1 d)) tt (λ bn. by-long (λ (x2 : Value). IsOfKind kind.Long (bin (value.Long an) (value.Long bn) x2)) tt (λ dn. long-kind _) d dh) b bh) a ah

bin-MSM : (a b d : Value) → IsOfKind kind.Moment a → IsOfKind kind.Span b → IsOfKind kind.Moment d → IsOfKind kind.Moment (bin a b d)
unfolding bin
bin-MSM a b d ah bh dh = by-moment (λ (x0 : Value). IsOfKind kind.Moment (bin x0 b d)) tt (λ an. by-span (λ (x1 : Value). IsOfKind kind.Moment (bin (value.Moment an) x1 d)) tt (λ bn. by-moment (λ (x2 : Value). IsOfKind kind.Moment (bin (value.Moment an) (value.Span bn) x2)) tt (λ dn. moment-kind _) d dh) b bh) a ah

bin-SSS : (a b d : Value) → IsOfKind kind.Span a → IsOfKind kind.Span b → IsOfKind kind.Span d → IsOfKind kind.Span (bin a b d)
unfolding bin
bin-SSS a b d ah bh dh = by-span (λ (x0 : Value). IsOfKind kind.Span (bin x0 b d)) tt (λ an. by-span (λ (x1 : Value). IsOfKind kind.Span (bin (value.Span an) x1 d)) tt (λ bn. by-span (λ (x2 : Value). IsOfKind kind.Span (bin (value.Span an) (value.Span bn) x2)) tt (λ dn. span-kind _) d dh) b bh) a ah

remainder-long : (a b : Value) → IsOfKind kind.Long (remainder a b)
unfolding remainder
remainder-long value.Null b = tt
remainder-long (value.Bool a) b = tt
remainder-long (value.Long a) value.Null = tt
remainder-long (value.Long a) (value.Bool b) = tt
remainder-long (value.Long a) (value.Long b) = long-kind _
remainder-long (value.Long a) (value.Text b) = tt
remainder-long (value.Long a) (value.Moment b) = tt
remainder-long (value.Long a) (value.Span b) = tt
remainder-long (value.Long a) (value.Dynamic b) = tt
remainder-long (value.Text a) b = tt
remainder-long (value.Moment a) b = tt
remainder-long (value.Span a) b = tt
remainder-long (value.Dynamic a) b = tt

sign-long : (a : Value) → IsOfKind kind.Long (sign a)
unfolding sign
sign-long value.Null = tt
sign-long (value.Bool a) = tt
sign-long (value.Long a) = tt
sign-long (value.Text a) = tt
sign-long (value.Moment a) = tt
sign-long (value.Span a) = tt
sign-long (value.Dynamic a) = tt

turned-long : (a : Value) → IsOfKind kind.Long (bits_turned a)
unfolding bits_turned
turned-long value.Null = tt
turned-long (value.Bool a) = tt
turned-long (value.Long a) = tt
turned-long (value.Text a) = tt
turned-long (value.Moment a) = tt
turned-long (value.Span a) = tt
turned-long (value.Dynamic a) = tt

bits-long : (f : ℤ → ℤ → ℤ) (a b : Value) → IsOfKind kind.Long (bits_of_both f a b)
unfolding bits_of_both
bits-long f value.Null b = tt
bits-long f (value.Bool a) b = tt
bits-long f (value.Long a) value.Null = tt
bits-long f (value.Long a) (value.Bool b) = tt
bits-long f (value.Long a) (value.Long b) = tt
bits-long f (value.Long a) (value.Text b) = tt
bits-long f (value.Long a) (value.Moment b) = tt
bits-long f (value.Long a) (value.Span b) = tt
bits-long f (value.Long a) (value.Dynamic b) = tt
bits-long f (value.Text a) b = tt
bits-long f (value.Moment a) b = tt
bits-long f (value.Span a) b = tt
bits-long f (value.Dynamic a) b = tt

pub arithmetic_gives : (f : ArithmeticFunc) (ks : List Kind) (vs : List Value) → AreOfKinds ks vs → Gives (arithmetic_kind f ks) (arithmetic f vs)
unfolding arithmetic arithmetic_kind
arithmetic_gives func.Add ks vs h = either-gives _ _ _ (row-fits ks (kind.Long ∷ kind.Long ∷ []) kind.Long _ vs h (λ p. sum-LL (argument vs 0) (argument vs 1) (first-kind kind.Long (kind.Long ∷ []) vs p) (second-kind kind.Long kind.Long [] vs p))) (either-gives _ _ _ (row-fits ks (kind.Span ∷ kind.Span ∷ []) kind.Span _ vs h (λ p. sum-SS (argument vs 0) (argument vs 1) (first-kind kind.Span (kind.Span ∷ []) vs p) (second-kind kind.Span kind.Span [] vs p))) (either-gives _ _ _ (row-fits ks (kind.Moment ∷ kind.Span ∷ []) kind.Moment _ vs h (λ p. sum-MS (argument vs 0) (argument vs 1) (first-kind kind.Moment (kind.Span ∷ []) vs p) (second-kind kind.Moment kind.Span [] vs p))) (row-fits ks (kind.Span ∷ kind.Moment ∷ []) kind.Moment _ vs h (λ p. sum-SM (argument vs 0) (argument vs 1) (first-kind kind.Span (kind.Moment ∷ []) vs p) (second-kind kind.Span kind.Moment [] vs p)))))
arithmetic_gives func.Subtract ks vs h = either-gives _ _ _ (row-fits ks (kind.Long ∷ kind.Long ∷ []) kind.Long _ vs h (λ p. difference-LL (argument vs 0) (argument vs 1) (first-kind kind.Long (kind.Long ∷ []) vs p) (second-kind kind.Long kind.Long [] vs p))) (either-gives _ _ _ (row-fits ks (kind.Span ∷ kind.Span ∷ []) kind.Span _ vs h (λ p. difference-SS (argument vs 0) (argument vs 1) (first-kind kind.Span (kind.Span ∷ []) vs p) (second-kind kind.Span kind.Span [] vs p))) (either-gives _ _ _ (row-fits ks (kind.Moment ∷ kind.Span ∷ []) kind.Moment _ vs h (λ p. difference-MS (argument vs 0) (argument vs 1) (first-kind kind.Moment (kind.Span ∷ []) vs p) (second-kind kind.Moment kind.Span [] vs p))) (row-fits ks (kind.Moment ∷ kind.Moment ∷ []) kind.Span _ vs h (λ p. difference-MM (argument vs 0) (argument vs 1) (first-kind kind.Moment (kind.Moment ∷ []) vs p) (second-kind kind.Moment kind.Moment [] vs p)))))
arithmetic_gives func.Multiply ks vs h = either-gives _ _ _ (row-fits ks (kind.Long ∷ kind.Long ∷ []) kind.Long _ vs h (λ p. product-LL (argument vs 0) (argument vs 1) (first-kind kind.Long (kind.Long ∷ []) vs p) (second-kind kind.Long kind.Long [] vs p))) (either-gives _ _ _ (row-fits ks (kind.Span ∷ kind.Long ∷ []) kind.Span _ vs h (λ p. product-SL (argument vs 0) (argument vs 1) (first-kind kind.Span (kind.Long ∷ []) vs p) (second-kind kind.Span kind.Long [] vs p))) (row-fits ks (kind.Long ∷ kind.Span ∷ []) kind.Span _ vs h (λ p. product-LS (argument vs 0) (argument vs 1) (first-kind kind.Long (kind.Span ∷ []) vs p) (second-kind kind.Long kind.Span [] vs p))))
arithmetic_gives func.Divide ks vs h = either-gives _ _ _ (row-fits ks (kind.Long ∷ kind.Long ∷ []) kind.Long _ vs h (λ p. quotient-LL (argument vs 0) (argument vs 1) (first-kind kind.Long (kind.Long ∷ []) vs p) (second-kind kind.Long kind.Long [] vs p))) (either-gives _ _ _ (row-fits ks (kind.Span ∷ kind.Long ∷ []) kind.Span _ vs h (λ p. quotient-SL (argument vs 0) (argument vs 1) (first-kind kind.Span (kind.Long ∷ []) vs p) (second-kind kind.Span kind.Long [] vs p))) (row-fits ks (kind.Span ∷ kind.Span ∷ []) kind.Long _ vs h (λ p. quotient-SS (argument vs 0) (argument vs 1) (first-kind kind.Span (kind.Span ∷ []) vs p) (second-kind kind.Span kind.Span [] vs p))))
arithmetic_gives func.Modulo ks vs h = row-any ks (kind.Long ∷ kind.Long ∷ []) kind.Long _ (remainder-long _ _)
arithmetic_gives func.Negate ks vs h = either-gives _ _ _ (row-fits ks (kind.Long ∷ []) kind.Long _ vs h (λ p. negative-L (argument vs 0) (first-kind kind.Long [] vs p))) (row-fits ks (kind.Span ∷ []) kind.Span _ vs h (λ p. negative-S (argument vs 0) (first-kind kind.Span [] vs p)))
arithmetic_gives func.Abs ks vs h = either-gives _ _ _ (row-fits ks (kind.Long ∷ []) kind.Long _ vs h (λ p. size-L (argument vs 0) (first-kind kind.Long [] vs p))) (row-fits ks (kind.Span ∷ []) kind.Span _ vs h (λ p. size-S (argument vs 0) (first-kind kind.Span [] vs p)))
arithmetic_gives func.Sign ks vs h = row-any ks (kind.Long ∷ []) kind.Long _ (sign-long _)
arithmetic_gives func.Bin ks vs h = either-gives _ _ _ (row-fits ks (kind.Long ∷ kind.Long ∷ []) kind.Long _ vs h (λ p. bin_from_zero-LL (argument vs 0) (argument vs 1) (first-kind kind.Long (kind.Long ∷ []) vs p) (second-kind kind.Long kind.Long [] vs p))) (either-gives _ _ _ (row-fits ks (kind.Moment ∷ kind.Span ∷ []) kind.Moment _ vs h (λ p. bin_from_zero-MS (argument vs 0) (argument vs 1) (first-kind kind.Moment (kind.Span ∷ []) vs p) (second-kind kind.Moment kind.Span [] vs p))) (row-fits ks (kind.Span ∷ kind.Span ∷ []) kind.Span _ vs h (λ p. bin_from_zero-SS (argument vs 0) (argument vs 1) (first-kind kind.Span (kind.Span ∷ []) vs p) (second-kind kind.Span kind.Span [] vs p))))
arithmetic_gives func.Floor ks vs h = either-gives _ _ _ (row-fits ks (kind.Long ∷ kind.Long ∷ []) kind.Long _ vs h (λ p. bin_from_zero-LL (argument vs 0) (argument vs 1) (first-kind kind.Long (kind.Long ∷ []) vs p) (second-kind kind.Long kind.Long [] vs p))) (either-gives _ _ _ (row-fits ks (kind.Moment ∷ kind.Span ∷ []) kind.Moment _ vs h (λ p. bin_from_zero-MS (argument vs 0) (argument vs 1) (first-kind kind.Moment (kind.Span ∷ []) vs p) (second-kind kind.Moment kind.Span [] vs p))) (row-fits ks (kind.Span ∷ kind.Span ∷ []) kind.Span _ vs h (λ p. bin_from_zero-SS (argument vs 0) (argument vs 1) (first-kind kind.Span (kind.Span ∷ []) vs p) (second-kind kind.Span kind.Span [] vs p))))
arithmetic_gives func.BinAt ks vs h = either-gives _ _ _ (row-fits ks (kind.Long ∷ kind.Long ∷ kind.Long ∷ []) kind.Long _ vs h (λ p. bin-LLL (argument vs 0) (argument vs 1) (argument vs 2) (first-kind kind.Long (kind.Long ∷ kind.Long ∷ []) vs p) (second-kind kind.Long kind.Long (kind.Long ∷ []) vs p) (third-kind kind.Long kind.Long kind.Long [] vs p))) (either-gives _ _ _ (row-fits ks (kind.Moment ∷ kind.Span ∷ kind.Moment ∷ []) kind.Moment _ vs h (λ p. bin-MSM (argument vs 0) (argument vs 1) (argument vs 2) (first-kind kind.Moment (kind.Span ∷ kind.Moment ∷ []) vs p) (second-kind kind.Moment kind.Span (kind.Moment ∷ []) vs p) (third-kind kind.Moment kind.Span kind.Moment [] vs p))) (row-fits ks (kind.Span ∷ kind.Span ∷ kind.Span ∷ []) kind.Span _ vs h (λ p. bin-SSS (argument vs 0) (argument vs 1) (argument vs 2) (first-kind kind.Span (kind.Span ∷ kind.Span ∷ []) vs p) (second-kind kind.Span kind.Span (kind.Span ∷ []) vs p) (third-kind kind.Span kind.Span kind.Span [] vs p))))
arithmetic_gives func.BinaryAnd ks vs h = row-any ks (kind.Long ∷ kind.Long ∷ []) kind.Long _ (bits-long _ _ _)
arithmetic_gives func.BinaryOr ks vs h = row-any ks (kind.Long ∷ kind.Long ∷ []) kind.Long _ (bits-long _ _ _)
arithmetic_gives func.BinaryXor ks vs h = row-any ks (kind.Long ∷ kind.Long ∷ []) kind.Long _ (bits-long _ _ _)
arithmetic_gives func.BinaryNot ks vs h = row-any ks (kind.Long ∷ []) kind.Long _ (turned-long _)

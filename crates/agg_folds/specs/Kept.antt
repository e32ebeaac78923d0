-- What is kept of the values that an aggregate took, and what one value more, or what is kept of others, makes of it.
use Rattle.std.specs.Prelude.{ℕ, ◌==◌, nat_lt, ◌+◌, ◌*◌, Bool, true, false, not, ◌&&◌, ◌||◌, List, fold, length, Option, None, Some, if◌then◌else◌, ℤ, pos, neg_ℤ, ◌≤ℤ◌, ◌++◌, ◌∷◌, []}
use Rattle.std.specs.Int.{int_bit_and, int_bit_or, int_bit_xor, w64}
use Rattle.indexmap.specs.IndexSet.{insert_key}
use Rattle.kql_cells.specs.Keys.{is_null, same_key}
use Rattle.kql_cells.specs.declared.value.Value.{Value}
use Rattle.kql_scalar_fns.specs.Choice.{is_below}
use Rattle.agg_folds.specs.declared.best.Best.{Best}
use Rattle.agg_folds.specs.declared.best.Prefer.{Prefer}
use Rattle.agg_folds.specs.declared.best.Prefer.TheVariants as prefer
use Rattle.agg_folds.specs.declared.bits.BitOp.{BitOp}
use Rattle.agg_folds.specs.declared.bits.BitOp.TheVariants as op

-- The sum of so many numbers of 64 bits is within these bounds.
pub record IsSumOf (count : ℕ) (sum : ℤ) : Type 0 where
  pub low : neg_ℤ (pos (count * 9223372036854775808)) ≤ℤ sum
  pub high : sum ≤ℤ pos (count * 9223372036854775808)

-- Whether a value takes the place of the one that is chosen.
unfoldable pub is_better : Prefer → Value → Value → Bool
is_better prefer.Greatest b v = (is_null b && not (is_null v)) || is_below b v
is_better prefer.Least b v = (is_null b && not (is_null v)) || is_below v b
is_better prefer.First b v = false

-- One value more, behind so many.
unfoldable pub met : Best → ℕ → Value → Best
met b n v = if (n == 0) || is_better b.prefer b.value v then record { prefer = b.prefer; value = v; place = n } else b

-- What is chosen of others, behind so many here.
unfoldable pub joined_best : Best → ℕ → Best → Best
joined_best b n c = if (n == 0) || is_better b.prefer b.value c.value then record { prefer = b.prefer; value = c.value; place = n + c.place } else b

unfoldable pub bits_of : BitOp → ℤ → ℤ → ℤ
bits_of op.And = int_bit_and w64
bits_of op.Or = int_bit_or w64
bits_of op.Xor = int_bit_xor w64

-- Two numbers taken together, of which either may be missing.
unfoldable pub both_of : BitOp → Option ℤ → Option ℤ → Option ℤ
both_of o (Some a) (Some b) = Some (bits_of o a b)
both_of o (Some a) None = Some a
both_of o None b = b

-- Whether one more is kept where so many are.
unfoldable pub has_room : Option ℕ → ℕ → Bool
has_room None count = true
has_room (Some most) count = nat_lt count most

-- One value more in a list and in a set: a null is left out.
unfoldable pub with_listed : Option ℕ → List Value → Value → List Value
with_listed limit vs v = if not (is_null v) && has_room limit (length vs) then vs ++ v ∷ [] else vs

unfoldable pub with_member : Option ℕ → List Value → Value → List Value
with_member limit vs v = if not (is_null v) && has_room limit (length vs) then insert_key same_key vs v else vs

unfoldable pub joined_list : Option ℕ → List Value → List Value → List Value
joined_list limit vs more = fold (with_listed limit) vs more

unfoldable pub joined_set : Option ℕ → List Value → List Value → List Value
joined_set limit vs more = fold (with_member limit) vs more

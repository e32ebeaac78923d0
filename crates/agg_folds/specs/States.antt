-- The states of folds: what they keep of the values that an aggregate took.
use Rattle.std.specs.Prelude.{ℕ, ◌+◌, ◌≤◌, List, [], Option, None, Some, length, pos, ◌+ℤ◌, filter_map}
use Rattle.std.specs.List.{reduce}
use Rattle.kql_ticks.specs.Ranges.{fit}
use Rattle.kql_cells.specs.declared.value.Kind.{Kind}
use Rattle.kql_cells.specs.declared.value.Value.{Value}
use Rattle.kql_cells.specs.declared.value.Value.TheVariants as value
use Rattle.kql_functions.specs.declared.aggregate.Aggregate.{Aggregate}
use Rattle.kql_functions.specs.declared.aggregate.Aggregate.TheVariants as aggregate
use Rattle.kql_scalar_fns.specs.Arguments.{long_or_null}
use Rattle.kql_scalar_fns.specs.Choice.{greatest, least}
use Rattle.kql_meaning.specs.Aggregates.{distinct_given, given, listed}
use Rattle.kql_meaning.specs.Numbers.{added, counted, fitted, sum_of}
use Rattle.kql_meaning.specs.Results.{greatest_row, least_row}
use Rattle.kql_meaning.specs.Values.{absent_as, number_of}
use Rattle.agg_folds.specs.declared.best.Prefer.{Prefer}
use Rattle.agg_folds.specs.declared.best.Prefer.TheVariants as prefer
use Rattle.agg_folds.specs.declared.bits.BitOp.{BitOp}
use Rattle.agg_folds.specs.declared.bits.BitOp.TheVariants as op
use Rattle.agg_folds.specs.declared.call.FoldCall.{FoldCall}
use Rattle.agg_folds.specs.declared.state.State.{State}
use Rattle.agg_folds.specs.declared.state.State.TheVariants as state
use Rattle.agg_folds.specs.Folds.{first_or_absent, taken, taken_of, up_to}
use Rattle.agg_folds.specs.Kept.{IsSumOf, bits_of, both_of, joined_best, joined_list, joined_set, met, with_listed, with_member}

-- What is kept of values.

unfoldable pub list_of : Option ℕ → List Value → State
list_of limit vs = state.List (record { limit = limit; values = up_to limit (given vs) })

unfoldable pub set_of : Option ℕ → List Value → State
set_of limit vs = state.Set (record { limit = limit; values = up_to limit (distinct_given vs) })

unfoldable pub greatest_of : List Value → State
greatest_of vs = state.Best (record { prefer = prefer.Greatest; value = greatest vs; place = greatest_row vs })

unfoldable pub least_of : List Value → State
least_of vs = state.Best (record { prefer = prefer.Least; value = least vs; place = least_row vs })

unfoldable pub first_of : Option Kind → List Value → State
first_of kind vs = state.Best (record { prefer = prefer.First; value = first_or_absent kind vs; place = 0 })

unfoldable pub bits_in : BitOp → List Value → State
bits_in o vs = state.Bits (record { op = o; number = reduce (bits_of o) (filter_map number_of vs) })

unfoldable pub state_by : Aggregate → Option Kind → Option ℕ → List Value → State
state_by aggregate.Count kind limit vs = state.Count
state_by aggregate.CountIf kind limit vs = state.Count
state_by aggregate.CountDistinct kind limit vs = state.Distinct (distinct_given vs)
state_by aggregate.CountDistinctIf kind limit vs = state.Distinct (distinct_given vs)
state_by aggregate.Sum kind limit vs = state.Total kind (sum_of vs)
state_by aggregate.SumIf kind limit vs = state.Total kind (sum_of vs)
state_by aggregate.Min kind limit vs = least_of vs
state_by aggregate.MinIf kind limit vs = least_of vs
state_by aggregate.Max kind limit vs = greatest_of vs
state_by aggregate.MaxIf kind limit vs = greatest_of vs
state_by aggregate.MakeList kind limit vs = list_of limit vs
state_by aggregate.MakeListIf kind limit vs = list_of limit vs
state_by aggregate.MakeSet kind limit vs = set_of limit vs
state_by aggregate.MakeSetIf kind limit vs = set_of limit vs
state_by aggregate.ArgMax kind limit vs = greatest_of vs
state_by aggregate.ArgMin kind limit vs = least_of vs
state_by aggregate.TakeAny kind limit vs = first_of kind vs
state_by aggregate.BinaryAllAnd kind limit vs = bits_in op.And vs
state_by aggregate.BinaryAllOr kind limit vs = bits_in op.Or vs
state_by aggregate.BinaryAllXor kind limit vs = bits_in op.Xor vs

unfoldable pub state_of : FoldCall → List Value → State
state_of call vs = state_by call.aggregate call.kind call.limit vs

-- What is kept before a value came.

abbrev pub no_best : Prefer → State
no_best p = state.Best (record { prefer = p; value = value.Null; place = 0 })

abbrev pub no_first : Option Kind → State
no_first kind = state.Best (record { prefer = prefer.First; value = absent_as kind; place = 0 })

abbrev pub no_bits : BitOp → State
no_bits o = state.Bits (record { op = o; number = None })

abbrev pub no_list : Option ℕ → State
no_list limit = state.List (record { limit = limit; values = [] })

abbrev pub no_set : Option ℕ → State
no_set limit = state.Set (record { limit = limit; values = [] })

unfoldable pub started : FoldCall → State
started call = state_of call []

-- What a fold is to contracts: its aggregate, how many values it took, and what it keeps of them.
pub record Kept : Type 0 where
  pub aggregate : Aggregate
  pub count : ℕ
  pub state : State

unfoldable pub kept_of : FoldCall → List Value → Kept
kept_of call vs = record { aggregate = call.aggregate; count = length vs; state = state_of call vs }

-- The fold of rows.
unfoldable pub fold_of : FoldCall → List (List Value) → Kept
fold_of call rows = kept_of call (taken_of call.aggregate rows)

-- One value more, behind so many.
unfoldable pub pushed : State → ℕ → Value → State
pushed state.Count n v = state.Count
pushed (state.Total kind total) n v = state.Total kind (total +ℤ added (number_of v))
pushed (state.Best b) n v = state.Best (met b n v)
pushed (state.Bits b) n v = state.Bits (record { op = b.op; number = both_of b.op b.number (number_of v) })
pushed (state.List l) n v = state.List (record { limit = l.limit; values = with_listed l.limit l.values v })
pushed (state.Set s) n v = state.Set (record { limit = s.limit; values = with_member s.limit s.values v })
pushed (state.Distinct vs) n v = state.Distinct (with_member None vs v)

-- What is kept of others of the same aggregate, behind so many here.
unfoldable pub joined : State → ℕ → State → State
joined (state.Total kind total) n (state.Total _ more) = state.Total kind (total +ℤ more)
joined (state.Best b) n (state.Best c) = state.Best (joined_best b n c)
joined (state.Bits b) n (state.Bits c) = state.Bits (record { op = b.op; number = both_of b.op b.number c.number })
joined (state.List l) n (state.List m) = state.List (record { limit = l.limit; values = joined_list l.limit l.values m.values })
joined (state.Set s) n (state.Set r) = state.Set (record { limit = s.limit; values = joined_set s.limit s.values r.values })
joined (state.Distinct vs) n (state.Distinct more) = state.Distinct (joined_set None vs more)
joined s n _ = s

-- One value more, and what is kept of others.
unfoldable pub with_value : Kept → Value → Kept
with_value k v = record { aggregate = k.aggregate; count = k.count + 1; state = pushed k.state k.count v }

-- One row more, of which a value is taken or none.
unfoldable pub with_taken : Kept → Option Value → Kept
with_taken k None = k
with_taken k (Some v) = with_value k v

unfoldable pub with_row : Kept → List Value → Kept
with_row k row = with_taken k (taken k.aggregate row)

unfoldable pub with_fold : Kept → Kept → Kept
with_fold k l = record { aggregate = k.aggregate; count = k.count + l.count; state = joined k.state k.count l.state }

-- The value that the aggregate has over so many values, of which this is kept.
unfoldable pub value_in : State → ℕ → Value
value_in state.Count n = long_or_null (fit (pos n))
value_in (state.Total kind total) n = fitted kind total
value_in (state.Best b) n = b.value
value_in (state.Bits b) n = long_or_null b.number
value_in (state.List l) n = listed l.values
value_in (state.Set s) n = listed s.values
value_in (state.Distinct vs) n = counted vs

abbrev pub value_of : Kept → Value
value_of k = value_in k.state k.count

-- The place of the value that is chosen.
unfoldable pub place_in : State → ℕ
place_in (state.Best b) = b.place
place_in _ = 0

-- The numbers that are kept of so many values are no larger than these can make them.
unfoldable pub IsBounded : ℕ → State → Type 0
IsBounded n (state.Total kind total) = IsSumOf n total
IsBounded n (state.Best b) = b.place ≤ n
IsBounded n _ = Unit {0}

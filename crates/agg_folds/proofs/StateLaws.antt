-- What is kept of values, value by value.
use Rattle.std.proofs.Common.{◌≡◌, ◌++◌, ◌∷◌, ◌∙◌, ℕ, zero, suc, ℤ, List, [], fold, length, refl, sym, ap}
use Rattle.std.specs.Prelude.{Option, None, Some, pos, ◌+ℤ◌, filter_map}
use Rattle.std.specs.List.{reduce, cons_option}
use Rattle.std.proofs.lemmas.List.{append-nil}
use Rattle.std.proofs.lemmas.List.Elements.{filter_map-append}
use Rattle.std.proofs.lemmas.List.Sums.{fold-append}
use Rattle.kql_cells.specs.declared.value.Kind.{Kind}
use Rattle.kql_cells.specs.declared.value.Value.{Value}
use Rattle.kql_functions.specs.declared.aggregate.Aggregate.{Aggregate}
use Rattle.kql_functions.specs.declared.aggregate.Aggregate.TheVariants as aggregate
use Rattle.kql_scalar_fns.specs.Choice.{greatest, least}
use Rattle.kql_meaning.specs.Aggregates.{combined, distinct_given, given}
use Rattle.kql_meaning.specs.Numbers.{added, counted, sum_of}
use Rattle.kql_meaning.specs.Results.{greatest_row, least_row, row_of}
use Rattle.kql_meaning.specs.Tables.{distinct_by}
use Rattle.kql_meaning.specs.Values.{number_of}
use Rattle.agg_folds.specs.declared.best.Prefer.TheVariants as prefer
use Rattle.agg_folds.specs.declared.bits.BitOp.{BitOp}
use Rattle.agg_folds.specs.declared.bits.BitOp.TheVariants as op
use Rattle.agg_folds.specs.declared.state.State.TheVariants as state
use Rattle.agg_folds.specs.Folds.{first_or_absent, row_by, up_to, value_by}
use Rattle.agg_folds.specs.Kept.{bits_of, both_of, is_better, met}
use Rattle.agg_folds.specs.States.{bits_in, first_of, greatest_of, least_of, list_of, no_best, no_bits, no_first, no_list, no_set, place_in, pushed, set_of, state_by, value_in}
use Rattle.agg_folds.proofs.BestLaws.{greatest-push, least-push, some-rows}
use Rattle.agg_folds.proofs.ListLaws.{distinct-member, listed-push, set-push}

-- Before a value came.

no-greatest : greatest_of [] ≡ no_best prefer.Greatest
unfolding greatest_of greatest greatest_row row_of
no-greatest = refl

no-least : least_of [] ≡ no_best prefer.Least
unfolding least_of least least_row row_of
no-least = refl

no-first : (kind : Option Kind) → first_of kind [] ≡ no_first kind
unfolding first_of first_or_absent
no-first kind = refl

bits-none : (o : BitOp) → bits_in o [] ≡ no_bits o
unfolding bits_in
bits-none o = refl

listed-none : (limit : Option ℕ) → up_to limit (given []) ≡ []
unfolding up_to given
listed-none None = refl
listed-none (Some zero) = refl
listed-none (Some (suc n)) = refl

distinct-none : (limit : Option ℕ) → up_to limit (distinct_given []) ≡ []
unfolding up_to distinct_given given distinct_by
distinct-none None = refl
distinct-none (Some zero) = refl
distinct-none (Some (suc n)) = refl

list-none : (limit : Option ℕ) → list_of limit [] ≡ no_list limit
unfolding list_of
list-none limit = ap (λ vs. state.List (record { limit = limit; values = vs })) (listed-none limit)

set-none : (limit : Option ℕ) → set_of limit [] ≡ no_set limit
unfolding set_of
set-none limit = ap (λ vs. state.Set (record { limit = limit; values = vs })) (distinct-none limit)

module _ (kind : Option Kind) (limit : Option ℕ) where
  pub started-Count : state_by aggregate.Count kind limit [] ≡ state.Count
  unfolding state_by
  started-Count = refl

  pub started-CountIf : state_by aggregate.CountIf kind limit [] ≡ state.Count
  unfolding state_by
  started-CountIf = refl

  pub started-CountDistinct : state_by aggregate.CountDistinct kind limit [] ≡ state.Distinct []
  unfolding state_by distinct_given given distinct_by
  started-CountDistinct = refl

  pub started-CountDistinctIf : state_by aggregate.CountDistinctIf kind limit [] ≡ state.Distinct []
  unfolding state_by distinct_given given distinct_by
  started-CountDistinctIf = refl

  pub started-Sum : state_by aggregate.Sum kind limit [] ≡ state.Total kind (pos 0)
  unfolding state_by sum_of
  started-Sum = refl

  pub started-SumIf : state_by aggregate.SumIf kind limit [] ≡ state.Total kind (pos 0)
  unfolding state_by sum_of
  started-SumIf = refl

  pub started-Min : state_by aggregate.Min kind limit [] ≡ no_best prefer.Least
  unfolding state_by
  started-Min = no-least

  pub started-MinIf : state_by aggregate.MinIf kind limit [] ≡ no_best prefer.Least
  unfolding state_by
  started-MinIf = no-least

  pub started-Max : state_by aggregate.Max kind limit [] ≡ no_best prefer.Greatest
  unfolding state_by
  started-Max = no-greatest

  pub started-MaxIf : state_by aggregate.MaxIf kind limit [] ≡ no_best prefer.Greatest
  unfolding state_by
  started-MaxIf = no-greatest

  pub started-MakeList : state_by aggregate.MakeList kind limit [] ≡ no_list limit
  unfolding state_by
  started-MakeList = list-none limit

  pub started-MakeListIf : state_by aggregate.MakeListIf kind limit [] ≡ no_list limit
  unfolding state_by
  started-MakeListIf = list-none limit

  pub started-MakeSet : state_by aggregate.MakeSet kind limit [] ≡ no_set limit
  unfolding state_by
  started-MakeSet = set-none limit

  pub started-MakeSetIf : state_by aggregate.MakeSetIf kind limit [] ≡ no_set limit
  unfolding state_by
  started-MakeSetIf = set-none limit

  pub started-ArgMax : state_by aggregate.ArgMax kind limit [] ≡ no_best prefer.Greatest
  unfolding state_by
  started-ArgMax = no-greatest

  pub started-ArgMin : state_by aggregate.ArgMin kind limit [] ≡ no_best prefer.Least
  unfolding state_by
  started-ArgMin = no-least

  pub started-TakeAny : state_by aggregate.TakeAny kind limit [] ≡ no_first kind
  unfolding state_by
  started-TakeAny = no-first kind

  pub started-And : state_by aggregate.BinaryAllAnd kind limit [] ≡ no_bits op.And
  unfolding state_by
  started-And = bits-none op.And

  pub started-Or : state_by aggregate.BinaryAllOr kind limit [] ≡ no_bits op.Or
  unfolding state_by
  started-Or = bits-none op.Or

  pub started-Xor : state_by aggregate.BinaryAllXor kind limit [] ≡ no_bits op.Xor
  unfolding state_by
  started-Xor = bits-none op.Xor

pub ruleset started_facts = (started-Count, started-CountIf, started-CountDistinct, started-CountDistinctIf, started-Sum, started-SumIf, started-Min, started-MinIf, started-Max, started-MaxIf, started-MakeList, started-MakeListIf, started-MakeSet, started-MakeSetIf, started-ArgMax, started-ArgMin, started-TakeAny, started-And, started-Or, started-Xor)

-- One value more.

sum-push : (vs : List Value) (v : Value) → sum_of (vs ++ v ∷ []) ≡ sum_of vs +ℤ added (number_of v)
unfolding sum_of
sum-push vs v = fold-append (λ n w. n +ℤ added (number_of w)) (pos 0) vs (v ∷ [])

reduce-push : (f : ℤ → ℤ → ℤ) (o : BitOp) → f ≡ bits_of o → (ns : List ℤ) (n : ℤ) → reduce f (ns ++ n ∷ []) ≡ both_of o (reduce f ns) (Some n)
unfolding both_of
reduce-push f o e [] n = refl
reduce-push f o e (m ∷ ns) n = ap Some (fold-append f m ns (n ∷ []) ∙ ap (λ (g : ℤ → ℤ → ℤ). g (fold f m ns) n) e)

with-none : (o : BitOp) (x : Option ℤ) → both_of o x None ≡ x
unfolding both_of
with-none o None = refl
with-none o (Some n) = refl

bits-more : (o : BitOp) (ns : List ℤ) (n : Option ℤ) → reduce (bits_of o) (ns ++ cons_option n []) ≡ both_of o (reduce (bits_of o) ns) n
bits-more o ns None = ap (reduce (bits_of o)) (append-nil ns) ∙ sym (with-none o (reduce (bits_of o) ns))
bits-more o ns (Some n) = reduce-push (bits_of o) o refl ns n

bits-push : (o : BitOp) (vs : List Value) (v : Value) → bits_in o (vs ++ v ∷ []) ≡ pushed (bits_in o vs) (length vs) v
unfolding bits_in pushed
bits-push o vs v =
    ap (λ n. state.Bits (record { op = o; number = n })) (ap (reduce (bits_of o)) (filter_map-append number_of vs (v ∷ [])) ∙ bits-more o (filter_map number_of vs) (number_of v))

best-greatest : (vs : List Value) (v : Value) → greatest_of (vs ++ v ∷ []) ≡ pushed (greatest_of vs) (length vs) v
unfolding greatest_of pushed
best-greatest vs v = ap state.Best (greatest-push vs v)

best-least : (vs : List Value) (v : Value) → least_of (vs ++ v ∷ []) ≡ pushed (least_of vs) (length vs) v
unfolding least_of pushed
best-least vs v = ap state.Best (least-push vs v)

best-first : (kind : Option Kind) (vs : List Value) (v : Value) → first_of kind (vs ++ v ∷ []) ≡ pushed (first_of kind vs) (length vs) v
unfolding first_of pushed met is_better first_or_absent
best-first kind [] v = refl
best-first kind (w ∷ ws) v = rw (some-rows w ws) refl

list-push : (limit : Option ℕ) (vs : List Value) (v : Value) → list_of limit (vs ++ v ∷ []) ≡ pushed (list_of limit vs) (length vs) v
unfolding list_of pushed
list-push limit vs v = ap (λ ws. state.List (record { limit = limit; values = ws })) (listed-push limit vs v)

members-push : (limit : Option ℕ) (vs : List Value) (v : Value) → set_of limit (vs ++ v ∷ []) ≡ pushed (set_of limit vs) (length vs) v
unfolding set_of pushed
members-push limit vs v = ap (λ ws. state.Set (record { limit = limit; values = ws })) (set-push limit vs v)

pub state-push : (f : Aggregate) (kind : Option Kind) (limit : Option ℕ) (vs : List Value) (v : Value) → state_by f kind limit (vs ++ v ∷ []) ≡ pushed (state_by f kind limit vs) (length vs) v
unfolding state_by pushed
state-push aggregate.Count kind limit vs v = refl
state-push aggregate.CountIf kind limit vs v = refl
state-push aggregate.CountDistinct kind limit vs v = ap state.Distinct (distinct-member vs v)
state-push aggregate.CountDistinctIf kind limit vs v = ap state.Distinct (distinct-member vs v)
state-push aggregate.Sum kind limit vs v = ap (state.Total kind) (sum-push vs v)
state-push aggregate.SumIf kind limit vs v = ap (state.Total kind) (sum-push vs v)
state-push aggregate.Min kind limit vs v = best-least vs v
state-push aggregate.MinIf kind limit vs v = best-least vs v
state-push aggregate.Max kind limit vs v = best-greatest vs v
state-push aggregate.MaxIf kind limit vs v = best-greatest vs v
state-push aggregate.MakeList kind limit vs v = list-push limit vs v
state-push aggregate.MakeListIf kind limit vs v = list-push limit vs v
state-push aggregate.MakeSet kind limit vs v = members-push limit vs v
state-push aggregate.MakeSetIf kind limit vs v = members-push limit vs v
state-push aggregate.ArgMax kind limit vs v = best-greatest vs v
state-push aggregate.ArgMin kind limit vs v = best-least vs v
state-push aggregate.TakeAny kind limit vs v = best-first kind vs v
state-push aggregate.BinaryAllAnd kind limit vs v = bits-push op.And vs v
state-push aggregate.BinaryAllOr kind limit vs v = bits-push op.Or vs v
state-push aggregate.BinaryAllXor kind limit vs v = bits-push op.Xor vs v

-- What is given at the end, and what is chosen.

pub state-value : (f : Aggregate) (kind : Option Kind) (limit : Option ℕ) (vs : List Value) → value_in (state_by f kind limit vs) (length vs) ≡ value_by f kind limit vs
unfolding state_by value_in value_by counted combined greatest_of least_of first_of list_of set_of bits_in bits_of
state-value aggregate.Count kind limit vs = refl
state-value aggregate.CountIf kind limit vs = refl
state-value aggregate.CountDistinct kind limit vs = refl
state-value aggregate.CountDistinctIf kind limit vs = refl
state-value aggregate.Sum kind limit vs = refl
state-value aggregate.SumIf kind limit vs = refl
state-value aggregate.Min kind limit vs = refl
state-value aggregate.MinIf kind limit vs = refl
state-value aggregate.Max kind limit vs = refl
state-value aggregate.MaxIf kind limit vs = refl
state-value aggregate.MakeList kind limit vs = refl
state-value aggregate.MakeListIf kind limit vs = refl
state-value aggregate.MakeSet kind limit vs = refl
state-value aggregate.MakeSetIf kind limit vs = refl
state-value aggregate.ArgMax kind limit vs = refl
state-value aggregate.ArgMin kind limit vs = refl
state-value aggregate.TakeAny kind limit vs = refl
state-value aggregate.BinaryAllAnd kind limit vs = refl
state-value aggregate.BinaryAllOr kind limit vs = refl
state-value aggregate.BinaryAllXor kind limit vs = refl

pub state-place : (f : Aggregate) (kind : Option Kind) (limit : Option ℕ) (vs : List Value) → place_in (state_by f kind limit vs) ≡ row_by f vs
unfolding state_by place_in row_by greatest_of least_of first_of list_of set_of bits_in
state-place aggregate.Count kind limit vs = refl
state-place aggregate.CountIf kind limit vs = refl
state-place aggregate.CountDistinct kind limit vs = refl
state-place aggregate.CountDistinctIf kind limit vs = refl
state-place aggregate.Sum kind limit vs = refl
state-place aggregate.SumIf kind limit vs = refl
state-place aggregate.Min kind limit vs = refl
state-place aggregate.MinIf kind limit vs = refl
state-place aggregate.Max kind limit vs = refl
state-place aggregate.MaxIf kind limit vs = refl
state-place aggregate.MakeList kind limit vs = refl
state-place aggregate.MakeListIf kind limit vs = refl
state-place aggregate.MakeSet kind limit vs = refl
state-place aggregate.MakeSetIf kind limit vs = refl
state-place aggregate.ArgMax kind limit vs = refl
state-place aggregate.ArgMin kind limit vs = refl
state-place aggregate.TakeAny kind limit vs = refl
state-place aggregate.BinaryAllAnd kind limit vs = refl
state-place aggregate.BinaryAllOr kind limit vs = refl
state-place aggregate.BinaryAllXor kind limit vs = refl

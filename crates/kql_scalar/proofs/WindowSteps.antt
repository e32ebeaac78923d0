-- What window functions give, from the values of their arguments.
use Rattle.std.proofs.Common.{◌≡◌, ◌<◌, ◌≤◌, ◌+◌, ◌-◌, ℕ, zero, suc, Bool, true, false, ℤ, pos, negsuc, List, [], ◌∷◌, ◌++◌, length, map, get_or, refl, ap, sym, ◌∙◌, arith}
use Rattle.std.specs.Prelude.{Option, Some, None, nat_le, nat_lt, if◌then◌else◌, slice_get, ◌+ℤ◌, fold, ◌<ℤ◌}
use Rattle.std.specs.List.{range_with_len}
use Rattle.std.proofs.lemmas.List.FromFn.{map-range_with_len_more}
use Rattle.std.proofs.lemmas.List.Sums.{fold-append}
use Rattle.kql_cells.specs.Table.{Grid}
use Rattle.kql_cells.specs.declared.value.Kind.{Kind}
use Rattle.kql_cells.specs.declared.value.Value.{Value}
use Rattle.kql_cells.specs.declared.value.Value.TheVariants as value
use Rattle.kql_functions.specs.declared.func.ArithmeticFunc.TheVariants as arithmetic_func
use Rattle.kql_functions.specs.declared.func.Func.TheVariants as func
use Rattle.kql_functions.specs.declared.window.Window.TheVariants as window
use Rattle.kql_scalar_fns.specs.Applied.{applied}
use Rattle.kql_scalar_fns.specs.Arguments.{argument}
use Rattle.kql_scalar_fns.specs.Arithmetic.{arithmetic}
use Rattle.kql_scalar_fns.specs.Logic.{is_true, truth}
use Rattle.kql_meaning.specs.Expressions.{first_kind, kind_of, reading, val}
use Rattle.kql_meaning.specs.Numbers.{added, fitted, sum_of}
use Rattle.kql_meaning.specs.Readings.{Reading, Records, reading_at, values_over}
use Rattle.kql_meaning.specs.Values.{absent_as, holds, number_of}
use Rattle.kql_meaning.specs.Windows.{count_in, first_number, last_where, rows_away, run_start, running_sum, value_after, value_before, where_none, windowed}
use Rattle.kql_ticks.specs.Ranges.{fit}
use Rattle.kql_scalar.specs.Evaluated.{distance, is_restart, looked_at, looked_step, readings_of, row_after, row_before, sum_over, window_of}
use Rattle.kql_scalar.specs.Means.{IsOfFirst, kind_of_first, means}
use Rattle.kql_scalar.specs.declared.node.Node.{Node}

-- `prev` and `next` look at a row.

looked-before : (c : Reading) (k : ℕ) (d : Value) (t : Grid) (i : ℕ) (s : Records) → value_before c k d t i s ≡ looked_step c d t s (row_before i k)
unfolding value_before row_before
looked-before c k d t i s = by_test (nat_le k i) where
  by_test : (b : Bool) → (if b then c.at t (i - k) s else d) ≡ looked_step c d t s (if b then Some (i - k) else None)
  by_test true = refl
  by_test false = refl

looked-after : (c : Reading) (k : ℕ) (d : Value) (t : Grid) (i : ℕ) (s : Records) → value_after c k d t i s ≡ looked_step c d t s (row_after t i k)
unfolding value_after row_after
looked-after c k d t i s = by_test (nat_lt (i + k) (length t.lines)) where
  by_test : (b : Bool) → (if b then c.at t (i + k) s else d) ≡ looked_step c d t s (if b then Some (i + k) else None)
  by_test true = refl
  by_test false = refl

pub window-Prev : (ns : List Node) (t : Grid) (i : ℕ) (s : Records) (k : ℕ) → k ≡ distance ns t i s → window_of window.Prev ns t i s ≡ looked_at ns (row_before i k) t i s
unfolding window_of windowed looked_at distance
window-Prev ns t i s k e = looked-before _ _ _ t i s ∙ ap (λ j. looked_step (reading_at (readings_of ns) 0) (where_none (reading_at (readings_of ns) 0) (slice_get (readings_of ns) 2) t i s) t s (row_before i j)) (sym e)

pub window-Next : (ns : List Node) (t : Grid) (i : ℕ) (s : Records) (k : ℕ) → k ≡ distance ns t i s → window_of window.Next ns t i s ≡ looked_at ns (row_after t i k) t i s
unfolding window_of windowed looked_at distance
window-Next ns t i s k e = looked-after _ _ _ t i s ∙ ap (λ j. looked_step (reading_at (readings_of ns) 0) (where_none (reading_at (readings_of ns) 0) (slice_get (readings_of ns) 2) t i s) t s (row_after t i j)) (sym e)

pub ruleset window_steps = (window-Prev, window-Next)

-- How far they look.

pub distance-given : (ns : List Node) (n : Node) (t : Grid) (i : ℕ) (s : Records) → 2 ≤ length ns → n ≡ get_or ns 1 n → distance ns t i s ≡ count_in (val (means n) t i s)
unfolding distance readings_of rows_away val
distance-given [] n t i s l is = absurd (omega arith)
distance-given (a ∷ []) n t i s l is = absurd (omega arith)
distance-given (a ∷ b ∷ ns) n t i s l is = ap (λ x. count_in ((reading (means x)).at t i s)) (sym is)

pub distance-one : (ns : List Node) (t : Grid) (i : ℕ) (s : Records) → length ns < 2 → distance ns t i s ≡ 1
unfolding distance readings_of rows_away
distance-one [] t i s l = refl
distance-one (a ∷ []) t i s l = refl
distance-one (a ∷ b ∷ ns) t i s l = absurd (omega arith)

pub ruleset distance_steps = (distance-given, distance-one)

-- What they give there.

pub looked-first : (ns : List Node) (n : Node) (j : ℕ) (t : Grid) (i : ℕ) (s : Records) → 1 ≤ length ns → n ≡ get_or ns 0 n → looked_at ns (Some j) t i s ≡ val (means n) t j s
unfolding looked_at readings_of reading_at val
looked-first [] n j t i s l is = absurd (omega arith)
looked-first (a ∷ ns) n j t i s l is = ap (λ x. (reading (means x)).at t j s) (sym is)

pub looked-empty : (ns : List Node) (j : ℕ) (t : Grid) (i : ℕ) (s : Records) → length ns < 1 → looked_at ns (Some j) t i s ≡ value.Null
unfolding looked_at readings_of reading_at
looked-empty [] j t i s l = refl
looked-empty (a ∷ ns) j t i s l = absurd (omega arith)

pub looked-instead : (ns : List Node) (n : Node) (t : Grid) (i : ℕ) (s : Records) → 3 ≤ length ns → n ≡ get_or ns 2 n → looked_at ns None t i s ≡ val (means n) t i s
unfolding looked_at readings_of reading_at where_none val
looked-instead [] n t i s l is = absurd (omega arith)
looked-instead (a ∷ []) n t i s l is = absurd (omega arith)
looked-instead (a ∷ b ∷ []) n t i s l is = absurd (omega arith)
looked-instead (a ∷ b ∷ c ∷ ns) n t i s l is = ap (λ x. (reading (means x)).at t i s) (sym is)

pub looked-absent : (ns : List Node) (kind : Option Kind) (t : Grid) (i : ℕ) (s : Records) → length ns < 3 → IsOfFirst t.columns ns kind → looked_at ns None t i s ≡ absent_as kind
unfolding looked_at readings_of reading_at where_none kind_of_first first_kind kind_of absent_as
looked-absent [] kind t i s l h = ap absent_as (sym h.same)
looked-absent (a ∷ []) kind t i s l h = ap absent_as (sym h.same)
looked-absent (a ∷ b ∷ []) kind t i s l h = ap absent_as (sym h.same)
looked-absent (a ∷ b ∷ c ∷ ns) kind t i s l h = absurd (omega arith)

pub ruleset look_steps = (looked-first, looked-empty, looked-instead, looked-absent)

-- Where a run starts.

pub start-none : (ns : List Node) (t : Grid) (i : ℕ) (s : Records) → length ns < 2 → run_start (slice_get (readings_of ns) 1) t i s ≡ 0
unfolding readings_of run_start
start-none [] t i s l = refl
start-none (a ∷ []) t i s l = refl
start-none (a ∷ b ∷ ns) t i s l = absurd (omega arith)

pub start-given : (ns : List Node) (n : Node) (t : Grid) (i : ℕ) (s : Records) → 2 ≤ length ns → n ≡ get_or ns 1 n → run_start (slice_get (readings_of ns) 1) t i s ≡ last_where (is_restart n t s) i
unfolding readings_of run_start is_restart val
start-given [] n t i s l is = absurd (omega arith)
start-given (a ∷ []) n t i s l is = absurd (omega arith)
start-given (a ∷ b ∷ ns) n t i s l is = ap (λ x. last_where (λ j. holds ((reading (means x)).at t j s)) i) (sym is)

pub ruleset start_steps = (start-given, start-none)

pub last-true : (test : ℕ → Bool) (i k j : ℕ) → last_where test i ≡ last_where test (i - k) → k < i → j ≡ i - k → test j ≡ true → last_where test i ≡ j
unfolding last_where
last-true test i k j e l is h = e ∙ (ap (last_where test) (sym is) ∙ found j (omega arith) h) where
  found : (m : ℕ) → 0 < m → test m ≡ true → last_where test m ≡ m
  found zero l h = absurd (omega arith)
  found (suc m) l h = rw h refl

pub last-false : (test : ℕ → Bool) (i k j : ℕ) → last_where test i ≡ last_where test (i - k) → k < i → j ≡ i - k → test j ≡ false → last_where test i ≡ last_where test (i - (k + 1))
unfolding last_where
last-false test i k j e l is h = e ∙ (ap (last_where test) (sym is) ∙ (next j (omega arith) h ∙ ap (last_where test) less)) where
  next : (m : ℕ) → 0 < m → test m ≡ false → last_where test m ≡ last_where test (m - 1)
  next zero l h = absurd (omega arith)
  next (suc m) l h = let one : suc m - 1 ≡ m = omega arith in rw (h, one) refl

  less : j - 1 ≡ i - (k + 1)
  less = omega arith

pub last-none : (test : ℕ → Bool) (i k : ℕ) → last_where test i ≡ last_where test (i - k) → i ≤ k → last_where test i ≡ 0
unfolding last_where
last-none test i k e l = let none : i - k ≡ 0 = omega arith in e ∙ rw none refl

pub last-first : (test : ℕ → Bool) (i : ℕ) → last_where test i ≡ last_where test (i - 0)
last-first test i = let same : i - 0 ≡ i = omega arith in rw same refl

pub restart-tested : (n : Node) (t : Grid) (s : Records) (j : ℕ) (known : Option Bool) (test answer : Bool) → known ≡ truth (val (means n) t j s) → test ≡ is_true known → test ≡ answer → is_restart n t s j ≡ answer
unfolding is_restart holds
restart-tested n t s j known test answer e f g = sym (ap is_true e) ∙ (sym f ∙ g)

pub ruleset restart_steps = (last-true, last-false, last-none, last-first)

-- Sums.

pub sum-none : (n : Node) (t : Grid) (s : Records) (from : ℕ) → sum_over n t s from from ≡ pos 0
unfolding sum_over sum_of
sum-none n t s from = let none : from - from ≡ 0 = omega arith in rw none refl

sum-append : (vs : List Value) (v : Value) → sum_of (vs ++ v ∷ []) ≡ sum_of vs +ℤ added (number_of v)
unfolding sum_of
sum-append vs v = fold-append (λ n w. n +ℤ added (number_of w)) (pos 0) vs (v ∷ [])

pub sum-more : (n : Node) (t : Grid) (s : Records) (from j : ℕ) → from ≤ j → sum_over n t s from (j + 1) ≡ sum_over n t s from j +ℤ added (number_of (val (means n) t j s))
unfolding sum_over
sum-more n t s from j l =
    let on : (j + 1) - from ≡ (j - from) + 1 = omega arith in
    let at : from + (j - from) ≡ j = omega arith in
    rw (on, map-range_with_len_more (λ i. val (means n) t i s) from (j - from) j at) (sum-append _ _)

pub ruleset between_steps = (sum-none, sum-more)

pub sum-given : (ns : List Node) (n : Node) (kind : Option Kind) (t : Grid) (i : ℕ) (s : Records) (b : ℕ) (x : ℤ) → 1 ≤ length ns → n ≡ get_or ns 0 n → IsOfFirst t.columns ns kind → b ≡ run_start (slice_get (readings_of ns) 1) t i s → x ≡ sum_over n t s b (i + 1) → fitted kind x ≡ window_of window.RowCumsum ns t i s
unfolding window_of windowed running_sum readings_of reading_at sum_over values_over val kind_of_first first_kind kind_of
sum-given [] n kind t i s b x l is h start e = absurd (omega arith)
sum-given (a ∷ ns) n kind t i s b x l is h start e = rw (h.same, e, start, is) refl

nulls-add : (n : ℤ) (is : List ℕ) → fold (λ m v. m +ℤ added (number_of v)) n (map (λ (i : ℕ). value.Null) is) ≡ n
unfolding added number_of
nulls-add n [] = refl
nulls-add n (i ∷ is) = ap (λ m. fold (λ m v. m +ℤ added (number_of v)) m (map (λ (i : ℕ). value.Null) is)) (grind arith) ∙ nulls-add n is

pub sum-empty : (ns : List Node) (t : Grid) (i : ℕ) (s : Records) → length ns < 1 → value.Long (pos 0) ≡ window_of window.RowCumsum ns t i s
unfolding window_of windowed running_sum readings_of reading_at values_over fitted fit sum_of
sum-empty [] t i s l = rw (nulls-add (pos 0) (range_with_len (run_start None t i s) (i + 1 - run_start None t i s))) refl
sum-empty (a ∷ ns) t i s l = absurd (omega arith)

pub ruleset sum_steps = (sum-given, sum-empty)

-- Numbers of rows.

pub number-given : (ns : List Node) (n : Node) (t : Grid) (i : ℕ) (s : Records) (b : ℕ) → 1 ≤ length ns → n ≡ get_or ns 0 n → b ≡ run_start (slice_get (readings_of ns) 1) t i s → applied (func.Arithmetic arithmetic_func.Add) (val (means n) t i s ∷ value.Long (pos (i - b)) ∷ []) ≡ window_of window.RowNumber ns t i s
unfolding window_of windowed readings_of first_number applied arithmetic argument val
number-given [] n t i s b l is start = absurd (omega arith)
number-given (a ∷ ns) n t i s b l is start = rw (start, is) refl

pub number-empty : (ns : List Node) (t : Grid) (i : ℕ) (s : Records) (b : ℕ) → length ns < 1 → b ≡ run_start (slice_get (readings_of ns) 1) t i s → applied (func.Arithmetic arithmetic_func.Add) (value.Long (pos 1) ∷ value.Long (pos (i - b)) ∷ []) ≡ window_of window.RowNumber ns t i s
unfolding window_of windowed readings_of first_number applied arithmetic argument
number-empty [] t i s b l start = rw start refl
number-empty (a ∷ ns) t i s b l start = absurd (omega arith)

pub ruleset number_steps = (number-given, number-empty)

-- Counts.

pub count-below : (n : ℤ) → n <ℤ pos 0 → count_in (value.Long n) ≡ 0
unfolding count_in
count-below (pos n) l = absurd (grind arith)
count-below (negsuc n) l = refl

pub count-pos : (n : ℕ) → count_in (value.Long (pos n)) ≡ n
unfolding count_in
count-pos n = refl

pub ruleset count_steps = (count-below, count-pos)

-- What `row_cumsum` and `row_number` give at so many rows of a table from a row on, from the columns of their arguments.
use Rattle.std.proofs.Common.{◌≡◌, ◌<◌, ◌≤◌, ◌+◌, ◌-◌, ◌^◌, ℕ, zero, suc, Bool, false, ℤ, List, [], ◌∷◌, ◌++◌, length, map, get_or, refl, ap, ap₂, sym, ◌∙◌, subst, inl, inr, arith}
use Rattle.std.specs.Prelude.{IfSome, Option, None, Some, pos, ◌+ℤ◌, slice_get}
use Rattle.std.specs.List.{range_with_len}
use Rattle.std.proofs.lemmas.Bool.{cases_Bool}
use Rattle.std.proofs.lemmas.List.FromFn.{map-range_with_len_more}
use Rattle.std.proofs.lemmas.List.Sums.{fold-append}
use Rattle.kql_cells.specs.Table.{Grid}
use Rattle.kql_cells.specs.declared.value.Kind.{Kind}
use Rattle.kql_cells.specs.declared.value.Value.{Value}
use Rattle.kql_cells.specs.declared.value.Value.TheVariants as value
use Rattle.kql_functions.specs.Names.{window_name}
use Rattle.kql_functions.specs.declared.window.Window.TheVariants as window
use Rattle.kql_scalar_fns.specs.Arithmetic.{sum}
use Rattle.kql_bound.specs.declared.expr.BExpr.{BExpr}
use Rattle.kql_meaning.specs.Expressions.{kind_of, reading, val}
use Rattle.kql_meaning.specs.Numbers.{added, fitted, sum_of}
use Rattle.kql_meaning.specs.Readings.{reading_at, values_over}
use Rattle.kql_meaning.specs.Values.{number_of}
use Rattle.kql_meaning.specs.Windows.{first_number, last_where, run_start, running_sum, windowed}
use Rattle.window_ops.specs.Calls.{adds, begins, call_of, carry_of, restart_of, term_named, term_of}
use Rattle.window_ops.specs.Carries.{Carried, carried, no_rows, run_on, stepped}
use Rattle.window_ops.specs.Columns.{given_from, values_from, window_down}
use Rattle.window_ops.specs.Running.{number_at, restart_at, row_numbers, run_to, running_sums, start_at, sum_at, term_at}
use Rattle.window_ops.proofs.ArgumentSteps.{fit-first, long-given, run-given}
use Rattle.window_ops.proofs.CarryLaws.{carried-few, run-on-all}
use Rattle.window_ops.proofs.DownSteps.{down-at, down-long}
use Rattle.row_ops.proofs.ItemColumnFacts.{map-range-same}

-- The run: it begins at the last row at which the restart is true.

never : (i : ℕ) → last_where (λ j. false) i ≡ 0
unfolding last_where
never zero = refl
never (suc i) = never i

last-below : (p : ℕ → Bool) (i : ℕ) → last_where p i ≤ i
unfolding last_where
last-below p zero = omega arith
last-below p (suc i) = elim (cases_Bool (p (suc i))) [
  | inl e ↦ rw e (omega arith)
  | inr e ↦ rw e (let l = last-below p i in omega (arith, l))
]

run-is : (args : List BExpr) (t : Grid) (i : ℕ) → last_where (begins (slice_get args 1) t) i ≡ run_start (slice_get (map reading args) 1) t i []
unfolding begins run_start val
run-is [] t i = never i
run-is (a ∷ []) t i = never i
run-is (a ∷ b ∷ args) t i = refl

-- How many rows the run up to a row has.
count-is : (restarts : ℕ → Bool) (f : ℕ → ℤ) (i : ℕ) → (run_on restarts f no_rows (suc i)).count + last_where restarts i ≡ suc i
unfolding run_on stepped last_where
count-is restarts f zero = elim (cases_Bool (restarts zero)) [
  | inl e ↦ rw e refl
  | inr e ↦ rw e refl
]
count-is restarts f (suc i) = elim (cases_Bool (restarts (suc i))) [
  | inl e ↦ rw e (omega arith)
  | inr e ↦ rw e (let h = count-is restarts f i in omega (arith, h))
]

-- Sums.

sum-append : (vs : List Value) (v : Value) → sum_of (vs ++ v ∷ []) ≡ sum_of vs +ℤ added (number_of v)
unfolding sum_of
sum-append vs v = fold-append (λ n w. n +ℤ added (number_of w)) (pos 0) vs (v ∷ [])

abbrev sum_from : (ℕ → Value) → ℕ → ℕ → ℤ
sum_from v b i = sum_of (map v (range_with_len b (i + 1 - b)))

sum-one : (v : ℕ → Value) (i : ℕ) → sum_from v i i ≡ pos 0 +ℤ added (number_of (v i))
unfolding sum_of
sum-one v i = let one : i + 1 - i ≡ 1 = omega arith in rw one refl

sum-more : (v : ℕ → Value) (b i : ℕ) → b ≤ i → sum_from v b (suc i) ≡ sum_from v b i +ℤ added (number_of (v (suc i)))
sum-more v b i l =
    let on : suc i + 1 - b ≡ (i + 1 - b) + 1 = omega arith in
    let at : b + (i + 1 - b) ≡ suc i = omega arith in
    rw (on, map-range_with_len_more v b (i + 1 - b) (suc i) at) (sum-append _ _)

abbrev adding : (ℕ → Value) → ℕ → ℤ
adding v j = added (number_of (v j))

sum-is : (restarts : ℕ → Bool) (v : ℕ → Value) (i : ℕ) → (run_on restarts (adding v) no_rows (suc i)).sum ≡ sum_from v (last_where restarts i) i
unfolding run_on stepped last_where
sum-is restarts v zero = elim (cases_Bool (restarts zero)) [
  | inl e ↦ rw e (sym (sum-one v 0))
  | inr e ↦ rw e (sym (sum-one v 0))
]
sum-is restarts v (suc i) = elim (cases_Bool (restarts (suc i))) [
  | inl e ↦ rw e (sym (sum-one v (suc i)))
  | inr e ↦ rw e (ap (λ n. n +ℤ adding v (suc i)) (sum-is restarts v i) ∙ sym (sum-more v (last_where restarts i) i (last-below restarts i)))
]

-- The carry up to a row of the columns, from that of the rows in front of them.
run-before : (r o : Option BExpr) (t : Grid) (from n k : ℕ) (c : Carried) → k < n → c ≡ carried (begins r t) (adds o t) 0 from → run_to (given_from r t from n) (given_from o t from n) c k ≡ run_on (begins r t) (adds o t) no_rows (suc (from + k))
unfolding run_to
run-before r o t from n k c lt is =
    let next : from + (k + 1) ≡ suc (from + k) = omega arith in
    ap (λ (d : Carried). run_on (restart_at (given_from r t from n)) (term_at (given_from o t from n)) d (k + 1)) is
    ∙ (run-given r o t 0 from n (k + 1) (omega arith) (omega (arith, lt))
    ∙ (ap (carried (begins r t) (adds o t) 0) next
    ∙ sym (run-on-all (begins r t) (adds o t) (suc (from + k)))))

sum-carry : (a : BExpr) (args : List BExpr) (t : Grid) (from : ℕ) → carry_of (call_of window.RowCumsum (a ∷ args)) t 0 from ≡ carried (begins (slice_get (a ∷ args) 1) t) (adds (Some a) t) 0 from
unfolding carry_of call_of restart_of term_of term_named window_name
sum-carry a args t from = refl

sum-row : (a : BExpr) (args : List BExpr) (t : Grid) (from n k : ℕ) (c : Carried) → k < n → c ≡ carry_of (call_of window.RowCumsum (a ∷ args)) t 0 from → (run_to (given_from (slice_get (a ∷ args) 1) t from n) (Some (values_from a t from n)) c k).sum ≡ sum_from (λ j. val a t j []) (run_start (slice_get (map reading (a ∷ args)) 1) t (from + k) []) (from + k)
unfolding given_from adds
sum-row a args t from n k c lt is =
    ap (λ (d : Carried). d.sum) (run-before (slice_get (a ∷ args) 1) (Some a) t from n k c lt (is ∙ sum-carry a args t from))
    ∙ (sum-is (begins (slice_get (a ∷ args) 1) t) (λ j. val a t j []) (from + k)
    ∙ ap (λ b. sum_from (λ j. val a t j []) b (from + k)) (run-is (a ∷ args) t (from + k)))

sum-windowed : (a : BExpr) (args : List BExpr) (t : Grid) (from n k : ℕ) (c : Carried) → k < n → c ≡ carry_of (call_of window.RowCumsum (a ∷ args)) t 0 from → sum_at (kind_of a t.columns) (given_from (slice_get (a ∷ args) 1) t from n) (values_from a t from n) c k ≡ windowed window.RowCumsum (map reading (a ∷ args)) t (from + k) []
unfolding sum_at windowed running_sum reading_at values_over kind_of val
sum-windowed a args t from n k c lt is = ap (fitted ((reading a).kind t.columns)) (sum-row a args t from n k c lt is)

pub sum-column : (args : List BExpr) (t : Grid) (from n : ℕ) (a : BExpr) (kind : Option Kind) (restarts : Option (List Value)) (terms v : List Value) (c : Carried) → 1 ≤ length args → a ≡ get_or args 0 a → kind ≡ kind_of a t.columns → restarts ≡ given_from (slice_get args 1) t from n → terms ≡ values_from a t from n → c ≡ carry_of (call_of window.RowCumsum args) t 0 from → v ≡ running_sums kind restarts terms c → v ≡ window_down window.RowCumsum args t from n
unfolding running_sums window_down
sum-column [] t from n a kind restarts terms v c l is k r e before made = absurd (omega arith)
sum-column (b ∷ args) t from n a kind restarts terms v c l is k r e before made =
    made
    ∙ (rw (k, r, e, is, down-long b t from n)
    (map-range-same (sum_at (kind_of b t.columns) (given_from (slice_get (b ∷ args) 1) t from n) (values_from b t from n) c) (λ k. windowed window.RowCumsum (map reading (b ∷ args)) t (from + k) []) 0 n (λ k lt. sum-windowed b args t from n k c (omega (arith, lt)) before)))

pub sum-long : (args : List BExpr) (t : Grid) (from n : ℕ) (a : BExpr) (restarts : Option (List Value)) (terms : List Value) → restarts ≡ given_from (slice_get args 1) t from n → terms ≡ values_from a t from n → IfSome restarts (λ rs. length rs ≡ length terms)
sum-long args t from n a restarts terms r e =
    subst (λ m. IfSome restarts (λ rs. length rs ≡ m)) (sym (ap length e ∙ down-long a t from n)) (long-given (slice_get args 1) t from n restarts r)

few : (b : ℕ → Bool) (f : ℕ → ℤ) (from n m rows : ℕ) → from + n ≤ m → rows ≡ m → rows < 2 ^ 63 → (carried b f 0 from).count + n < 2 ^ 63
few b f from n m rows l same small = let h = carried-few b f 0 from in omega (arith, h, l, same, small)

pub sum-few : (args : List BExpr) (t : Grid) (from n rows : ℕ) (a : BExpr) (terms : List Value) (c : Carried) → terms ≡ values_from a t from n → c ≡ carry_of (call_of window.RowCumsum args) t 0 from → from + n ≤ length t.lines → rows ≡ length t.lines → rows < 2 ^ 63 → c.count + length terms < 2 ^ 63
unfolding carry_of
sum-few args t from n rows a terms c e before l same small =
    let w = call_of window.RowCumsum args in
    let h = few (begins (restart_of w) t) (adds (term_of w) t) from n (length t.lines) rows l same small in
    let count = ap (λ (x : Carried). x.count) before in
    let long = ap length e ∙ down-long a t from n in
    omega (arith, h, count, long)

pub ruleset sum_steps = (fit-first, sum-column, sum-long, sum-few)

-- Numbers of rows.

first-is : (args : List BExpr) (t : Grid) (from n k : ℕ) → k < n → start_at (given_from (slice_get args 0) t from n) k ≡ first_number (slice_get (map reading args) 0) t (from + k) []
unfolding start_at given_from first_number val
first-is [] t from n k lt = refl
first-is (a ∷ args) t from n k lt = down-at a t from n k lt

number-carry : (args : List BExpr) (t : Grid) (from : ℕ) → carry_of (call_of window.RowNumber args) t 0 from ≡ carried (begins (slice_get args 1) t) (adds None t) 0 from
unfolding carry_of call_of restart_of term_of term_named window_name
number-carry args t from = refl

number-row : (args : List BExpr) (t : Grid) (from n k : ℕ) (c : Carried) → k < n → c ≡ carry_of (call_of window.RowNumber args) t 0 from → (run_to (given_from (slice_get args 1) t from n) None c k).count - 1 ≡ (from + k) - run_start (slice_get (map reading args) 1) t (from + k) []
unfolding given_from
number-row args t from n k c lt is =
    let run = ap (λ (d : Carried). d.count) (run-before (slice_get args 1) None t from n k c lt (is ∙ number-carry args t from)) in
    let count = count-is (begins (slice_get args 1) t) (adds None t) (from + k) in
    let start = run-is args t (from + k) in
    omega (arith, run, count, start)

number-windowed : (args : List BExpr) (t : Grid) (from n k : ℕ) (c : Carried) → k < n → c ≡ carry_of (call_of window.RowNumber args) t 0 from → number_at (given_from (slice_get args 0) t from n) (given_from (slice_get args 1) t from n) c k ≡ windowed window.RowNumber (map reading args) t (from + k) []
unfolding number_at windowed
number-windowed args t from n k c lt is =
    ap₂ (λ (v : Value) (m : ℕ). sum v (value.Long (pos m))) (first-is args t from n k lt) (number-row args t from n k c lt is)

pub number-column : (args : List BExpr) (t : Grid) (from n : ℕ) (starts restarts : Option (List Value)) (v : List Value) (c : Carried) → starts ≡ given_from (slice_get args 0) t from n → restarts ≡ given_from (slice_get args 1) t from n → c ≡ carry_of (call_of window.RowNumber args) t 0 from → v ≡ row_numbers n starts restarts c → v ≡ window_down window.RowNumber args t from n
unfolding row_numbers window_down
number-column args t from n starts restarts v c s r before made =
    made
    ∙ (rw (s, r)
    (map-range-same (number_at (given_from (slice_get args 0) t from n) (given_from (slice_get args 1) t from n) c) (λ k. windowed window.RowNumber (map reading args) t (from + k) []) 0 n (λ k lt. number-windowed args t from n k c (omega (arith, lt)) before)))

pub number-few : (args : List BExpr) (t : Grid) (from n rows : ℕ) (c : Carried) → c ≡ carry_of (call_of window.RowNumber args) t 0 from → from + n ≤ length t.lines → rows ≡ length t.lines → rows < 2 ^ 63 → c.count + n < 2 ^ 63
unfolding carry_of
number-few args t from n rows c before l same small =
    let w = call_of window.RowNumber args in
    let h = few (begins (restart_of w) t) (adds (term_of w) t) from n (length t.lines) rows l same small in
    let count = ap (λ (x : Carried). x.count) before in
    omega (arith, h, count)

pub ruleset number_steps = (number-column, long-given, number-few)

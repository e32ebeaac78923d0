-- The columns of the arguments of a call.
use Rattle.std.proofs.Common.{◌≡◌, ◌<◌, ◌≤◌, ◌+◌, ℕ, Bool, true, false, List, [], ◌∷◌, length, get_or, refl, ap, sym, ◌∙◌, subst, arith}
use Rattle.std.specs.Prelude.{IfSome, Option, None, Some, bytes_eq, if◌then◌else◌, slice_get}
use Rattle.kql_cells.specs.Table.{Grid}
use Rattle.kql_cells.specs.declared.schema.Column.{Column}
use Rattle.kql_cells.specs.declared.value.Value.{Value}
use Rattle.kql_functions.specs.Names.{window_name}
use Rattle.kql_functions.specs.declared.window.Window.TheVariants as window
use Rattle.kql_bound.specs.declared.expr.BExpr.{BExpr}
use Rattle.kql_meaning.specs.Numbers.{added}
use Rattle.kql_meaning.specs.Values.{holds, number_of}
use Rattle.window_ops.specs.Calls.{adds, begins, term_named}
use Rattle.window_ops.specs.Carries.{carried, run_on}
use Rattle.window_ops.specs.Columns.{given_from, values_from}
use Rattle.window_ops.specs.Fitting.{AllFitRows, FitsRows}
use Rattle.window_ops.specs.Running.{restart_at, term_at}
use Rattle.window_ops.proofs.CarryLaws.{run-on-carried, run-on-same}
use Rattle.window_ops.proofs.DownSteps.{down-at, down-long}
use Rattle.window_ops.proofs.FitSteps.{fitting_item}

pub fit-first : (cs : List Column) (args : List BExpr) (a : BExpr) → AllFitRows cs args → 1 ≤ length args → a ≡ get_or args 0 a → FitsRows cs a
fit-first cs args a h l is = fitting_item cs args 0 a h (omega (arith, l)) is

pub fit-second : (cs : List Column) (args : List BExpr) (a : BExpr) → AllFitRows cs args → 2 ≤ length args → a ≡ get_or args 1 a → FitsRows cs a
fit-second cs args a h l is = fitting_item cs args 1 a h (omega (arith, l)) is

pub first-none : (args : List BExpr) (t : Grid) (from n : ℕ) → length args < 1 → None ≡ given_from (slice_get args 0) t from n
unfolding given_from
first-none [] t from n l = refl
first-none (a ∷ args) t from n l = absurd (omega arith)

pub first-some : (args : List BExpr) (t : Grid) (from n : ℕ) (a : BExpr) (v : List Value) → 1 ≤ length args → a ≡ get_or args 0 a → v ≡ values_from a t from n → Some v ≡ given_from (slice_get args 0) t from n
unfolding given_from
first-some [] t from n a v l is e = absurd (omega arith)
first-some (b ∷ args) t from n a v l is e = ap Some (e ∙ ap (λ x. values_from x t from n) is)

pub second-none : (args : List BExpr) (t : Grid) (from n : ℕ) → length args < 2 → None ≡ given_from (slice_get args 1) t from n
unfolding given_from
second-none [] t from n l = refl
second-none (a ∷ []) t from n l = refl
second-none (a ∷ b ∷ args) t from n l = absurd (omega arith)

pub second-some : (args : List BExpr) (t : Grid) (from n : ℕ) (a : BExpr) (v : List Value) → 2 ≤ length args → a ≡ get_or args 1 a → v ≡ values_from a t from n → Some v ≡ given_from (slice_get args 1) t from n
unfolding given_from
second-some [] t from n a v l is e = absurd (omega arith)
second-some (b ∷ []) t from n a v l is e = absurd (omega arith)
second-some (b ∷ c ∷ args) t from n a v l is e = ap Some (e ∙ ap (λ x. values_from x t from n) is)

pub ruleset argument_steps = (fit-first, fit-second, first-none, first-some, second-none, second-some)

pub term-sum : (name row_cumsum : List ℕ) (args : List BExpr) (t : Grid) (from n : ℕ) (test : Bool) (o : Option (List Value)) → row_cumsum ≡ window_name window.RowCumsum → test ≡ bytes_eq name row_cumsum → test ≡ true → o ≡ given_from (slice_get args 0) t from n → o ≡ given_from (term_named name args) t from n
unfolding term_named
term-sum name row_cumsum args t from n test o w e h is =
    let sum : bytes_eq name (window_name window.RowCumsum) ≡ true = sym (ap (bytes_eq name) w) ∙ (sym e ∙ h) in
    is ∙ ap (λ b. given_from (if b then slice_get args 0 else None) t from n) (sym sum)

pub term-other : (name row_cumsum : List ℕ) (args : List BExpr) (t : Grid) (from n : ℕ) (test : Bool) → row_cumsum ≡ window_name window.RowCumsum → test ≡ bytes_eq name row_cumsum → test ≡ false → None ≡ given_from (term_named name args) t from n
unfolding term_named given_from
term-other name row_cumsum args t from n test w e h =
    let other : bytes_eq name (window_name window.RowCumsum) ≡ false = sym (ap (bytes_eq name) w) ∙ (sym e ∙ h) in
    ap (λ b. given_from (if b then slice_get args 0 else None) t from n) (sym other)

pub ruleset term_steps = (term-sum, term-other)

-- Their lengths.

given-long : (o : Option BExpr) (t : Grid) (from n : ℕ) → IfSome (given_from o t from n) (λ vs. length vs ≡ n)
unfolding given_from
given-long None t from n = tt
given-long (Some e) t from n = down-long e t from n

pub long-given : (o : Option BExpr) (t : Grid) (from n : ℕ) (vs : Option (List Value)) → vs ≡ given_from o t from n → IfSome vs (λ v. length v ≡ n)
long-given o t from n vs is = subst (λ p. IfSome p (λ v. length v ≡ n)) (sym is) (given-long o t from n)

-- The rows of a range behind another.

begins-at : (o : Option BExpr) (t : Grid) (from n k : ℕ) → k < n → restart_at (given_from o t from n) k ≡ begins o t (from + k)
unfolding restart_at given_from begins
begins-at None t from n k lt = refl
begins-at (Some e) t from n k lt = ap holds (down-at e t from n k lt)

adds-at : (o : Option BExpr) (t : Grid) (from n k : ℕ) → k < n → term_at (given_from o t from n) k ≡ adds o t (from + k)
unfolding term_at given_from adds
adds-at None t from n k lt = refl
adds-at (Some e) t from n k lt = ap (λ v. added (number_of v)) (down-at e t from n k lt)

-- The carry of the rows from a start on, and so many rows more of the columns behind them.
pub run-given : (r o : Option BExpr) (t : Grid) (start from n k : ℕ) → start ≤ from → k ≤ n → run_on (restart_at (given_from r t from n)) (term_at (given_from o t from n)) (carried (begins r t) (adds o t) start from) k ≡ carried (begins r t) (adds o t) start (from + k)
run-given r o t start from n k l m =
    run-on-same (restart_at (given_from r t from n)) (λ j. begins r t (from + j)) (term_at (given_from o t from n)) (λ j. adds o t (from + j)) (carried (begins r t) (adds o t) start from) n k
    (λ j lt. begins-at r t from n j lt) (λ j lt. adds-at o t from n j lt) m
    ∙ run-on-carried (begins r t) (adds o t) start from k l

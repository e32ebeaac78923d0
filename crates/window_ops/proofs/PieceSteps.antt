-- The carry of a range of rows.
use Rattle.std.proofs.Common.{◌≡◌, ◌<◌, ◌≤◌, ◌+◌, ◌-◌, ◌^◌, ℕ, List, ap, ap₂, subst, sym, ◌∙◌, arith}
use Rattle.std.specs.Prelude.{Option, slice_get}
use Rattle.kql_cells.specs.Table.{Grid}
use Rattle.kql_cells.specs.declared.schema.Column.{Column}
use Rattle.kql_cells.specs.declared.value.Value.{Value}
use Rattle.kql_bound.specs.declared.expr.BExpr.{BExpr}
use Rattle.kql_bound.specs.declared.expr.WinCall.{WinCall}
use Rattle.window_ops.specs.Calls.{adds, begins, carry_of, restart_of, term_named, term_of}
use Rattle.window_ops.specs.Carries.{Carried, no_rows, run_on}
use Rattle.window_ops.specs.Columns.{given_from}
use Rattle.window_ops.specs.Fitting.{AllFitRows}
use Rattle.window_ops.specs.Running.{restart_at, term_at}
use Rattle.window_ops.proofs.ArgumentSteps.{long-given, run-given}
use Rattle.window_ops.proofs.CarryLaws.{carried-none}

carry-over : (w : WinCall) (t : Grid) (from n : ℕ) → run_on (restart_at (given_from (restart_of w) t from n)) (term_at (given_from (term_of w) t from n)) no_rows n ≡ carry_of w t from (from + n)
unfolding carry_of
carry-over w t from n =
    let b = begins (restart_of w) t in
    let f = adds (term_of w) t in
    let rs = restart_at (given_from (restart_of w) t from n) in
    let ts = term_at (given_from (term_of w) t from n) in
    ap (λ (c : Carried). run_on rs ts c n) (sym (carried-none b f from from (omega arith)))
    ∙ run-given (restart_of w) (term_of w) t from from n n (omega arith) (omega arith)

pub piece-carry : (w : WinCall) (t : Grid) (from to n : ℕ) (name : List ℕ) (args : List BExpr) (rs ts : Option (List Value)) (before c : Carried) → from ≤ to → n ≡ to - from → name ≡ w.name → args ≡ w.args → rs ≡ given_from (slice_get args 1) t from n → ts ≡ given_from (term_named name args) t from n → before ≡ no_rows → c ≡ run_on (restart_at rs) (term_at ts) before n → c ≡ carry_of w t from to
unfolding restart_of term_of
piece-carry w t from to n name args rs ts before c l count named given r e none made =
    let end : from + n ≡ to = omega (arith, l, count) in
    let restarts : rs ≡ given_from (restart_of w) t from n = r ∙ ap (λ (es : List BExpr). given_from (slice_get es 1) t from n) given in
    let terms : ts ≡ given_from (term_of w) t from n = e ∙ ap₂ (λ (ns : List ℕ) (es : List BExpr). given_from (term_named ns es) t from n) named given in
    made
    ∙ (ap₂ (λ (p q : Option (List Value)). run_on (restart_at p) (term_at q) before n) restarts terms
    ∙ (ap (λ (d : Carried). run_on (restart_at (given_from (restart_of w) t from n)) (term_at (given_from (term_of w) t from n)) d n) none
    ∙ (carry-over w t from n ∙ ap (carry_of w t from) end)))

pub piece-range : (from to m : ℕ) → from ≤ to → to ≤ m → from + (to - from) ≤ m
piece-range from to m l k = omega (arith, l, k)

pub piece-few : (from to m n : ℕ) (c : Carried) → c ≡ no_rows → n ≡ m → n < 2 ^ 63 → to ≤ m → c.count + (to - from) < 2 ^ 63
piece-few from to m n c none same small l =
    let zero : c.count ≡ 0 = ap (λ (x : Carried). x.count) none in
    omega (arith, zero, same, small, l)

pub call-carry : (w : WinCall) (t : Grid) (from to : ℕ) (name : List ℕ) (args : List BExpr) (c : Carried) → name ≡ w.name → args ≡ w.args → c ≡ carry_of (record { name = name; args = args }) t from to → c ≡ carry_of w t from to
call-carry w t from to name args c named given made = made ∙ ap₂ (λ (ns : List ℕ) (es : List BExpr). carry_of (record { name = ns; args = es }) t from to) named given

pub call-fits : (w : WinCall) (cs : List Column) (args : List BExpr) → AllFitRows cs w.args → args ≡ w.args → AllFitRows cs args
call-fits w cs args h given = subst (AllFitRows cs) (sym given) h

pub ruleset call_steps = (call-carry, call-fits)

pub ruleset piece_steps = (long-given, piece-carry, piece-range, piece-few)

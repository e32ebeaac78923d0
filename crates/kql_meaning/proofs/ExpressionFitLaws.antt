-- The equations of `expr_fits`, one for each variant of an expression, and of what is asked of an expression alone.
use Rattle.std.proofs.Common.{◌≡◌, ◌<◌, ℕ, zero, suc, Bool, true, false, List, [], ◌∷◌, get_or, length, map, refl, sym, ap, ◌∙◌, arith}
use Rattle.std.specs.Prelude.{◌&&◌, None, Some, is_some}
use Rattle.std.specs.List.{list_all}
use Rattle.kql_cells.specs.declared.value.Kind.TheVariants as kind
use Rattle.kql_functions.specs.Kinds.{same_kind}
use Rattle.kql_functions.specs.declared.func.Func.{Func}
use Rattle.kql_functions.specs.declared.aggregate.Aggregate.{Aggregate}
use Rattle.kql_bound.specs.declared.expr.BExpr.{BExpr, out-BExpr, out-roll-BExpr, para-roll-BExpr}
use Rattle.kql_bound.specs.declared.expr.BExpr.TheOpen.{BExpr-F}
use Rattle.kql_bound.specs.declared.expr.BExpr.TheVariants as V
use Rattle.kql_bound.specs.declared.expr.ChainSign.{ChainSign}
use Rattle.kql_bound.specs.declared.expr.StepColumn.{StepColumn}
use Rattle.kql_functions.specs.declared.window.Window.{Window}
use Rattle.kql_bound.specs.declared.literal.Lit.{Lit}
use Rattle.kql_meaning.specs.declared.position.Position.{Position}
use Rattle.kql_meaning.specs.declared.position.Position.TheVariants as position
use Rattle.kql_meaning.specs.Expressions.{call_kind, kind_along, kind_down, kind_of, kinds_in}
use Rattle.kql_meaning.specs.FittingExpressions.{Checked, Scope, aggregate_fits, aggregate_takes, all_fit, call_or_expr_fits, call_or_expr_fits_step, checked_args, column_of, column_step, expr_fits, exprs_of, fits_as, fits_step, is_addable, is_aggregate_call, is_aggregate_call_step, is_callable, is_kind, links_fit, literal_of, literal_step, part_fits, restart_fits, step_fits, takes_aggregate, takes_columns, takes_window, term_fits, window_fits}
use Rattle.kql_meaning.specs.Results.{has_one_result}
use Rattle.kql_meaning.specs.Literals.{literal_fits}
use Rattle.kql_meaning.specs.Tables.{has_column}

-- What a fitting says of a scope and a position.
abbrev over : Scope → Position → (Scope → Position → Bool) → Bool
over scope at fitting = fitting scope at

-- An expression with whether it fits.
abbrev checked : BExpr → Checked
checked e = (e, expr_fits e)

abbrev checked_link : ChainSign × BExpr → ChainSign × Checked
checked_link l = (l.0, checked l.1)

step-Literal : (l : Lit) → expr_fits (V.Literal l) ≡ fits_step (BExpr-F.Literal l)
unfolding expr_fits
step-Literal l = ap expr_fits (sym (V.rolls-Literal l)) ∙ para-roll-BExpr (Scope → Position → Bool) fits_step (BExpr-F.Literal l)

step-Column : (n : List ℕ) → expr_fits (V.Column n) ≡ fits_step (BExpr-F.Column n)
unfolding expr_fits
step-Column n = ap expr_fits (sym (V.rolls-Column n)) ∙ para-roll-BExpr (Scope → Position → Bool) fits_step (BExpr-F.Column n)

step-Step : (c : StepColumn) → expr_fits (V.Step c) ≡ fits_step (BExpr-F.Step c)
unfolding expr_fits
step-Step c = ap expr_fits (sym (V.rolls-Step c)) ∙ para-roll-BExpr (Scope → Position → Bool) fits_step (BExpr-F.Step c)

step-Call : (f : Func) (args : List BExpr) → expr_fits (V.Call f args) ≡ fits_step (BExpr-F.Call f (map checked args))
unfolding expr_fits
step-Call f args = ap expr_fits (sym (V.rolls-Call f args)) ∙ para-roll-BExpr (Scope → Position → Bool) fits_step (BExpr-F.Call f args)

step-Chain : (first : BExpr) (links : List (ChainSign × BExpr)) → expr_fits (V.Chain first links) ≡ fits_step (BExpr-F.Chain (checked first) (map checked_link links))
unfolding expr_fits
step-Chain first links = ap expr_fits (sym (V.rolls-Chain first links)) ∙ para-roll-BExpr (Scope → Position → Bool) fits_step (BExpr-F.Chain first links)

step-Path : (whole : BExpr) (steps : List BExpr) → expr_fits (V.Path whole steps) ≡ fits_step (BExpr-F.Path (checked whole) (map checked steps))
unfolding expr_fits
step-Path whole steps = ap expr_fits (sym (V.rolls-Path whole steps)) ∙ para-roll-BExpr (Scope → Position → Bool) fits_step (BExpr-F.Path whole steps)

step-Window : (f : Window) (args : List BExpr) → expr_fits (V.Window f args) ≡ fits_step (BExpr-F.Window f (map checked args))
unfolding expr_fits
step-Window f args = ap expr_fits (sym (V.rolls-Window f args)) ∙ para-roll-BExpr (Scope → Position → Bool) fits_step (BExpr-F.Window f args)

step-Aggregate : (f : Aggregate) (args : List BExpr) → expr_fits (V.Aggregate f args) ≡ fits_step (BExpr-F.Aggregate f (map checked args))
unfolding expr_fits
step-Aggregate f args = ap expr_fits (sym (V.rolls-Aggregate f args)) ∙ para-roll-BExpr (Scope → Position → Bool) fits_step (BExpr-F.Aggregate f args)

-- The expressions of checked ones, and whether they all fit.

exprs-map : (es : List BExpr) → exprs_of (map checked es) ≡ es
unfolding exprs_of
exprs-map [] = refl
exprs-map (e ∷ es) = ap (λ (xs : List BExpr). e ∷ xs) (exprs-map es)

all-map : (es : List BExpr) (scope : Scope) (at : Position) → all_fit (map checked es) scope at ≡ list_all (λ e. expr_fits e scope at) es
unfolding all_fit
all-map [] scope at = refl
all-map (e ∷ es) scope at = ap (λ b. expr_fits e scope at && b) (all-map es scope at)

parts-fit : (links : List (ChainSign × BExpr)) (scope : Scope) (at : Position) → all_fit (map {B = Checked} (λ (l : ChainSign × Checked). l.1) (map checked_link links)) scope at ≡ list_all (λ l. expr_fits l.1 scope at) links
unfolding all_fit
parts-fit [] scope at = refl
parts-fit (l ∷ ls) scope at = ap (λ b. expr_fits l.1 scope at && b) (parts-fit ls scope at)

links-map : (links : List (ChainSign × BExpr)) → map {B = ChainSign × BExpr} (λ (l : ChainSign × Checked). (l.0, l.1.0)) (map checked_link links) ≡ links
links-map [] = refl
links-map (l ∷ ls) = ap (λ (xs : List (ChainSign × BExpr)). l ∷ xs) (links-map ls)

-- The equations.

pub fits-Literal : (l : Lit) (scope : Scope) (at : Position) → expr_fits (V.Literal l) scope at ≡ literal_fits l
fits-Literal l scope at = ap (over scope at) (step-Literal l)

pub fits-Column : (n : List ℕ) (scope : Scope) (at : Position) → expr_fits (V.Column n) scope at ≡ (takes_columns at && has_column n scope.columns)
fits-Column n scope at = ap (over scope at) (step-Column n)

pub fits-Step : (c : StepColumn) (scope : Scope) (at : Position) → expr_fits (V.Step c) scope at ≡ (takes_columns at && step_fits scope c)
fits-Step c scope at = ap (over scope at) (step-Step c)

pub fits-Call : (f : Func) (args : List BExpr) (scope : Scope) (at : Position) → expr_fits (V.Call f args) scope at ≡ (is_callable f && (list_all (λ e. expr_fits e scope at) args && (part_fits f args && is_some (call_kind f (kinds_in args scope.columns)))))
fits-Call f args scope at =
    let step = ap (over scope at) (step-Call f args) in
    rw (step, all-map args scope at, exprs-map args) refl

pub fits-Chain : (first : BExpr) (links : List (ChainSign × BExpr)) (scope : Scope) (at : Position) → expr_fits (V.Chain first links) scope at ≡ (expr_fits first scope at && (links_fit links scope at && is_some (kind_along links scope.columns (kind_of first scope.columns))))
unfolding links_fit
fits-Chain first links scope at =
    let step = ap (over scope at) (step-Chain first links) in
    rw (step, parts-fit links scope at, links-map links) refl

pub fits-Path : (whole : BExpr) (steps : List BExpr) (scope : Scope) (at : Position) → expr_fits (V.Path whole steps) scope at ≡ (expr_fits whole scope at && (list_all (λ e. expr_fits e scope at) steps && is_some (kind_down steps scope.columns (kind_of whole scope.columns))))
fits-Path whole steps scope at =
    let step = ap (over scope at) (step-Path whole steps) in
    rw (step, all-map steps scope at, exprs-map steps) refl

pub fits-Window : (f : Window) (args : List BExpr) (scope : Scope) (at : Position) → expr_fits (V.Window f args) scope at ≡ (takes_window at f && window_fits f (checked_args args) scope)
unfolding checked_args
fits-Window f args scope at = ap (over scope at) (step-Window f args)

pub fits-Aggregate : (f : Aggregate) (args : List BExpr) (scope : Scope) (at : Position) → expr_fits (V.Aggregate f args) scope at ≡ (has_one_result f args && aggregate_fits f (checked_args args) scope at)
unfolding checked_args
fits-Aggregate f args scope at =
    let step = ap (over scope at) (step-Aggregate f args) in
    rw (step, exprs-map args) refl

pub ruleset fit_steps = (fits-Literal, fits-Column, fits-Step, fits-Call, fits-Chain, fits-Path, fits-Window, fits-Aggregate)

-- Checked arguments.

pub checked-none : checked_args [] ≡ []
unfolding checked_args
checked-none = refl

pub checked-some : (e : BExpr) (es : List BExpr) → checked_args (e ∷ es) ≡ (e, expr_fits e) ∷ checked_args es
unfolding checked_args
checked-some e es = refl

pub exprs-checked : (es : List BExpr) → exprs_of (checked_args es) ≡ es
unfolding checked_args
exprs-checked es = exprs-map es

pub term-checked : (e : BExpr) (scope : Scope) → term_fits (e, expr_fits e) scope ≡ fits_as is_addable e scope position.Term
unfolding term_fits fits_as
term-checked e scope = refl

pub restart-checked : (e : BExpr) (scope : Scope) → restart_fits (e, expr_fits e) scope ≡ fits_as (same_kind kind.Bool) e scope position.Term
unfolding restart_fits fits_as is_kind
restart-checked e scope = refl

pub aggregate-checked : (f : Aggregate) (args : List BExpr) (scope : Scope) (at : Position) → aggregate_fits f (checked_args args) scope at ≡ (takes_aggregate at f && (list_all (λ e. expr_fits e scope position.Plain) args && aggregate_takes f args scope.columns))
unfolding aggregate_fits checked_args
aggregate-checked f args scope at = rw (all-map args scope position.Plain, exprs-map args) refl

pub ruleset checked_steps = (checked-none, checked-some, exprs-checked, term-checked, restart-checked, aggregate-checked)

-- A part of a chain that does not fit.

behind : (a b : Bool) → b ≡ false → (a && b) ≡ false
behind true b e = e
behind false b e = refl

links-none : (links : List (ChainSign × BExpr)) (scope : Scope) (at : Position) (i : ℕ) (d : ChainSign × BExpr) → i < length links → expr_fits (get_or links i d).1 scope at ≡ false → links_fit links scope at ≡ false
unfolding links_fit
links-none [] scope at i d lt e = absurd (omega arith)
links-none (l ∷ ls) scope at zero d lt e = rw e refl
links-none (l ∷ ls) scope at (suc i) d lt e = behind (expr_fits l.1 scope at) (links_fit ls scope at) (links-none ls scope at i d (omega arith) e)

pub link-refused : (links : List (ChainSign × BExpr)) (scope : Scope) (at : Position) (i : ℕ) (link : ChainSign × BExpr) (fits : Bool) → i < length links → link ≡ get_or links i link → fits ≡ expr_fits link.1 scope at → fits ≡ false → false ≡ links_fit links scope at
link-refused links scope at i link fits lt here one refused =
    let found : expr_fits (get_or links i link).1 scope at ≡ false = ap (λ (l : ChainSign × BExpr). expr_fits l.1 scope at) (sym here) ∙ (sym one ∙ refused) in
    sym (links-none links scope at i link lt found)

-- What an expression is by itself.

pub rolled-Literal : (l : Lit) → out-BExpr (V.Literal l) ≡ BExpr-F.Literal l
rolled-Literal l = ap out-BExpr (sym (V.rolls-Literal l)) ∙ out-roll-BExpr (BExpr-F.Literal l)

pub rolled-Column : (n : List ℕ) → out-BExpr (V.Column n) ≡ BExpr-F.Column n
rolled-Column n = ap out-BExpr (sym (V.rolls-Column n)) ∙ out-roll-BExpr (BExpr-F.Column n)

rolled-Step : (c : StepColumn) → out-BExpr (V.Step c) ≡ BExpr-F.Step c
rolled-Step c = ap out-BExpr (sym (V.rolls-Step c)) ∙ out-roll-BExpr (BExpr-F.Step c)

rolled-Call : (f : Func) (args : List BExpr) → out-BExpr (V.Call f args) ≡ BExpr-F.Call f args
rolled-Call f args = ap out-BExpr (sym (V.rolls-Call f args)) ∙ out-roll-BExpr (BExpr-F.Call f args)

rolled-Chain : (first : BExpr) (links : List (ChainSign × BExpr)) → out-BExpr (V.Chain first links) ≡ BExpr-F.Chain first links
rolled-Chain first links = ap out-BExpr (sym (V.rolls-Chain first links)) ∙ out-roll-BExpr (BExpr-F.Chain first links)

rolled-Path : (whole : BExpr) (steps : List BExpr) → out-BExpr (V.Path whole steps) ≡ BExpr-F.Path whole steps
rolled-Path whole steps = ap out-BExpr (sym (V.rolls-Path whole steps)) ∙ out-roll-BExpr (BExpr-F.Path whole steps)

rolled-Window : (f : Window) (args : List BExpr) → out-BExpr (V.Window f args) ≡ BExpr-F.Window f args
rolled-Window f args = ap out-BExpr (sym (V.rolls-Window f args)) ∙ out-roll-BExpr (BExpr-F.Window f args)

rolled-Aggregate : (f : Aggregate) (args : List BExpr) → out-BExpr (V.Aggregate f args) ≡ BExpr-F.Aggregate f args
rolled-Aggregate f args = ap out-BExpr (sym (V.rolls-Aggregate f args)) ∙ out-roll-BExpr (BExpr-F.Aggregate f args)

pub literal-Literal : (l : Lit) → literal_of (V.Literal l) ≡ Some l
unfolding literal_of
literal-Literal l = ap (literal_step) (rolled-Literal l)

pub literal-Column : (n : List ℕ) → literal_of (V.Column n) ≡ None
unfolding literal_of
literal-Column n = ap (literal_step) (rolled-Column n)

pub literal-Step : (c : StepColumn) → literal_of (V.Step c) ≡ None
unfolding literal_of
literal-Step c = ap (literal_step) (rolled-Step c)

pub literal-Call : (f : Func) (args : List BExpr) → literal_of (V.Call f args) ≡ None
unfolding literal_of
literal-Call f args = ap (literal_step) (rolled-Call f args)

pub literal-Chain : (first : BExpr) (links : List (ChainSign × BExpr)) → literal_of (V.Chain first links) ≡ None
unfolding literal_of
literal-Chain first links = ap (literal_step) (rolled-Chain first links)

pub literal-Path : (whole : BExpr) (steps : List BExpr) → literal_of (V.Path whole steps) ≡ None
unfolding literal_of
literal-Path whole steps = ap (literal_step) (rolled-Path whole steps)

pub literal-Window : (f : Window) (args : List BExpr) → literal_of (V.Window f args) ≡ None
unfolding literal_of
literal-Window f args = ap (literal_step) (rolled-Window f args)

pub literal-Aggregate : (f : Aggregate) (args : List BExpr) → literal_of (V.Aggregate f args) ≡ None
unfolding literal_of
literal-Aggregate f args = ap (literal_step) (rolled-Aggregate f args)

pub ruleset literal_steps = (literal-Literal, literal-Column, literal-Step, literal-Call, literal-Chain, literal-Path, literal-Window, literal-Aggregate)

pub column-Literal : (l : Lit) → column_of (V.Literal l) ≡ None
unfolding column_of
column-Literal l = ap (column_step) (rolled-Literal l)

pub column-Column : (n : List ℕ) → column_of (V.Column n) ≡ Some n
unfolding column_of
column-Column n = ap (column_step) (rolled-Column n)

pub column-Step : (c : StepColumn) → column_of (V.Step c) ≡ None
unfolding column_of
column-Step c = ap (column_step) (rolled-Step c)

pub column-Call : (f : Func) (args : List BExpr) → column_of (V.Call f args) ≡ None
unfolding column_of
column-Call f args = ap (column_step) (rolled-Call f args)

pub column-Chain : (first : BExpr) (links : List (ChainSign × BExpr)) → column_of (V.Chain first links) ≡ None
unfolding column_of
column-Chain first links = ap (column_step) (rolled-Chain first links)

pub column-Path : (whole : BExpr) (steps : List BExpr) → column_of (V.Path whole steps) ≡ None
unfolding column_of
column-Path whole steps = ap (column_step) (rolled-Path whole steps)

pub column-Window : (f : Window) (args : List BExpr) → column_of (V.Window f args) ≡ None
unfolding column_of
column-Window f args = ap (column_step) (rolled-Window f args)

pub column-Aggregate : (f : Aggregate) (args : List BExpr) → column_of (V.Aggregate f args) ≡ None
unfolding column_of
column-Aggregate f args = ap (column_step) (rolled-Aggregate f args)

pub ruleset column_steps = (column-Literal, column-Column, column-Step, column-Call, column-Chain, column-Path, column-Window, column-Aggregate)

pub is_call-Literal : (l : Lit) → is_aggregate_call (V.Literal l) ≡ false
unfolding is_aggregate_call
is_call-Literal l = ap (is_aggregate_call_step) (rolled-Literal l)

pub is_call-Column : (n : List ℕ) → is_aggregate_call (V.Column n) ≡ false
unfolding is_aggregate_call
is_call-Column n = ap (is_aggregate_call_step) (rolled-Column n)

pub is_call-Step : (c : StepColumn) → is_aggregate_call (V.Step c) ≡ false
unfolding is_aggregate_call
is_call-Step c = ap (is_aggregate_call_step) (rolled-Step c)

pub is_call-Call : (f : Func) (args : List BExpr) → is_aggregate_call (V.Call f args) ≡ false
unfolding is_aggregate_call
is_call-Call f args = ap (is_aggregate_call_step) (rolled-Call f args)

pub is_call-Chain : (first : BExpr) (links : List (ChainSign × BExpr)) → is_aggregate_call (V.Chain first links) ≡ false
unfolding is_aggregate_call
is_call-Chain first links = ap (is_aggregate_call_step) (rolled-Chain first links)

pub is_call-Path : (whole : BExpr) (steps : List BExpr) → is_aggregate_call (V.Path whole steps) ≡ false
unfolding is_aggregate_call
is_call-Path whole steps = ap (is_aggregate_call_step) (rolled-Path whole steps)

pub is_call-Window : (f : Window) (args : List BExpr) → is_aggregate_call (V.Window f args) ≡ false
unfolding is_aggregate_call
is_call-Window f args = ap (is_aggregate_call_step) (rolled-Window f args)

pub is_call-Aggregate : (f : Aggregate) (args : List BExpr) → is_aggregate_call (V.Aggregate f args) ≡ true
unfolding is_aggregate_call
is_call-Aggregate f args = ap (is_aggregate_call_step) (rolled-Aggregate f args)

pub ruleset is_call_steps = (is_call-Literal, is_call-Column, is_call-Step, is_call-Call, is_call-Chain, is_call-Path, is_call-Window, is_call-Aggregate)

pub call-Literal : (l : Lit) (scope : Scope) (at : Position) → call_or_expr_fits (V.Literal l) scope at ≡ expr_fits (V.Literal l) scope at
unfolding call_or_expr_fits
call-Literal l scope at = ap (λ s. call_or_expr_fits_step s (expr_fits (V.Literal l) scope at) scope at) (rolled-Literal l)

pub call-Column : (n : List ℕ) (scope : Scope) (at : Position) → call_or_expr_fits (V.Column n) scope at ≡ expr_fits (V.Column n) scope at
unfolding call_or_expr_fits
call-Column n scope at = ap (λ s. call_or_expr_fits_step s (expr_fits (V.Column n) scope at) scope at) (rolled-Column n)

pub call-Step : (c : StepColumn) (scope : Scope) (at : Position) → call_or_expr_fits (V.Step c) scope at ≡ expr_fits (V.Step c) scope at
unfolding call_or_expr_fits
call-Step c scope at = ap (λ s. call_or_expr_fits_step s (expr_fits (V.Step c) scope at) scope at) (rolled-Step c)

pub call-Call : (f : Func) (args : List BExpr) (scope : Scope) (at : Position) → call_or_expr_fits (V.Call f args) scope at ≡ expr_fits (V.Call f args) scope at
unfolding call_or_expr_fits
call-Call f args scope at = ap (λ s. call_or_expr_fits_step s (expr_fits (V.Call f args) scope at) scope at) (rolled-Call f args)

pub call-Chain : (first : BExpr) (links : List (ChainSign × BExpr)) (scope : Scope) (at : Position) → call_or_expr_fits (V.Chain first links) scope at ≡ expr_fits (V.Chain first links) scope at
unfolding call_or_expr_fits
call-Chain first links scope at = ap (λ s. call_or_expr_fits_step s (expr_fits (V.Chain first links) scope at) scope at) (rolled-Chain first links)

pub call-Path : (whole : BExpr) (steps : List BExpr) (scope : Scope) (at : Position) → call_or_expr_fits (V.Path whole steps) scope at ≡ expr_fits (V.Path whole steps) scope at
unfolding call_or_expr_fits
call-Path whole steps scope at = ap (λ s. call_or_expr_fits_step s (expr_fits (V.Path whole steps) scope at) scope at) (rolled-Path whole steps)

pub call-Window : (f : Window) (args : List BExpr) (scope : Scope) (at : Position) → call_or_expr_fits (V.Window f args) scope at ≡ expr_fits (V.Window f args) scope at
unfolding call_or_expr_fits
call-Window f args scope at = ap (λ s. call_or_expr_fits_step s (expr_fits (V.Window f args) scope at) scope at) (rolled-Window f args)

pub call-Aggregate : (f : Aggregate) (args : List BExpr) (scope : Scope) (at : Position) → call_or_expr_fits (V.Aggregate f args) scope at ≡ aggregate_fits f (checked_args args) scope at
unfolding call_or_expr_fits
call-Aggregate f args scope at = ap (λ s. call_or_expr_fits_step s (expr_fits (V.Aggregate f args) scope at) scope at) (rolled-Aggregate f args)

pub ruleset call_steps = (call-Literal, call-Column, call-Step, call-Call, call-Chain, call-Path, call-Window, call-Aggregate)

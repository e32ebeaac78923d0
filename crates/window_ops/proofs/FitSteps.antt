-- The parts of an expression that fits, and what an expression that fits is.
use Rattle.std.proofs.Common.{◌≡◌, ◌<◌, ◌≤◌, ◌+◌, ◌-◌, ℕ, zero, suc, Bool, true, List, [], ◌∷◌, get_or, length, map, refl, ap, sym, ◌∙◌, subst, arith}
use Rattle.std.specs.Prelude.{◌&&◌, None, Option, Some, is_some}
use Rattle.std.specs.List.{list_all, range_with_len}
use Rattle.std.proofs.lemmas.Bool.{and_from, and_parts}
use Rattle.kql_cells.specs.Table.{Grid}
use Rattle.kql_cells.specs.declared.schema.Column.{Column}
use Rattle.kql_cells.specs.declared.value.Kind.{Kind}
use Rattle.kql_cells.specs.declared.value.Kind.TheVariants as kind
use Rattle.kql_cells.specs.declared.value.Value.{Value}
use Rattle.kql_functions.specs.declared.func.Func.{Func}
use Rattle.kql_functions.specs.declared.window.Window.{Window}
use Rattle.kql_functions.specs.declared.window.Window.TheVariants as window
use Rattle.kql_bound.specs.declared.expr.BExpr.{BExpr, out-BExpr, roll-BExpr, roll-out-BExpr}
use Rattle.kql_bound.specs.declared.expr.BExpr.TheOpen.{BExpr-F}
use Rattle.kql_bound.specs.declared.expr.BExpr.TheVariants as V
use Rattle.kql_bound.specs.declared.expr.ChainSign.{ChainSign}
use Rattle.kql_bound.specs.declared.literal.Lit.{Lit}
use Rattle.kql_meaning.specs.declared.position.Position.{Position}
use Rattle.kql_meaning.specs.declared.position.Position.TheVariants as position
use Rattle.kql_meaning.specs.Expressions.{call_kind, kind_along, kind_down, kind_of, kinds_in, val}
use Rattle.kql_meaning.specs.FittingExpressions.{checked_args, expr_fits, has_kind, is_addable, is_callable, is_constant_of, is_kind, is_typed_literal, links_fit, literal_of, literal_step, part_fits, restart_fits, row_number_fits, running_sum_fits, scope_of, takes_window, term_fits, window_fits}
use Rattle.kql_meaning.specs.Literals.{literal_fits}
use Rattle.kql_meaning.proofs.ExpressionFitLaws.{fits-Call, fits-Chain, fits-Literal, fits-Path, fits-Window}
use Rattle.kql_scalar.specs.Rows.{rows}
use Rattle.kql_scalar.specs.Scalar.{IsScalar, is_of_rows}
use Rattle.kql_scalar.proofs.ScalarFitLaws.{scalar_where_fits}
use Rattle.window_ops.specs.Columns.{values_from}
use Rattle.window_ops.proofs.RangeFacts.{rows-on}
use Rattle.window_ops.specs.Fitting.{AllFitRows, FitsRows, LinksFitRows}

along : (cs : List Column) (e x : BExpr) (at : Position) → expr_fits e (scope_of cs) at ≡ true → e ≡ x → expr_fits x (scope_of cs) at ≡ true
along cs e x at h is = subst (λ y. expr_fits y (scope_of cs) at ≡ true) is h

pub fitting_args : (cs : List Column) (e : BExpr) (f : Func) (args : List BExpr) → FitsRows cs e → e ≡ V.Call f args → AllFitRows cs args
fitting_args cs e f args h is =
    let all = list_all (λ e. expr_fits e (scope_of cs) h.at) args in
    let typed = part_fits f args && is_some (call_kind f (kinds_in args cs)) in
    let b = and_parts (is_callable f) (all && typed) (sym (fits-Call f args (scope_of cs) h.at) ∙ along cs e (V.Call f args) h.at h.fits is) in
    record { at = h.at; rows = h.rows; each = (and_parts all typed b.1).0 }

chain-parts : (cs : List Column) (e first : BExpr) (links : List (ChainSign × BExpr)) (at : Position) → expr_fits e (scope_of cs) at ≡ true → e ≡ V.Chain first links → (expr_fits first (scope_of cs) at ≡ true) × (links_fit links (scope_of cs) at ≡ true)
chain-parts cs e first links at h is =
    let all = links_fit links (scope_of cs) at in
    let typed = is_some (kind_along links cs (kind_of first cs)) in
    let b = and_parts (expr_fits first (scope_of cs) at) (all && typed) (sym (fits-Chain first links (scope_of cs) at) ∙ along cs e (V.Chain first links) at h is) in
    (b.0, (and_parts all typed b.1).0)

pub fitting_first : (cs : List Column) (e first : BExpr) (links : List (ChainSign × BExpr)) → FitsRows cs e → e ≡ V.Chain first links → FitsRows cs first
fitting_first cs e first links h is = record { at = h.at; rows = h.rows; fits = (chain-parts cs e first links h.at h.fits is).0 }

pub fitting_links : (cs : List Column) (e first : BExpr) (links : List (ChainSign × BExpr)) → FitsRows cs e → e ≡ V.Chain first links → LinksFitRows cs links
fitting_links cs e first links h is = record { at = h.at; rows = h.rows; each = (chain-parts cs e first links h.at h.fits is).1 }

path-parts : (cs : List Column) (e whole : BExpr) (steps : List BExpr) (at : Position) → expr_fits e (scope_of cs) at ≡ true → e ≡ V.Path whole steps → (expr_fits whole (scope_of cs) at ≡ true) × (list_all (λ e. expr_fits e (scope_of cs) at) steps ≡ true)
path-parts cs e whole steps at h is =
    let all = list_all (λ e. expr_fits e (scope_of cs) at) steps in
    let typed = is_some (kind_down steps cs (kind_of whole cs)) in
    let b = and_parts (expr_fits whole (scope_of cs) at) (all && typed) (sym (fits-Path whole steps (scope_of cs) at) ∙ along cs e (V.Path whole steps) at h is) in
    (b.0, (and_parts all typed b.1).0)

pub fitting_whole : (cs : List Column) (e whole : BExpr) (steps : List BExpr) → FitsRows cs e → e ≡ V.Path whole steps → FitsRows cs whole
fitting_whole cs e whole steps h is = record { at = h.at; rows = h.rows; fits = (path-parts cs e whole steps h.at h.fits is).0 }

pub fitting_steps : (cs : List Column) (e whole : BExpr) (steps : List BExpr) → FitsRows cs e → e ≡ V.Path whole steps → AllFitRows cs steps
fitting_steps cs e whole steps h is = record { at = h.at; rows = h.rows; each = (path-parts cs e whole steps h.at h.fits is).1 }

-- Window functions.

window-parts : (cs : List Column) (e : BExpr) (f : Window) (args : List BExpr) → FitsRows cs e → e ≡ V.Window f args → window_fits f (checked_args args) (scope_of cs) ≡ true
window-parts cs e f args h is = (and_parts (takes_window h.at f) (window_fits f (checked_args args) (scope_of cs)) (sym (fits-Window f args (scope_of cs) h.at) ∙ along cs e (V.Window f args) h.at h.fits is)).1

term-of-rows : is_of_rows position.Term ≡ true
unfolding is_of_rows
term-of-rows = refl

term-fits : (cs : List Column) (e : BExpr) → term_fits (e, expr_fits e) (scope_of cs) ≡ true → expr_fits e (scope_of cs) position.Term ≡ true
unfolding term_fits
term-fits cs e h = (and_parts (expr_fits e (scope_of cs) position.Term) (has_kind is_addable (kind_of e cs)) h).0

restart-fits : (cs : List Column) (e : BExpr) → restart_fits (e, expr_fits e) (scope_of cs) ≡ true → expr_fits e (scope_of cs) position.Term ≡ true
unfolding restart_fits
restart-fits cs e h = (and_parts (expr_fits e (scope_of cs) position.Term) (is_kind kind.Bool (kind_of e cs)) h).0

abbrev AllAtTerm : List Column → List BExpr → Type 0
AllAtTerm cs es = list_all (λ e. expr_fits e (scope_of cs) position.Term) es ≡ true

one : (cs : List Column) (e : BExpr) → expr_fits e (scope_of cs) position.Term ≡ true → AllAtTerm cs (e ∷ [])
one cs e h = and_from (expr_fits e (scope_of cs) position.Term) true h refl

two : (cs : List Column) (e f : BExpr) → expr_fits e (scope_of cs) position.Term ≡ true → expr_fits f (scope_of cs) position.Term ≡ true → AllAtTerm cs (e ∷ f ∷ [])
two cs e f h k = and_from (expr_fits e (scope_of cs) position.Term) (list_all (λ e. expr_fits e (scope_of cs) position.Term) (f ∷ [])) h (one cs f k)

sum-fits : (cs : List Column) (args : List BExpr) → running_sum_fits (checked_args args) (scope_of cs) ≡ true → AllAtTerm cs args × (1 ≤ length args)
unfolding running_sum_fits checked_args
sum-fits cs [] h = absurd cc
sum-fits cs (a ∷ []) h = (one cs a (term-fits cs a h), omega arith)
sum-fits cs (a ∷ b ∷ []) h =
    let parts = and_parts (term_fits (a, expr_fits a) (scope_of cs)) (restart_fits (b, expr_fits b) (scope_of cs)) h in
    (two cs a b (term-fits cs a parts.0) (restart-fits cs b parts.1), omega arith)
sum-fits cs (a ∷ b ∷ c ∷ args) h = absurd cc

pub sum_fits : (cs : List Column) (e : BExpr) (args : List BExpr) → FitsRows cs e → e ≡ V.Window window.RowCumsum args → AllFitRows cs args
unfolding window_fits
sum_fits cs e args h is = record { at = position.Term; rows = term-of-rows; each = (sum-fits cs args (window-parts cs e window.RowCumsum args h is)).0 }

pub sum_some : (cs : List Column) (e : BExpr) (args : List BExpr) → FitsRows cs e → e ≡ V.Window window.RowCumsum args → 1 ≤ length args
unfolding window_fits
sum_some cs e args h is = (sum-fits cs args (window-parts cs e window.RowCumsum args h is)).1

pub ruleset sum_parts = (sum_fits, sum_some)

literal-roll : (f : BExpr-F BExpr) (l : Lit) → literal_step f ≡ Some l → roll-BExpr f ≡ V.Literal l
literal-roll (BExpr-F.Literal m) l e = let same : m ≡ l = cc in V.rolls-Literal m ∙ ap V.Literal same
literal-roll (BExpr-F.Column n) l e = absurd cc
literal-roll (BExpr-F.Step c) l e = absurd cc
literal-roll (BExpr-F.Call f args) l e = absurd cc
literal-roll (BExpr-F.Chain first links) l e = absurd cc
literal-roll (BExpr-F.Path whole steps) l e = absurd cc
literal-roll (BExpr-F.Window f args) l e = absurd cc
literal-roll (BExpr-F.Aggregate f args) l e = absurd cc

literal-is : (e : BExpr) (l : Lit) → literal_of e ≡ Some l → e ≡ V.Literal l
unfolding literal_of
literal-is e l h = sym (roll-out-BExpr e) ∙ literal-roll (out-BExpr e) l h

typed-parts : (k : Option Kind) (o : Option Lit) → is_typed_literal k o ≡ true → (l : Lit) × (o ≡ Some l) × (literal_fits l ≡ true)
unfolding is_typed_literal
typed-parts k None e = absurd cc
typed-parts k (Some l) e = (l, refl, (and_parts (literal_fits l) (is_kind l.kind k) e).0)

constant-fits : (cs : List Column) (k : Option Kind) (e : BExpr) → is_constant_of k e ≡ true → expr_fits e (scope_of cs) position.Term ≡ true
unfolding is_constant_of
constant-fits cs k e h =
    let q = typed-parts k (literal_of e) h in
    ap (λ (x : BExpr). expr_fits x (scope_of cs) position.Term) (literal-is e q.0 q.1) ∙ (fits-Literal q.0 (scope_of cs) position.Term ∙ q.2)

number-fits : (cs : List Column) (args : List BExpr) → row_number_fits (checked_args args) (scope_of cs) ≡ true → AllAtTerm cs args
unfolding row_number_fits checked_args
number-fits cs [] h = refl
number-fits cs (a ∷ []) h = one cs a (constant-fits cs (Some kind.Long) a h)
number-fits cs (a ∷ b ∷ []) h =
    let parts = and_parts (is_constant_of (Some kind.Long) a) (restart_fits (b, expr_fits b) (scope_of cs)) h in
    two cs a b (constant-fits cs (Some kind.Long) a parts.0) (restart-fits cs b parts.1)
number-fits cs (a ∷ b ∷ c ∷ args) h = absurd cc

pub number_fits : (cs : List Column) (e : BExpr) (args : List BExpr) → FitsRows cs e → e ≡ V.Window window.RowNumber args → AllFitRows cs args
unfolding window_fits
number_fits cs e args h is = record { at = position.Term; rows = term-of-rows; each = number-fits cs args (window-parts cs e window.RowNumber args h is) }

pub ruleset number_parts = (number_fits)

pub window_sum : (e : BExpr) (f : Window) (args : List BExpr) → e ≡ V.Window f args → f ≡ window.RowCumsum → e ≡ V.Window window.RowCumsum args
window_sum e f args is same = is ∙ ap (λ g. V.Window g args) same

pub window_number : (e : BExpr) (f : Window) (args : List BExpr) → e ≡ V.Window f args → f ≡ window.RowNumber → e ≡ V.Window window.RowNumber args
window_number e f args is same = is ∙ ap (λ g. V.Window g args) same

pub ruleset window_parts = (window_sum, window_number)

-- One of several.

at-item : {X : Type 0} (p : X → Bool) (xs : List X) (i : ℕ) (d : X) → i < length xs → list_all p xs ≡ true → p (get_or xs i d) ≡ true
at-item p [] i d lt h = absurd (omega arith)
at-item p (x ∷ xs) zero d lt h = (and_parts (p x) (list_all p xs) h).0
at-item p (x ∷ xs) (suc i) d lt h = at-item p xs i d (omega arith) (and_parts (p x) (list_all p xs) h).1

pub fitting_item : (cs : List Column) (es : List BExpr) (i : ℕ) (e : BExpr) → AllFitRows cs es → i < length es → e ≡ get_or es i e → FitsRows cs e
fitting_item cs es i e h lt is = record {
  at = h.at;
  rows = h.rows;
  fits = ap (λ (x : BExpr). expr_fits x (scope_of cs) h.at) is ∙ at-item (λ e. expr_fits e (scope_of cs) h.at) es i e lt h.each;
}

pub fitting_link : (cs : List Column) (links : List (ChainSign × BExpr)) (i : ℕ) (link : ChainSign × BExpr) → LinksFitRows cs links → i < length links → link ≡ get_or links i link → FitsRows cs link.1
unfolding links_fit
fitting_link cs links i link h lt is = record {
  at = h.at;
  rows = h.rows;
  fits = ap (λ (l : ChainSign × BExpr). expr_fits l.1 (scope_of cs) h.at) is ∙ at-item (λ (l : ChainSign × BExpr). expr_fits l.1 (scope_of cs) h.at) links i link lt h.each;
}

pub ruleset item_steps = (fitting_item, fitting_link)

-- It is evaluated row by row.

pub fitting_scalar : (cs : List Column) (e : BExpr) → FitsRows cs e → IsScalar e
fitting_scalar cs e h = scalar_where_fits e (scope_of cs) h.at h.rows h.fits

pub column-down : (e : BExpr) (t : Grid) (from n : ℕ) (v : List Value) → v ≡ map (λ i. val e t i []) (rows from (from + n)) → v ≡ values_from e t from n
unfolding values_from rows
column-down e t from n v is =
    let count : from + n - from ≡ n = omega arith in
    let start : from ≡ from + 0 = omega arith in
    is
    ∙ (ap (λ m. map (λ i. val e t i []) (range_with_len from m)) count
    ∙ (ap (λ m. map (λ i. val e t i []) (range_with_len m n)) start
    ∙ rows-on (λ i. val e t i []) from 0 n))

pub ruleset scalar_steps = (fitting_scalar, column-down)

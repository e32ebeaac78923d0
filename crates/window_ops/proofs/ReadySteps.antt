-- The parts of an expression that is ready.
use Rattle.std.proofs.Common.{◌≡◌, ◌<◌, ◌≤◌, ◌+◌, ℕ, List, ◌∷◌, length, get_or, drop, ap, sym, ◌∙◌, subst}
use Rattle.std.specs.List.{list_all}
use Rattle.std.proofs.lemmas.Bool.{and_parts}
use Rattle.std.proofs.lemmas.List.{drop_more}
use Rattle.kql_cells.specs.Table.{Grid}
use Rattle.kql_functions.specs.declared.func.Func.{Func}
use Rattle.kql_functions.specs.declared.window.Window.{Window}
use Rattle.kql_functions.specs.declared.window.Window.TheVariants as window
use Rattle.kql_bound.specs.declared.expr.BExpr.{BExpr}
use Rattle.kql_bound.specs.declared.expr.BExpr.TheVariants as V
use Rattle.kql_bound.specs.declared.expr.ChainSign.{ChainSign}
use Rattle.kql_meaning.specs.FittingExpressions.{expr_fits, links_fit, scope_of}
use Rattle.window_ops.specs.Calls.{AreBefore, call_of, calls_along, calls_in, calls_of, carry_of, first_of, own_calls}
use Rattle.window_ops.specs.Carries.{Carried}
use Rattle.window_ops.specs.Fitting.{AllFitRows, AreReady, IsReady, LinksReady}
use Rattle.window_ops.proofs.CallLaws.{before-parts, calls-Call, calls-Chain, calls-Path, calls-Window}
use Rattle.window_ops.proofs.FitSteps.{fitting_args, fitting_first, fitting_links, fitting_steps, fitting_whole, number_fits, sum_fits, sum_some}

-- A call.

pub ready-args : (e : BExpr) (t : Grid) (from n : ℕ) (cs : List Carried) (f : Func) (args : List BExpr) → IsReady e t from n cs → e ≡ V.Call f args → AreReady args t from n cs
ready-args e t from n cs f args h is = record {
  fits = fitting_args t.columns e f args h.fits is;
  range = h.range;
  carries = subst (λ ws. AreBefore ws t from cs) (ap calls_of is ∙ calls-Call f args) h.carries;
}

-- A chain.

chain-carries : (e : BExpr) (t : Grid) (from : ℕ) (cs : List Carried) (first : BExpr) (links : List (ChainSign × BExpr)) → AreBefore (calls_of e) t from cs → e ≡ V.Chain first links → AreBefore (calls_of first) t from cs × AreBefore (calls_along links) t from (drop (length (calls_of first)) cs)
chain-carries e t from cs first links h is =
    before-parts (calls_of first) (calls_along links) t from cs (subst (λ ws. AreBefore ws t from cs) (ap calls_of is ∙ calls-Chain first links) h)

pub ready-first : (e : BExpr) (t : Grid) (from n : ℕ) (cs : List Carried) (first : BExpr) (links : List (ChainSign × BExpr)) → IsReady e t from n cs → e ≡ V.Chain first links → IsReady first t from n cs
ready-first e t from n cs first links h is = record {
  fits = fitting_first t.columns e first links h.fits is;
  range = h.range;
  carries = (chain-carries e t from cs first links h.carries is).0;
}

pub ready-links : (e : BExpr) (t : Grid) (from n : ℕ) (cs rest : List Carried) (first x : BExpr) (links : List (ChainSign × BExpr)) → IsReady e t from n cs → e ≡ V.Chain first links → x ≡ first → rest ≡ drop (length (calls_of x)) cs → LinksReady links t from n rest
ready-links e t from n cs rest first x links h is same behind = record {
  fits = fitting_links t.columns e first links h.fits is;
  range = h.range;
  carries = subst (AreBefore (calls_along links) t from) (sym (behind ∙ ap (λ y. drop (length (calls_of y)) cs) same)) (chain-carries e t from cs first links h.carries is).1;
}

-- A path.

path-carries : (e : BExpr) (t : Grid) (from : ℕ) (cs : List Carried) (whole : BExpr) (steps : List BExpr) → AreBefore (calls_of e) t from cs → e ≡ V.Path whole steps → AreBefore (calls_of whole) t from cs × AreBefore (calls_in steps) t from (drop (length (calls_of whole)) cs)
path-carries e t from cs whole steps h is =
    before-parts (calls_of whole) (calls_in steps) t from cs (subst (λ ws. AreBefore ws t from cs) (ap calls_of is ∙ calls-Path whole steps) h)

pub ready-whole : (e : BExpr) (t : Grid) (from n : ℕ) (cs : List Carried) (whole : BExpr) (steps : List BExpr) → IsReady e t from n cs → e ≡ V.Path whole steps → IsReady whole t from n cs
ready-whole e t from n cs whole steps h is = record {
  fits = fitting_whole t.columns e whole steps h.fits is;
  range = h.range;
  carries = (path-carries e t from cs whole steps h.carries is).0;
}

pub ready-steps : (e : BExpr) (t : Grid) (from n : ℕ) (cs rest : List Carried) (whole x : BExpr) (steps : List BExpr) → IsReady e t from n cs → e ≡ V.Path whole steps → x ≡ whole → rest ≡ drop (length (calls_of x)) cs → AreReady steps t from n rest
ready-steps e t from n cs rest whole x steps h is same behind = record {
  fits = fitting_steps t.columns e whole steps h.fits is;
  range = h.range;
  carries = subst (AreBefore (calls_in steps) t from) (sym (behind ∙ ap (λ y. drop (length (calls_of y)) cs) same)) (path-carries e t from cs whole steps h.carries is).1;
}

-- A window function.

own-carries : (e : BExpr) (t : Grid) (from : ℕ) (cs : List Carried) (f : Window) (args : List BExpr) → AreBefore (calls_of e) t from cs → e ≡ V.Window f args → AreBefore (own_calls f args) t from cs
own-carries e t from cs f args h is = subst (λ ws. AreBefore ws t from cs) (ap calls_of is ∙ calls-Window f args) h

pub sum-ready : (e : BExpr) (t : Grid) (from n : ℕ) (cs : List Carried) (args given : List BExpr) → IsReady e t from n cs → e ≡ V.Window window.RowCumsum args → given ≡ args → AllFitRows t.columns given
sum-ready e t from n cs args given h is same = subst (AllFitRows t.columns) (sym same) (sum_fits t.columns e args h.fits is)

pub sum-given : (e : BExpr) (t : Grid) (from n : ℕ) (cs : List Carried) (args given : List BExpr) → IsReady e t from n cs → e ≡ V.Window window.RowCumsum args → given ≡ args → 1 ≤ length given
sum-given e t from n cs args given h is same = subst (λ (xs : List BExpr). 1 ≤ length xs) (sym same) (sum_some t.columns e args h.fits is)

pub sum-carry : (e : BExpr) (t : Grid) (from n : ℕ) (cs : List Carried) (args given : List BExpr) → IsReady e t from n cs → e ≡ V.Window window.RowCumsum args → given ≡ args → first_of cs ≡ carry_of (call_of window.RowCumsum given) t 0 from
unfolding own_calls AreBefore
sum-carry e t from n cs args given h is same = (own-carries e t from cs window.RowCumsum args h.carries is).0 ∙ ap (λ xs. carry_of (call_of window.RowCumsum xs) t 0 from) (sym same)

pub ready-range : (e : BExpr) (t : Grid) (from n : ℕ) (cs : List Carried) → IsReady e t from n cs → from + n ≤ length t.lines
ready-range e t from n cs h = h.range

pub ruleset sum_parts = (sum-ready, sum-given, sum-carry, ready-range)

pub number-ready : (e : BExpr) (t : Grid) (from n : ℕ) (cs : List Carried) (args given : List BExpr) → IsReady e t from n cs → e ≡ V.Window window.RowNumber args → given ≡ args → AllFitRows t.columns given
number-ready e t from n cs args given h is same = subst (AllFitRows t.columns) (sym same) (number_fits t.columns e args h.fits is)

pub number-carry : (e : BExpr) (t : Grid) (from n : ℕ) (cs : List Carried) (args given : List BExpr) → IsReady e t from n cs → e ≡ V.Window window.RowNumber args → given ≡ args → first_of cs ≡ carry_of (call_of window.RowNumber given) t 0 from
unfolding own_calls AreBefore
number-carry e t from n cs args given h is same = (own-carries e t from cs window.RowNumber args h.carries is).0 ∙ ap (λ xs. carry_of (call_of window.RowNumber xs) t 0 from) (sym same)

pub ruleset number_parts = (number-ready, number-carry, ready-range)

-- One of several, and those behind it.

head-ready : (e : BExpr) (es : List BExpr) (t : Grid) (from n : ℕ) (cs : List Carried) → AreReady (e ∷ es) t from n cs → IsReady e t from n cs × AreReady es t from n (drop (length (calls_of e)) cs)
unfolding calls_in
head-ready e es t from n cs h =
    let fits = and_parts (expr_fits e (scope_of t.columns) h.fits.at) (list_all (λ e. expr_fits e (scope_of t.columns) h.fits.at) es) h.fits.each in
    let carries = before-parts (calls_of e) (calls_in es) t from cs h.carries in (
      record { fits = record { at = h.fits.at; rows = h.fits.rows; fits = fits.0 }; range = h.range; carries = carries.0 },
      record { fits = record { at = h.fits.at; rows = h.fits.rows; each = fits.1 }; range = h.range; carries = carries.1 },
    )

at-place : (es : List BExpr) (k : ℕ) (e : BExpr) (t : Grid) (from n : ℕ) (cs : List Carried) → k < length es → e ≡ get_or es k e → AreReady (drop k es) t from n cs → IsReady e t from n cs × AreReady (drop (k + 1) es) t from n (drop (length (calls_of e)) cs)
at-place es k e t from n cs lt is h =
    head-ready e (drop (k + 1) es) t from n cs (subst (λ xs. AreReady xs t from n cs) (drop_more es k e lt ∙ ap (λ x. x ∷ drop (k + 1) es) (sym is)) h)

pub ready-start : (es : List BExpr) (t : Grid) (from n : ℕ) (cs : List Carried) → AreReady es t from n cs → AreReady (drop 0 es) t from n cs
ready-start es t from n cs h = h

pub ready-item : (es : List BExpr) (k : ℕ) (e : BExpr) (t : Grid) (from n : ℕ) (cs : List Carried) → k < length es → e ≡ get_or es k e → AreReady (drop k es) t from n cs → IsReady e t from n cs
ready-item es k e t from n cs lt is h = (at-place es k e t from n cs lt is h).0

pub ready-next : (es : List BExpr) (k : ℕ) (e x : BExpr) (t : Grid) (from n : ℕ) (cs rest : List Carried) → k < length es → e ≡ get_or es k e → AreReady (drop k es) t from n cs → x ≡ e → rest ≡ drop (length (calls_of x)) cs → AreReady (drop (k + 1) es) t from n rest
ready-next es k e x t from n cs rest lt is h same behind =
    subst (AreReady (drop (k + 1) es) t from n) (sym (behind ∙ ap (λ y. drop (length (calls_of y)) cs) same)) (at-place es k e t from n cs lt is h).1

pub ruleset item_steps = (ready-start, ready-item, ready-next)

-- The same of the parts of a chain behind its first.

abbrev Links : Type 0
Links = List (ChainSign × BExpr)

head-link : (l : ChainSign × BExpr) (ls : Links) (t : Grid) (from n : ℕ) (cs : List Carried) → LinksReady (l ∷ ls) t from n cs → IsReady l.1 t from n cs × LinksReady ls t from n (drop (length (calls_of l.1)) cs)
unfolding calls_along links_fit
head-link l ls t from n cs h =
    let fits = and_parts (expr_fits l.1 (scope_of t.columns) h.fits.at) (list_all (λ (l : ChainSign × BExpr). expr_fits l.1 (scope_of t.columns) h.fits.at) ls) h.fits.each in
    let carries = before-parts (calls_of l.1) (calls_along ls) t from cs h.carries in (
      record { fits = record { at = h.fits.at; rows = h.fits.rows; fits = fits.0 }; range = h.range; carries = carries.0 },
      record { fits = record { at = h.fits.at; rows = h.fits.rows; each = fits.1 }; range = h.range; carries = carries.1 },
    )

link-at : (ls : Links) (k : ℕ) (l : ChainSign × BExpr) (t : Grid) (from n : ℕ) (cs : List Carried) → k < length ls → l ≡ get_or ls k l → LinksReady (drop k ls) t from n cs → IsReady l.1 t from n cs × LinksReady (drop (k + 1) ls) t from n (drop (length (calls_of l.1)) cs)
link-at ls k l t from n cs lt is h =
    head-link l (drop (k + 1) ls) t from n cs (subst (λ xs. LinksReady xs t from n cs) (drop_more ls k l lt ∙ ap (λ x. x ∷ drop (k + 1) ls) (sym is)) h)

pub links-start : (ls : Links) (t : Grid) (from n : ℕ) (cs : List Carried) → LinksReady ls t from n cs → LinksReady (drop 0 ls) t from n cs
links-start ls t from n cs h = h

pub ready-link : (ls : Links) (k : ℕ) (l : ChainSign × BExpr) (t : Grid) (from n : ℕ) (cs : List Carried) → k < length ls → l ≡ get_or ls k l → LinksReady (drop k ls) t from n cs → IsReady l.1 t from n cs
ready-link ls k l t from n cs lt is h = (link-at ls k l t from n cs lt is h).0

pub links-next : (ls : Links) (k : ℕ) (l : ChainSign × BExpr) (x : BExpr) (t : Grid) (from n : ℕ) (cs rest : List Carried) → k < length ls → l ≡ get_or ls k l → LinksReady (drop k ls) t from n cs → x ≡ l.1 → rest ≡ drop (length (calls_of x)) cs → LinksReady (drop (k + 1) ls) t from n rest
links-next ls k l x t from n cs rest lt is h same behind =
    subst (LinksReady (drop (k + 1) ls) t from n) (sym (behind ∙ ap (λ y. drop (length (calls_of y)) cs) same)) (link-at ls k l t from n cs lt is h).1

pub ruleset link_steps = (links-start, ready-link, links-next)

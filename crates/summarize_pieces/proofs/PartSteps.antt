-- The parts of an expression over groups, which fit where it does.
use Rattle.std.proofs.Common.{◌≡◌, ◌<◌, ℕ, zero, suc, Bool, true, false, List, [], ◌∷◌, get_or, length, sym, ◌∙◌, subst, arith}
use Rattle.std.specs.Prelude.{◌&&◌, is_some}
use Rattle.std.specs.List.{list_all}
use Rattle.std.proofs.lemmas.Bool.{and_parts}
use Rattle.kql_cells.specs.Values.{IsWellFormed}
use Rattle.kql_cells.specs.declared.schema.Column.{Column}
use Rattle.kql_functions.specs.declared.aggregate.Aggregate.{Aggregate}
use Rattle.kql_functions.specs.declared.func.Func.{Func}
use Rattle.kql_functions.specs.declared.window.Window.{Window}
use Rattle.kql_bound.specs.declared.expr.BExpr.{BExpr}
use Rattle.kql_bound.specs.declared.expr.BExpr.TheVariants as V
use Rattle.kql_bound.specs.declared.expr.ChainSign.{ChainSign}
use Rattle.kql_bound.specs.declared.expr.StepColumn.{StepColumn}
use Rattle.kql_bound.specs.declared.literal.Lit.{Lit}
use Rattle.kql_meaning.specs.declared.position.Position.TheVariants as position
use Rattle.kql_meaning.specs.Expressions.{call_kind, kind_along, kind_down, kind_of, kinds_in}
use Rattle.kql_meaning.specs.FittingExpressions.{aggregate_fits, checked_args, expr_fits, is_callable, links_fit, part_fits, scope_of, takes_columns, takes_window}
use Rattle.kql_meaning.specs.Literals.{is_of_kind, is_well_formed, literal_fits}
use Rattle.kql_meaning.specs.Results.{has_one_result}
use Rattle.kql_meaning.proofs.ExpressionFitLaws.{fits-Aggregate, fits-Call, fits-Chain, fits-Column, fits-Literal, fits-Path, fits-Step, fits-Window}
use Rattle.kql_meaning.proofs.LiteralLaws.{is_well_formed-decides}
use Rattle.summarize_op.specs.Calls.{HasOne, IsCall}
use Rattle.summarize_op.specs.Grouped.{AreGrouped, AreLinksGrouped, IsGrouped}

abbrev over_groups : List Column → BExpr → Bool
over_groups cs e = expr_fits e (scope_of cs) position.Group

moved : (cs : List Column) (e f : BExpr) → IsGrouped cs e → e ≡ f → over_groups cs f ≡ true
moved cs e f h is = subst (λ (x : BExpr). over_groups cs x ≡ true) is h.holds

pub grouped_args : (cs : List Column) (e : BExpr) (f : Func) (args : List BExpr) → IsGrouped cs e → e ≡ V.Call f args → AreGrouped cs args
grouped_args cs e f args h is =
    let b = and_parts (is_callable f) (list_all (over_groups cs) args && (part_fits f args && is_some (call_kind f (kinds_in args cs)))) (sym (fits-Call f args (scope_of cs) position.Group) ∙ moved cs e (V.Call f args) h is) in
    record { each = (and_parts (list_all (over_groups cs) args) (part_fits f args && is_some (call_kind f (kinds_in args cs))) b.1).0 }

chain-parts : (cs : List Column) (e first : BExpr) (links : List (ChainSign × BExpr)) → IsGrouped cs e → e ≡ V.Chain first links → (over_groups cs first ≡ true) × (links_fit links (scope_of cs) position.Group ≡ true)
chain-parts cs e first links h is =
    let b = and_parts (over_groups cs first) (links_fit links (scope_of cs) position.Group && is_some (kind_along links cs (kind_of first cs))) (sym (fits-Chain first links (scope_of cs) position.Group) ∙ moved cs e (V.Chain first links) h is) in
    (b.0, (and_parts (links_fit links (scope_of cs) position.Group) (is_some (kind_along links cs (kind_of first cs))) b.1).0)

pub grouped_first : (cs : List Column) (e first : BExpr) (links : List (ChainSign × BExpr)) → IsGrouped cs e → e ≡ V.Chain first links → IsGrouped cs first
grouped_first cs e first links h is = record { holds = (chain-parts cs e first links h is).0 }

pub grouped_links : (cs : List Column) (e first : BExpr) (links : List (ChainSign × BExpr)) → IsGrouped cs e → e ≡ V.Chain first links → AreLinksGrouped cs links
grouped_links cs e first links h is = record { each = (chain-parts cs e first links h is).1 }

path-parts : (cs : List Column) (e whole : BExpr) (steps : List BExpr) → IsGrouped cs e → e ≡ V.Path whole steps → (over_groups cs whole ≡ true) × (list_all (over_groups cs) steps ≡ true)
path-parts cs e whole steps h is =
    let b = and_parts (over_groups cs whole) (list_all (over_groups cs) steps && is_some (kind_down steps cs (kind_of whole cs))) (sym (fits-Path whole steps (scope_of cs) position.Group) ∙ moved cs e (V.Path whole steps) h is) in
    (b.0, (and_parts (list_all (over_groups cs) steps) (is_some (kind_down steps cs (kind_of whole cs))) b.1).0)

pub grouped_whole : (cs : List Column) (e whole : BExpr) (steps : List BExpr) → IsGrouped cs e → e ≡ V.Path whole steps → IsGrouped cs whole
grouped_whole cs e whole steps h is = record { holds = (path-parts cs e whole steps h is).0 }

pub grouped_steps : (cs : List Column) (e whole : BExpr) (steps : List BExpr) → IsGrouped cs e → e ≡ V.Path whole steps → AreGrouped cs steps
grouped_steps cs e whole steps h is = record { each = (path-parts cs e whole steps h is).1 }

-- Columns, steps and window functions do not stand there.

pub no_Column : (cs : List Column) (e : BExpr) (n : List ℕ) → IsGrouped cs e → e ≡ V.Column n → ⊥
unfolding takes_columns
no_Column cs e n h is = let no : false ≡ true = sym (fits-Column n (scope_of cs) position.Group) ∙ moved cs e (V.Column n) h is in absurd cc

pub no_Step : (cs : List Column) (e : BExpr) (c : StepColumn) → IsGrouped cs e → e ≡ V.Step c → ⊥
unfolding takes_columns
no_Step cs e c h is = let no : false ≡ true = sym (fits-Step c (scope_of cs) position.Group) ∙ moved cs e (V.Step c) h is in absurd cc

pub no_Window : (cs : List Column) (e : BExpr) (f : Window) (args : List BExpr) → IsGrouped cs e → e ≡ V.Window f args → ⊥
unfolding takes_window
no_Window cs e f args h is = let no : false ≡ true = sym (fits-Window f args (scope_of cs) position.Group) ∙ moved cs e (V.Window f args) h is in absurd cc

-- Calls of aggregates.

call-parts : (cs : List Column) (e : BExpr) (f : Aggregate) (args : List BExpr) → IsGrouped cs e → e ≡ V.Aggregate f args → (has_one_result f args ≡ true) × (aggregate_fits f (checked_args args) (scope_of cs) position.Group ≡ true)
call-parts cs e f args h is =
    and_parts (has_one_result f args) (aggregate_fits f (checked_args args) (scope_of cs) position.Group) (sym (fits-Aggregate f args (scope_of cs) position.Group) ∙ moved cs e (V.Aggregate f args) h is)

pub grouped_call : (cs : List Column) (e : BExpr) (f : Aggregate) (args : List BExpr) → IsGrouped cs e → e ≡ V.Aggregate f args → IsCall cs f args
grouped_call cs e f args h is = record { fits = (call-parts cs e f args h is).1 }

pub grouped_one : (cs : List Column) (e : BExpr) (f : Aggregate) (args : List BExpr) → IsGrouped cs e → e ≡ V.Aggregate f args → HasOne f args
grouped_one cs e f args h is = record { one = (call-parts cs e f args h is).0 }

pub grouped_literal : (cs : List Column) (e : BExpr) (l : Lit) → IsGrouped cs e → e ≡ V.Literal l → IsWellFormed l.value
unfolding literal_fits
grouped_literal cs e l h is =
    let fits = sym (fits-Literal l (scope_of cs) position.Group) ∙ moved cs e (V.Literal l) h is in
    (is_well_formed-decides l.value).0 (and_parts (is_of_kind l.kind l.value) (is_well_formed l.value) fits).1

pub ruleset grouped_parts = (grouped_args, grouped_first, grouped_links, grouped_whole, grouped_steps, no_Column, no_Step, no_Window, grouped_call, grouped_one)

-- One of several.

pub grouped_item : (cs : List Column) (es : List BExpr) (i : ℕ) (e : BExpr) → e ≡ get_or es i e → i < length es → AreGrouped cs es → IsGrouped cs e
grouped_item cs [] i e is lt h = absurd (omega arith)
grouped_item cs (x ∷ es) zero e is lt h = record { holds = subst (λ (y : BExpr). over_groups cs y ≡ true) (sym is) (and_parts (over_groups cs x) (list_all (over_groups cs) es) h.each).0 }
grouped_item cs (x ∷ es) (suc i) e is lt h = grouped_item cs es i e is (omega (arith, lt)) (record { each = (and_parts (over_groups cs x) (list_all (over_groups cs) es) h.each).1 })

link-each : (cs : List Column) (ls : List (ChainSign × BExpr)) (i : ℕ) (l : ChainSign × BExpr) → l ≡ get_or ls i l → i < length ls → links_fit ls (scope_of cs) position.Group ≡ true → over_groups cs l.1 ≡ true
unfolding links_fit
link-each cs [] i l is lt h = absurd (omega arith)
link-each cs (x ∷ ls) zero l is lt h = subst (λ (y : ChainSign × BExpr). over_groups cs y.1 ≡ true) (sym is) (and_parts (over_groups cs x.1) (list_all (λ (y : ChainSign × BExpr). over_groups cs y.1) ls) h).0
link-each cs (x ∷ ls) (suc i) l is lt h = link-each cs ls i l is (omega (arith, lt)) (and_parts (over_groups cs x.1) (list_all (λ (y : ChainSign × BExpr). over_groups cs y.1) ls) h).1

pub grouped_link : (cs : List Column) (ls : List (ChainSign × BExpr)) (i : ℕ) (l : ChainSign × BExpr) → l ≡ get_or ls i l → i < length ls → AreLinksGrouped cs ls → IsGrouped cs l.1
grouped_link cs ls i l is lt h = record { holds = link-each cs ls i l is lt h.each }

pub ruleset grouped_items = (grouped_item, grouped_link)

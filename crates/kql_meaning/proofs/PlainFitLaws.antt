-- An expression that fits where neither window functions nor aggregates may stand is plain.
use Rattle.std.proofs.Common.{◌≡◌, Bool, true, false, List, [], ◌∷◌, map, refl, sym, ◌∙◌, subst}
use Rattle.std.specs.Prelude.{◌&&◌, is_some}
use Rattle.std.specs.List.{list_all}
use Rattle.std.proofs.lemmas.Bool.{and_parts}
use Rattle.kql_functions.specs.declared.aggregate.Aggregate.{Aggregate}
use Rattle.kql_functions.specs.declared.func.Func.{Func}
use Rattle.kql_functions.specs.declared.window.Window.{Window}
use Rattle.kql_bound.specs.declared.expr.BExpr.{BExpr, ind-BExpr, map-BExpr, roll-BExpr}
use Rattle.kql_bound.specs.declared.expr.BExpr.TheOpen.{BExpr-F}
use Rattle.kql_bound.specs.declared.expr.BExpr.TheVariants as V
use Rattle.kql_bound.specs.declared.expr.ChainSign.{ChainSign}
use Rattle.kql_meaning.specs.declared.position.Position.TheVariants as position
use Rattle.kql_meaning.specs.Expressions.{call_kind, kind_along, kind_down, kind_of, kinds_in}
use Rattle.kql_meaning.specs.FittingExpressions.{Scope, aggregate_fits, checked_args, expr_fits, is_callable, links_fit, part_fits, takes_aggregate, takes_window}
use Rattle.kql_meaning.specs.LawsOfRows.{PlainWhereFits}
use Rattle.kql_meaning.specs.Results.{has_one_result}
use Rattle.kql_meaning.specs.RowByRow.{is_plain}
use Rattle.kql_meaning.proofs.ExpressionFitLaws.{aggregate-checked, fits-Aggregate, fits-Call, fits-Chain, fits-Path, fits-Window}
use Rattle.kql_meaning.proofs.PlainLaws.{links_plain, plain-Call, plain-Chain, plain-Column, plain-Literal, plain-Path, plain-Step}

abbrev IsPlainWhereFits : BExpr → Type 0
IsPlainWhereFits e = (scope : Scope) → expr_fits e scope position.Plain ≡ true → is_plain e ≡ true

abbrev Given : Type 0
Given = (e : BExpr) × IsPlainWhereFits e

abbrev bare : Given → BExpr
bare g = g.0

abbrev bare_link : ChainSign × Given → ChainSign × BExpr
bare_link l = (l.0, l.1.0)

abbrev fits_here : Scope → BExpr → Bool
fits_here scope e = expr_fits e scope position.Plain

all-plain : (gs : List Given) (scope : Scope) → list_all (fits_here scope) (map bare gs) ≡ true → list_all is_plain (map bare gs) ≡ true
all-plain [] scope r = refl
all-plain (g ∷ gs) scope r =
    let b = and_parts (fits_here scope g.0) (list_all (fits_here scope) (map bare gs)) r in
    rw (g.1 scope b.0) (all-plain gs scope b.1)

all-links : (ls : List (ChainSign × Given)) (scope : Scope) → links_fit (map bare_link ls) scope position.Plain ≡ true → links_plain (map bare_link ls) ≡ true
unfolding links_fit
all-links [] scope r = refl
all-links (l ∷ ls) scope r =
    let b = and_parts (fits_here scope l.1.0) (list_all (λ (l : ChainSign × BExpr). fits_here scope l.1) (map bare_link ls)) r in
    rw (l.1.1 scope b.0) (all-links ls scope b.1)

call-plain : (f : Func) (gs : List Given) → IsPlainWhereFits (V.Call f (map bare gs))
call-plain f gs scope r =
    let es = map bare gs in
    let b = and_parts (is_callable f) (list_all (fits_here scope) es && (part_fits f es && is_some (call_kind f (kinds_in es scope.columns)))) (sym (fits-Call f es scope position.Plain) ∙ r) in
    let c = and_parts (list_all (fits_here scope) es) (part_fits f es && is_some (call_kind f (kinds_in es scope.columns))) b.1 in
    plain-Call f es ∙ all-plain gs scope c.0

chain-plain : (first : Given) (gs : List (ChainSign × Given)) → IsPlainWhereFits (V.Chain first.0 (map bare_link gs))
chain-plain first gs scope r =
    let ls = map bare_link gs in
    let b = and_parts (fits_here scope first.0) (links_fit ls scope position.Plain && is_some (kind_along ls scope.columns (kind_of first.0 scope.columns))) (sym (fits-Chain first.0 ls scope position.Plain) ∙ r) in
    let c = and_parts (links_fit ls scope position.Plain) (is_some (kind_along ls scope.columns (kind_of first.0 scope.columns))) b.1 in
    plain-Chain first.0 ls ∙ rw (first.1 scope b.0) (all-links gs scope c.0)

path-plain : (whole : Given) (gs : List Given) → IsPlainWhereFits (V.Path whole.0 (map bare gs))
path-plain whole gs scope r =
    let es = map bare gs in
    let b = and_parts (fits_here scope whole.0) (list_all (fits_here scope) es && is_some (kind_down es scope.columns (kind_of whole.0 scope.columns))) (sym (fits-Path whole.0 es scope position.Plain) ∙ r) in
    let c = and_parts (list_all (fits_here scope) es) (is_some (kind_down es scope.columns (kind_of whole.0 scope.columns))) b.1 in
    plain-Path whole.0 es ∙ rw (whole.1 scope b.0) (all-plain gs scope c.0)

window-plain : (f : Window) (args : List BExpr) → IsPlainWhereFits (V.Window f args)
unfolding takes_window
window-plain f args scope r = let no : false ≡ true = sym (fits-Window f args scope position.Plain) ∙ r in absurd cc

aggregate-plain : (f : Aggregate) (args : List BExpr) → IsPlainWhereFits (V.Aggregate f args)
unfolding takes_aggregate
aggregate-plain f args scope r =
    let b = and_parts (has_one_result f args) (aggregate_fits f (checked_args args) scope position.Plain) (sym (fits-Aggregate f args scope position.Plain) ∙ r) in
    let no : false ≡ true = sym (aggregate-checked f args scope position.Plain) ∙ b.1 in
    absurd cc

of-layer : (y : BExpr-F Given) → IsPlainWhereFits (roll-BExpr (map-BExpr Given BExpr bare y))
of-layer (BExpr-F.Literal l) = subst IsPlainWhereFits (sym (V.rolls-Literal l)) (λ scope r. plain-Literal l)
of-layer (BExpr-F.Column n) = subst IsPlainWhereFits (sym (V.rolls-Column n)) (λ scope r. plain-Column n)
of-layer (BExpr-F.Step c) = subst IsPlainWhereFits (sym (V.rolls-Step c)) (λ scope r. plain-Step c)
of-layer (BExpr-F.Call f gs) = subst IsPlainWhereFits (sym (V.rolls-Call f (map bare gs))) (call-plain f gs)
of-layer (BExpr-F.Chain first gs) = subst IsPlainWhereFits (sym (V.rolls-Chain first.0 (map bare_link gs))) (chain-plain first gs)
of-layer (BExpr-F.Path whole gs) = subst IsPlainWhereFits (sym (V.rolls-Path whole.0 (map bare gs))) (path-plain whole gs)
of-layer (BExpr-F.Window f gs) = subst IsPlainWhereFits (sym (V.rolls-Window f (map bare gs))) (window-plain f (map bare gs))
of-layer (BExpr-F.Aggregate f gs) = subst IsPlainWhereFits (sym (V.rolls-Aggregate f (map bare gs))) (aggregate-plain f (map bare gs))

each-plain : (e : BExpr) → IsPlainWhereFits e
each-plain = ind-BExpr IsPlainWhereFits (λ x y is. subst (λ (z : BExpr-F BExpr). IsPlainWhereFits (roll-BExpr z)) is (of-layer y))

pub plain_where_fits : PlainWhereFits
plain_where_fits e scope r = each-plain e scope r

pub ruleset plain_fit_laws = (plain_where_fits)

-- What fits where neither window functions nor aggregates may stand also fits where window functions may.
use Rattle.std.proofs.Common.{◌≡◌, ℕ, Bool, true, false, List, [], ◌∷◌, map, refl, sym, ◌∙◌, subst}
use Rattle.std.specs.Prelude.{◌&&◌, is_some}
use Rattle.std.specs.List.{list_all}
use Rattle.std.proofs.lemmas.Bool.{and_from, and_parts}
use Rattle.kql_cells.specs.declared.schema.Column.{Column}
use Rattle.kql_functions.specs.declared.aggregate.Aggregate.{Aggregate}
use Rattle.kql_functions.specs.declared.func.Func.{Func}
use Rattle.kql_functions.specs.declared.window.Window.{Window}
use Rattle.kql_bound.specs.declared.expr.BExpr.{BExpr, ind-BExpr, map-BExpr, roll-BExpr}
use Rattle.kql_bound.specs.declared.expr.BExpr.TheOpen.{BExpr-F}
use Rattle.kql_bound.specs.declared.expr.BExpr.TheVariants as V
use Rattle.kql_bound.specs.declared.expr.ChainSign.{ChainSign}
use Rattle.kql_bound.specs.declared.expr.StepColumn.{StepColumn}
use Rattle.kql_bound.specs.declared.literal.Lit.{Lit}
use Rattle.kql_bound.specs.declared.parts.BItem.{BItem}
use Rattle.kql_meaning.specs.declared.position.Position.TheVariants as position
use Rattle.kql_meaning.specs.Expressions.{call_kind, kind_along, kind_down, kind_of, kinds_in}
use Rattle.kql_meaning.specs.FittingExpressions.{Scope, aggregate_fits, checked_args, expr_fits, is_callable, links_fit, part_fits, scope_of, takes_aggregate, takes_columns, takes_window}
use Rattle.kql_meaning.specs.FittingOperators.{has_its_names, item_fits, items_fit}
use Rattle.kql_meaning.specs.Results.{has_one_result}
use Rattle.kql_meaning.proofs.ExpressionFitLaws.{aggregate-checked, fits-Aggregate, fits-Call, fits-Chain, fits-Column, fits-Literal, fits-Path, fits-Step, fits-Window}

abbrev WidensTo : BExpr → Type 0
WidensTo e = (scope : Scope) → expr_fits e scope position.Plain ≡ true → expr_fits e scope position.Window ≡ true

abbrev Given : Type 0
Given = (e : BExpr) × WidensTo e

abbrev bare : Given → BExpr
bare g = g.0

abbrev bare_link : ChainSign × Given → ChainSign × BExpr
bare_link l = (l.0, l.1.0)

abbrev plain_here : Scope → BExpr → Bool
plain_here scope e = expr_fits e scope position.Plain

abbrev window_here : Scope → BExpr → Bool
window_here scope e = expr_fits e scope position.Window

all-widen : (gs : List Given) (scope : Scope) → list_all (plain_here scope) (map bare gs) ≡ true → list_all (window_here scope) (map bare gs) ≡ true
all-widen [] scope r = refl
all-widen (g ∷ gs) scope r =
    let b = and_parts (plain_here scope g.0) (list_all (plain_here scope) (map bare gs)) r in
    and_from (window_here scope g.0) (list_all (window_here scope) (map bare gs)) (g.1 scope b.0) (all-widen gs scope b.1)

links-widen : (ls : List (ChainSign × Given)) (scope : Scope) → links_fit (map bare_link ls) scope position.Plain ≡ true → links_fit (map bare_link ls) scope position.Window ≡ true
unfolding links_fit
links-widen [] scope r = refl
links-widen (l ∷ ls) scope r =
    let b = and_parts (plain_here scope l.1.0) (list_all (λ (l : ChainSign × BExpr). plain_here scope l.1) (map bare_link ls)) r in
    and_from (window_here scope l.1.0) (list_all (λ (l : ChainSign × BExpr). window_here scope l.1) (map bare_link ls)) (l.1.1 scope b.0) (links-widen ls scope b.1)

literal-widens : (l : Lit) → WidensTo (V.Literal l)
literal-widens l scope r = fits-Literal l scope position.Window ∙ (sym (fits-Literal l scope position.Plain) ∙ r)

column-widens : (n : List ℕ) → WidensTo (V.Column n)
unfolding takes_columns
column-widens n scope r = fits-Column n scope position.Window ∙ (sym (fits-Column n scope position.Plain) ∙ r)

step-widens : (c : StepColumn) → WidensTo (V.Step c)
unfolding takes_columns
step-widens c scope r = fits-Step c scope position.Window ∙ (sym (fits-Step c scope position.Plain) ∙ r)

call-widens : (f : Func) (gs : List Given) → WidensTo (V.Call f (map bare gs))
call-widens f gs scope r =
    let es = map bare gs in
    let more = part_fits f es && is_some (call_kind f (kinds_in es scope.columns)) in
    let b = and_parts (is_callable f) (list_all (plain_here scope) es && more) (sym (fits-Call f es scope position.Plain) ∙ r) in
    let c = and_parts (list_all (plain_here scope) es) more b.1 in
    fits-Call f es scope position.Window ∙ and_from (is_callable f) (list_all (window_here scope) es && more) b.0 (and_from (list_all (window_here scope) es) more (all-widen gs scope c.0) c.1)

chain-widens : (first : Given) (gs : List (ChainSign × Given)) → WidensTo (V.Chain first.0 (map bare_link gs))
chain-widens first gs scope r =
    let ls = map bare_link gs in
    let more = is_some (kind_along ls scope.columns (kind_of first.0 scope.columns)) in
    let b = and_parts (plain_here scope first.0) (links_fit ls scope position.Plain && more) (sym (fits-Chain first.0 ls scope position.Plain) ∙ r) in
    let c = and_parts (links_fit ls scope position.Plain) more b.1 in
    fits-Chain first.0 ls scope position.Window ∙ and_from (window_here scope first.0) (links_fit ls scope position.Window && more) (first.1 scope b.0) (and_from (links_fit ls scope position.Window) more (links-widen gs scope c.0) c.1)

path-widens : (whole : Given) (gs : List Given) → WidensTo (V.Path whole.0 (map bare gs))
path-widens whole gs scope r =
    let es = map bare gs in
    let more = is_some (kind_down es scope.columns (kind_of whole.0 scope.columns)) in
    let b = and_parts (plain_here scope whole.0) (list_all (plain_here scope) es && more) (sym (fits-Path whole.0 es scope position.Plain) ∙ r) in
    let c = and_parts (list_all (plain_here scope) es) more b.1 in
    fits-Path whole.0 es scope position.Window ∙ and_from (window_here scope whole.0) (list_all (window_here scope) es && more) (whole.1 scope b.0) (and_from (list_all (window_here scope) es) more (all-widen gs scope c.0) c.1)

window-widens : (f : Window) (args : List BExpr) → WidensTo (V.Window f args)
unfolding takes_window
window-widens f args scope r = let no : false ≡ true = sym (fits-Window f args scope position.Plain) ∙ r in absurd cc

aggregate-widens : (f : Aggregate) (args : List BExpr) → WidensTo (V.Aggregate f args)
unfolding takes_aggregate
aggregate-widens f args scope r =
    let b = and_parts (has_one_result f args) (aggregate_fits f (checked_args args) scope position.Plain) (sym (fits-Aggregate f args scope position.Plain) ∙ r) in
    let no : false ≡ true = sym (aggregate-checked f args scope position.Plain) ∙ b.1 in
    absurd cc

of-layer : (y : BExpr-F Given) → WidensTo (roll-BExpr (map-BExpr Given BExpr bare y))
of-layer (BExpr-F.Literal l) = subst WidensTo (sym (V.rolls-Literal l)) (literal-widens l)
of-layer (BExpr-F.Column n) = subst WidensTo (sym (V.rolls-Column n)) (column-widens n)
of-layer (BExpr-F.Step c) = subst WidensTo (sym (V.rolls-Step c)) (step-widens c)
of-layer (BExpr-F.Call f gs) = subst WidensTo (sym (V.rolls-Call f (map bare gs))) (call-widens f gs)
of-layer (BExpr-F.Chain first gs) = subst WidensTo (sym (V.rolls-Chain first.0 (map bare_link gs))) (chain-widens first gs)
of-layer (BExpr-F.Path whole gs) = subst WidensTo (sym (V.rolls-Path whole.0 (map bare gs))) (path-widens whole gs)
of-layer (BExpr-F.Window f gs) = subst WidensTo (sym (V.rolls-Window f (map bare gs))) (window-widens f (map bare gs))
of-layer (BExpr-F.Aggregate f gs) = subst WidensTo (sym (V.rolls-Aggregate f (map bare gs))) (aggregate-widens f (map bare gs))

each-widens : (e : BExpr) → WidensTo e
each-widens = ind-BExpr WidensTo (λ x y is. subst (λ (z : BExpr-F BExpr). WidensTo (roll-BExpr z)) is (of-layer y))

pub items-widen : (items : List BItem) (cs : List Column) → items_fit items cs position.Plain ≡ true → items_fit items cs position.Window ≡ true
unfolding items_fit item_fits
items-widen [] cs r = refl
items-widen (b ∷ bs) cs r =
    let parts = and_parts (item_fits (scope_of cs) position.Plain b) (list_all (item_fits (scope_of cs) position.Plain) bs) r in
    let own = and_parts (expr_fits b.expr (scope_of cs) position.Plain) (has_its_names b cs) parts.0 in
    and_from (item_fits (scope_of cs) position.Window b) (list_all (item_fits (scope_of cs) position.Window) bs)
    (and_from (expr_fits b.expr (scope_of cs) position.Window) (has_its_names b cs) (each-widens b.expr (scope_of cs) own.0) own.1)
    (items-widen bs cs parts.1)

-- The equations of `stands`, one for each variant of an expression.
use Rattle.std.proofs.Common.{◌≡◌, ℕ, Bool, true, List, [], ◌∷◌, map, refl, sym, ap, ◌∙◌}
use Rattle.std.specs.Prelude.{◌&&◌}
use Rattle.std.specs.List.{list_all}
use Rattle.kql_functions.specs.declared.func.Func.{Func}
use Rattle.kql_functions.specs.declared.aggregate.Aggregate.{Aggregate}
use Rattle.kql_functions.specs.declared.window.Window.{Window}
use Rattle.kql_bound.specs.declared.expr.BExpr.{BExpr, para-roll-BExpr}
use Rattle.kql_bound.specs.declared.expr.BExpr.TheOpen.{BExpr-F}
use Rattle.kql_bound.specs.declared.expr.BExpr.TheVariants as V
use Rattle.kql_bound.specs.declared.expr.ChainSign.{ChainSign}
use Rattle.kql_bound.specs.declared.expr.StepColumn.{StepColumn}
use Rattle.kql_bound.specs.declared.literal.Lit.{Lit}
use Rattle.kql_meaning.specs.declared.position.Position.{Position}
use Rattle.kql_meaning.specs.FittingExpressions.{takes_columns}
use Rattle.bind_expr_laws.proofs.Standing.{Tried, counts_well, is_right, part_of, stands, stands_step}

abbrev tried : Position → BExpr → Tried
tried at e = (e, stands at e)

abbrev tried_link : Position → ChainSign × BExpr → ChainSign × Tried
tried_link at l = (l.0, tried at l.1)

all-map : (at : Position) (es : List BExpr) → list_all is_right (map (tried at) es) ≡ list_all (stands at) es
all-map at [] = refl
all-map at (e ∷ es) = ap (λ b. stands at e && b) (all-map at es)

links-map : (at : Position) (links : List (ChainSign × BExpr)) → list_all (λ (l : ChainSign × Tried). is_right l.1) (map (tried_link at) links) ≡ list_all (λ (l : ChainSign × BExpr). stands at l.1) links
links-map at [] = refl
links-map at (l ∷ ls) = ap (λ b. stands at l.1 && b) (links-map at ls)

parts-map : (at : Position) (es : List BExpr) → map part_of (map (tried at) es) ≡ es
parts-map at [] = refl
parts-map at (e ∷ es) = ap (λ (xs : List BExpr). e ∷ xs) (parts-map at es)

pub stands-Literal : (at : Position) (l : Lit) → stands at (V.Literal l) ≡ true
unfolding stands
stands-Literal at l = ap (stands at) (sym (V.rolls-Literal l)) ∙ para-roll-BExpr Bool (stands_step at) (BExpr-F.Literal l)

pub stands-Column : (at : Position) (n : List ℕ) → stands at (V.Column n) ≡ takes_columns at
unfolding stands
stands-Column at n = ap (stands at) (sym (V.rolls-Column n)) ∙ para-roll-BExpr Bool (stands_step at) (BExpr-F.Column n)

pub stands-Step : (at : Position) (c : StepColumn) → stands at (V.Step c) ≡ takes_columns at
unfolding stands
stands-Step at c = ap (stands at) (sym (V.rolls-Step c)) ∙ para-roll-BExpr Bool (stands_step at) (BExpr-F.Step c)

call-step : (at : Position) (f : Func) (args : List BExpr) → stands at (V.Call f args) ≡ list_all is_right (map (tried at) args)
unfolding stands
call-step at f args = ap (stands at) (sym (V.rolls-Call f args)) ∙ para-roll-BExpr Bool (stands_step at) (BExpr-F.Call f args)

pub stands-Call : (at : Position) (f : Func) (args : List BExpr) → stands at (V.Call f args) ≡ list_all (stands at) args
stands-Call at f args = call-step at f args ∙ all-map at args

chain-step : (at : Position) (first : BExpr) (links : List (ChainSign × BExpr)) → stands at (V.Chain first links) ≡ (stands at first && list_all (λ (l : ChainSign × Tried). is_right l.1) (map (tried_link at) links))
unfolding stands
chain-step at first links = ap (stands at) (sym (V.rolls-Chain first links)) ∙ para-roll-BExpr Bool (stands_step at) (BExpr-F.Chain first links)

pub stands-Chain : (at : Position) (first : BExpr) (links : List (ChainSign × BExpr)) → stands at (V.Chain first links) ≡ (stands at first && list_all (λ (l : ChainSign × BExpr). stands at l.1) links)
stands-Chain at first links = chain-step at first links ∙ ap (λ b. stands at first && b) (links-map at links)

path-step : (at : Position) (whole : BExpr) (steps : List BExpr) → stands at (V.Path whole steps) ≡ (stands at whole && list_all is_right (map (tried at) steps))
unfolding stands
path-step at whole steps = ap (stands at) (sym (V.rolls-Path whole steps)) ∙ para-roll-BExpr Bool (stands_step at) (BExpr-F.Path whole steps)

pub stands-Path : (at : Position) (whole : BExpr) (steps : List BExpr) → stands at (V.Path whole steps) ≡ (stands at whole && list_all (stands at) steps)
stands-Path at whole steps = path-step at whole steps ∙ ap (λ b. stands at whole && b) (all-map at steps)

pub stands-Window : (at : Position) (f : Window) (args : List BExpr) → stands at (V.Window f args) ≡ true
unfolding stands
stands-Window at f args = ap (stands at) (sym (V.rolls-Window f args)) ∙ para-roll-BExpr Bool (stands_step at) (BExpr-F.Window f args)

aggregate-step : (at : Position) (f : Aggregate) (args : List BExpr) → stands at (V.Aggregate f args) ≡ counts_well at f (map part_of (map (tried at) args))
unfolding stands
aggregate-step at f args = ap (stands at) (sym (V.rolls-Aggregate f args)) ∙ para-roll-BExpr Bool (stands_step at) (BExpr-F.Aggregate f args)

pub stands-Aggregate : (at : Position) (f : Aggregate) (args : List BExpr) → stands at (V.Aggregate f args) ≡ counts_well at f args
stands-Aggregate at f args = aggregate-step at f args ∙ ap (counts_well at f) (parts-map at args)

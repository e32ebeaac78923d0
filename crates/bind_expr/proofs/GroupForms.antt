-- What `summarize` asks of the form of an item, one equation for each variant of an expression.
use Rattle.std.proofs.Common.{◌≡◌, ◌||◌, not, ℕ, Bool, true, false, List, [], ◌∷◌, map, refl, sym, ap, ◌∙◌}
use Rattle.std.specs.List.{list_any}
use Rattle.kql_functions.specs.declared.aggregate.Aggregate.{Aggregate}
use Rattle.kql_functions.specs.declared.func.Func.{Func}
use Rattle.kql_functions.specs.declared.window.Window.{Window}
use Rattle.kql_bound.specs.declared.expr.BExpr.{BExpr, fold-roll-BExpr, out-BExpr, out-roll-BExpr, para-roll-BExpr}
use Rattle.kql_bound.specs.declared.expr.BExpr.TheOpen.{BExpr-F}
use Rattle.kql_bound.specs.declared.expr.BExpr.TheVariants as V
use Rattle.kql_bound.specs.declared.expr.ChainSign.{ChainSign}
use Rattle.kql_bound.specs.declared.expr.StepColumn.{StepColumn}
use Rattle.kql_bound.specs.declared.literal.Lit.{Lit}
use Rattle.kql_meaning.specs.Results.{has_one_result}
use Rattle.bind_expr.specs.GroupForms.{Looked, any_looked, bad_count_step, bare_column_step, counts_badly, has_bad_count, has_bare_column, has_several_results, several_step}

any-map : {X Y : Type 0} (p : Y → Bool) (f : X → Y) (xs : List X) → list_any p (map f xs) ≡ list_any (λ x. p (f x)) xs
any-map p f [] = refl
any-map p f (x ∷ xs) = ap (λ b. p (f x) || b) (any-map p f xs)

-- Columns outside of aggregates.

pub bare-Literal : (l : Lit) → has_bare_column (V.Literal l) ≡ false
unfolding has_bare_column
bare-Literal l = ap has_bare_column (sym (V.rolls-Literal l)) ∙ fold-roll-BExpr Bool bare_column_step (BExpr-F.Literal l)

pub bare-Column : (n : List ℕ) → has_bare_column (V.Column n) ≡ true
unfolding has_bare_column
bare-Column n = ap has_bare_column (sym (V.rolls-Column n)) ∙ fold-roll-BExpr Bool bare_column_step (BExpr-F.Column n)

pub bare-Step : (c : StepColumn) → has_bare_column (V.Step c) ≡ true
unfolding has_bare_column
bare-Step c = ap has_bare_column (sym (V.rolls-Step c)) ∙ fold-roll-BExpr Bool bare_column_step (BExpr-F.Step c)

pub bare-Call : (f : Func) (args : List BExpr) → has_bare_column (V.Call f args) ≡ list_any has_bare_column args
unfolding has_bare_column
bare-Call f args = ap has_bare_column (sym (V.rolls-Call f args)) ∙ (fold-roll-BExpr Bool bare_column_step (BExpr-F.Call f args) ∙ any-map (λ b. b) has_bare_column args)

bare_link : ChainSign × BExpr → ChainSign × Bool
bare_link l = (l.0, has_bare_column l.1)

pub bare-Chain : (first : BExpr) (links : List (ChainSign × BExpr)) → has_bare_column (V.Chain first links) ≡ (has_bare_column first || list_any (λ (l : ChainSign × BExpr). has_bare_column l.1) links)
unfolding has_bare_column bare_link
bare-Chain first links = ap has_bare_column (sym (V.rolls-Chain first links)) ∙ (fold-roll-BExpr Bool bare_column_step (BExpr-F.Chain first links) ∙ ap (λ b. has_bare_column first || b) (any-map (λ (l : ChainSign × Bool). l.1) bare_link links))

pub bare-Path : (whole : BExpr) (steps : List BExpr) → has_bare_column (V.Path whole steps) ≡ (has_bare_column whole || list_any has_bare_column steps)
unfolding has_bare_column
bare-Path whole steps = ap has_bare_column (sym (V.rolls-Path whole steps)) ∙ (fold-roll-BExpr Bool bare_column_step (BExpr-F.Path whole steps) ∙ ap (λ b. has_bare_column whole || b) (any-map (λ b. b) has_bare_column steps))

pub bare-Window : (f : Window) (args : List BExpr) → has_bare_column (V.Window f args) ≡ list_any has_bare_column args
unfolding has_bare_column
bare-Window f args = ap has_bare_column (sym (V.rolls-Window f args)) ∙ (fold-roll-BExpr Bool bare_column_step (BExpr-F.Window f args) ∙ any-map (λ b. b) has_bare_column args)

pub bare-Aggregate : (f : Aggregate) (args : List BExpr) → has_bare_column (V.Aggregate f args) ≡ false
unfolding has_bare_column
bare-Aggregate f args = ap has_bare_column (sym (V.rolls-Aggregate f args)) ∙ fold-roll-BExpr Bool bare_column_step (BExpr-F.Aggregate f args)

pub ruleset bare_steps = (bare-Literal, bare-Column, bare-Step, bare-Call, bare-Chain, bare-Path, bare-Window, bare-Aggregate)

-- Several result columns.

pub several-Literal : (l : Lit) → has_several_results (V.Literal l) ≡ false
unfolding has_several_results
several-Literal l = ap several_step (ap out-BExpr (sym (V.rolls-Literal l)) ∙ out-roll-BExpr (BExpr-F.Literal l))

pub several-Column : (n : List ℕ) → has_several_results (V.Column n) ≡ false
unfolding has_several_results
several-Column n = ap several_step (ap out-BExpr (sym (V.rolls-Column n)) ∙ out-roll-BExpr (BExpr-F.Column n))

pub several-Step : (c : StepColumn) → has_several_results (V.Step c) ≡ false
unfolding has_several_results
several-Step c = ap several_step (ap out-BExpr (sym (V.rolls-Step c)) ∙ out-roll-BExpr (BExpr-F.Step c))

pub several-Call : (f : Func) (args : List BExpr) → has_several_results (V.Call f args) ≡ false
unfolding has_several_results
several-Call f args = ap several_step (ap out-BExpr (sym (V.rolls-Call f args)) ∙ out-roll-BExpr (BExpr-F.Call f args))

pub several-Chain : (first : BExpr) (links : List (ChainSign × BExpr)) → has_several_results (V.Chain first links) ≡ false
unfolding has_several_results
several-Chain first links = ap several_step (ap out-BExpr (sym (V.rolls-Chain first links)) ∙ out-roll-BExpr (BExpr-F.Chain first links))

pub several-Path : (whole : BExpr) (steps : List BExpr) → has_several_results (V.Path whole steps) ≡ false
unfolding has_several_results
several-Path whole steps = ap several_step (ap out-BExpr (sym (V.rolls-Path whole steps)) ∙ out-roll-BExpr (BExpr-F.Path whole steps))

pub several-Window : (f : Window) (args : List BExpr) → has_several_results (V.Window f args) ≡ false
unfolding has_several_results
several-Window f args = ap several_step (ap out-BExpr (sym (V.rolls-Window f args)) ∙ out-roll-BExpr (BExpr-F.Window f args))

pub several-Aggregate : (f : Aggregate) (args : List BExpr) → has_several_results (V.Aggregate f args) ≡ not (has_one_result f args)
unfolding has_several_results
several-Aggregate f args = ap several_step (ap out-BExpr (sym (V.rolls-Aggregate f args)) ∙ out-roll-BExpr (BExpr-F.Aggregate f args))

pub ruleset several_steps = (several-Literal, several-Column, several-Step, several-Call, several-Chain, several-Path, several-Window, several-Aggregate)

-- Counts of lists and sets.

looked : BExpr → Looked
looked e = (e, has_bad_count e)

looked_link : ChainSign × BExpr → ChainSign × Looked
looked_link l = (l.0, looked l.1)

looked-args : (args : List BExpr) → any_looked (map looked args) ≡ list_any has_bad_count args
unfolding looked
looked-args args = any-map (λ (a : Looked). a.1) looked args

looked-links : (links : List (ChainSign × BExpr)) → any_looked (map (λ (l : ChainSign × Looked). l.1) (map looked_link links)) ≡ list_any (λ (l : ChainSign × BExpr). has_bad_count l.1) links
unfolding looked looked_link
looked-links [] = refl
looked-links (l ∷ ls) = ap (λ b. has_bad_count l.1 || b) (looked-links ls)

looked-exprs : (args : List BExpr) → map {B = BExpr} (λ (a : Looked). a.0) (map looked args) ≡ args
unfolding looked
looked-exprs [] = refl
looked-exprs (e ∷ es) = ap (λ (xs : List BExpr). e ∷ xs) (looked-exprs es)

pub count-Literal : (l : Lit) → has_bad_count (V.Literal l) ≡ false
unfolding has_bad_count
count-Literal l = ap has_bad_count (sym (V.rolls-Literal l)) ∙ para-roll-BExpr Bool bad_count_step (BExpr-F.Literal l)

pub count-Column : (n : List ℕ) → has_bad_count (V.Column n) ≡ false
unfolding has_bad_count
count-Column n = ap has_bad_count (sym (V.rolls-Column n)) ∙ para-roll-BExpr Bool bad_count_step (BExpr-F.Column n)

pub count-Step : (c : StepColumn) → has_bad_count (V.Step c) ≡ false
unfolding has_bad_count
count-Step c = ap has_bad_count (sym (V.rolls-Step c)) ∙ para-roll-BExpr Bool bad_count_step (BExpr-F.Step c)

pub count-Call : (f : Func) (args : List BExpr) → has_bad_count (V.Call f args) ≡ list_any has_bad_count args
unfolding has_bad_count looked
count-Call f args = ap has_bad_count (sym (V.rolls-Call f args)) ∙ (para-roll-BExpr Bool bad_count_step (BExpr-F.Call f args) ∙ looked-args args)

pub count-Chain : (first : BExpr) (links : List (ChainSign × BExpr)) → has_bad_count (V.Chain first links) ≡ (has_bad_count first || list_any (λ (l : ChainSign × BExpr). has_bad_count l.1) links)
unfolding has_bad_count looked looked_link
count-Chain first links = ap has_bad_count (sym (V.rolls-Chain first links)) ∙ (para-roll-BExpr Bool bad_count_step (BExpr-F.Chain first links) ∙ ap (λ b. has_bad_count first || b) (looked-links links))

pub count-Path : (whole : BExpr) (steps : List BExpr) → has_bad_count (V.Path whole steps) ≡ (has_bad_count whole || list_any has_bad_count steps)
unfolding has_bad_count looked
count-Path whole steps = ap has_bad_count (sym (V.rolls-Path whole steps)) ∙ (para-roll-BExpr Bool bad_count_step (BExpr-F.Path whole steps) ∙ ap (λ b. has_bad_count whole || b) (looked-args steps))

pub count-Window : (f : Window) (args : List BExpr) → has_bad_count (V.Window f args) ≡ list_any has_bad_count args
unfolding has_bad_count looked
count-Window f args = ap has_bad_count (sym (V.rolls-Window f args)) ∙ (para-roll-BExpr Bool bad_count_step (BExpr-F.Window f args) ∙ looked-args args)

pub count-Aggregate : (f : Aggregate) (args : List BExpr) → has_bad_count (V.Aggregate f args) ≡ counts_badly f args
unfolding has_bad_count looked
count-Aggregate f args = ap has_bad_count (sym (V.rolls-Aggregate f args)) ∙ (para-roll-BExpr Bool bad_count_step (BExpr-F.Aggregate f args) ∙ ap (λ (es : List BExpr). counts_badly f es) (looked-exprs args))

pub ruleset count_steps = (count-Literal, count-Column, count-Step, count-Call, count-Chain, count-Path, count-Window, count-Aggregate)

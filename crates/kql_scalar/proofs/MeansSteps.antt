-- The equations of `means` and `is_placed`, and what they say of the parts.
use Rattle.std.proofs.Common.{◌≡◌, ◌<◌, ◌≤◌, ◌&&◌, ℕ, Bool, true, List, [], ◌∷◌, ◌++◌, length, map, get_or, refl, ap, ap₂, sym, ◌∙◌, arith}
use Rattle.std.specs.Prelude.{Option, Some, None}
use Rattle.std.specs.List.{list_all}
use Rattle.std.proofs.lemmas.Bool.{eqb-true}
use Rattle.std.proofs.lemmas.Bool.Decides.{nat_tests}
use Rattle.std.proofs.lemmas.List.Folds.{list_all-map}
use Rattle.kql_cells.specs.Named.{column_name, place_of}
use Rattle.kql_cells.specs.declared.schema.Column.{Column}
use Rattle.kql_cells.specs.declared.value.Kind.{Kind}
use Rattle.kql_cells.specs.declared.value.Kind.TheVariants as kind
use Rattle.kql_functions.specs.declared.func.Func.{Func}
use Rattle.kql_functions.specs.declared.window.Window.{Window}
use Rattle.kql_bound.specs.declared.expr.BExpr.{BExpr}
use Rattle.kql_bound.specs.declared.expr.BExpr.TheVariants as V
use Rattle.kql_bound.specs.declared.expr.ChainSign.{ChainSign}
use Rattle.kql_bound.specs.declared.expr.StepColumn.{StepColumn}
use Rattle.kql_bound.specs.declared.literal.Lit.{Lit}
use Rattle.kql_meaning.specs.Expressions.{first_kind, kind_of, kinds_in}
use Rattle.kql_meaning.specs.Literals.{is_well_formed}
use Rattle.kql_scalar.specs.Means.{AreLinksPlaced, ArePlaced, IsOfFirst, IsPlaced, Tested, is_at, is_nowhere, is_placed, is_placed_step, is_right, is_this, kind_of_first, link_means, means, means_step}
use Rattle.kql_scalar.specs.Scalar.{IsScalar}
use Rattle.kql_scalar.specs.declared.node.Node.{Node, fold-roll-Node, para-roll-Node}
use Rattle.kql_scalar.specs.declared.node.Node.TheOpen.{Node-F}
use Rattle.kql_scalar.specs.declared.node.Node.TheVariants as N
use Rattle.kql_scalar.proofs.ScalarSteps.{at_item, is_scalar-Literal, is_scalar-Step, joined, left, right, scalar-Aggregate, scalar-item, scalar-link}

-- What each variant stands for.

pub means-Literal : (l : Lit) → means (N.Literal l) ≡ V.Literal l
unfolding means
means-Literal l = ap means (sym (N.rolls-Literal l)) ∙ fold-roll-Node BExpr means_step (Node-F.Literal l)

pub means-Column : (n : List ℕ) (place : ℕ) → means (N.Column n place) ≡ V.Column n
unfolding means
means-Column n place = ap means (sym (N.rolls-Column n place)) ∙ fold-roll-Node BExpr means_step (Node-F.Column n place)

pub means-Missing : (n : List ℕ) → means (N.Missing n) ≡ V.Column n
unfolding means
means-Missing n = ap means (sym (N.rolls-Missing n)) ∙ fold-roll-Node BExpr means_step (Node-F.Missing n)

pub means-Step : (c : StepColumn) → means (N.Step c) ≡ V.Step c
unfolding means
means-Step c = ap means (sym (N.rolls-Step c)) ∙ fold-roll-Node BExpr means_step (Node-F.Step c)

pub means-Call : (f : Func) (args : List Node) → means (N.Call f args) ≡ V.Call f (map means args)
unfolding means
means-Call f args = ap means (sym (N.rolls-Call f args)) ∙ fold-roll-Node BExpr means_step (Node-F.Call f args)

pub means-Chain : (first : Node) (links : List (ChainSign × Node)) → means (N.Chain first links) ≡ V.Chain (means first) (map link_means links)
unfolding means
means-Chain first links = ap means (sym (N.rolls-Chain first links)) ∙ fold-roll-Node BExpr means_step (Node-F.Chain first links)

pub means-Path : (whole : Node) (steps : List Node) → means (N.Path whole steps) ≡ V.Path (means whole) (map means steps)
unfolding means
means-Path whole steps = ap means (sym (N.rolls-Path whole steps)) ∙ fold-roll-Node BExpr means_step (Node-F.Path whole steps)

pub means-Window : (f : Window) (args : List Node) (kind : Option Kind) → means (N.Window f args kind) ≡ V.Window f (map means args)
unfolding means
means-Window f args kind = ap means (sym (N.rolls-Window f args kind)) ∙ fold-roll-Node BExpr means_step (Node-F.Window f args kind)

pub ruleset means_equations = (means-Literal, means-Column, means-Missing, means-Step, means-Call, means-Chain, means-Path, means-Window)

-- When each variant is placed.

-- A part with whether it is placed.
abbrev tested : List Column → Node → Tested
tested columns n = (n, is_placed columns n)

abbrev tested_link : List Column → ChainSign × Node → ChainSign × Tested
tested_link columns l = (l.0, tested columns l.1)

bare : (columns : List Column) (ns : List Node) → map {B = Node} (λ (a : Tested). a.0) (map (tested columns) ns) ≡ ns
bare columns [] = refl
bare columns (n ∷ ns) = ap (λ (xs : List Node). n ∷ xs) (bare columns ns)

is_placed-Literal : (columns : List Column) (l : Lit) → is_placed columns (N.Literal l) ≡ is_well_formed l.value
unfolding is_placed
is_placed-Literal columns l = ap (is_placed columns) (sym (N.rolls-Literal l)) ∙ para-roll-Node Bool (is_placed_step columns) (Node-F.Literal l)

is_placed-Column : (columns : List Column) (n : List ℕ) (place : ℕ) → is_placed columns (N.Column n place) ≡ is_at place (place_of column_name n columns)
unfolding is_placed
is_placed-Column columns n place = ap (is_placed columns) (sym (N.rolls-Column n place)) ∙ para-roll-Node Bool (is_placed_step columns) (Node-F.Column n place)

is_placed-Missing : (columns : List Column) (n : List ℕ) → is_placed columns (N.Missing n) ≡ is_nowhere (place_of column_name n columns)
unfolding is_placed
is_placed-Missing columns n = ap (is_placed columns) (sym (N.rolls-Missing n)) ∙ para-roll-Node Bool (is_placed_step columns) (Node-F.Missing n)

is_placed-Step : (columns : List Column) (c : StepColumn) → is_placed columns (N.Step c) ≡ is_well_formed c.default.value
unfolding is_placed
is_placed-Step columns c = ap (is_placed columns) (sym (N.rolls-Step c)) ∙ para-roll-Node Bool (is_placed_step columns) (Node-F.Step c)

is_placed-Call : (columns : List Column) (f : Func) (args : List Node) → is_placed columns (N.Call f args) ≡ list_all (is_placed columns) args
unfolding is_placed
is_placed-Call columns f args = ap (is_placed columns) (sym (N.rolls-Call f args)) ∙ (para-roll-Node Bool (is_placed_step columns) (Node-F.Call f args) ∙ list_all-map is_right (tested columns) args)

is_placed-Chain : (columns : List Column) (first : Node) (links : List (ChainSign × Node)) → is_placed columns (N.Chain first links) ≡ (is_placed columns first && list_all (λ (l : ChainSign × Node). is_placed columns l.1) links)
unfolding is_placed
is_placed-Chain columns first links = ap (is_placed columns) (sym (N.rolls-Chain first links)) ∙ (para-roll-Node Bool (is_placed_step columns) (Node-F.Chain first links) ∙ ap (λ b. is_placed columns first && b) (list_all-map (λ (l : ChainSign × Tested). is_right l.1) (tested_link columns) links))

is_placed-Path : (columns : List Column) (whole : Node) (steps : List Node) → is_placed columns (N.Path whole steps) ≡ (is_placed columns whole && list_all (is_placed columns) steps)
unfolding is_placed
is_placed-Path columns whole steps = ap (is_placed columns) (sym (N.rolls-Path whole steps)) ∙ (para-roll-Node Bool (is_placed_step columns) (Node-F.Path whole steps) ∙ ap (λ b. is_placed columns whole && b) (list_all-map is_right (tested columns) steps))

is_placed-Window : (columns : List Column) (f : Window) (args : List Node) (kind : Option Kind) → is_placed columns (N.Window f args kind) ≡ (list_all (is_placed columns) args && is_this kind (kind_of_first columns args))
unfolding is_placed
is_placed-Window columns f args kind =
    ap (is_placed columns) (sym (N.rolls-Window f args kind))
    ∙ (para-roll-Node Bool (is_placed_step columns) (Node-F.Window f args kind)
    ∙ ap₂ (λ b xs. b && is_this kind (kind_of_first columns xs)) (list_all-map is_right (tested columns) args) (bare columns args))

-- What is made of scalar parts is placed.

pub placed-Literal : (columns : List Column) (l : Lit) → IsScalar (V.Literal l) → IsPlaced columns (N.Literal l)
placed-Literal columns l h = record { holds = is_placed-Literal columns l ∙ (sym (is_scalar-Literal l) ∙ h.holds) }

pub placed-Step : (columns : List Column) (c : StepColumn) → IsScalar (V.Step c) → IsPlaced columns (N.Step c)
placed-Step columns c h = record { holds = is_placed-Step columns c ∙ (sym (is_scalar-Step c) ∙ h.holds) }

found : (place : ℕ) (o : Option ℕ) → o ≡ Some place → is_at place o ≡ true
found place None e = cc
found place (Some found_place) e = let same : found_place ≡ place = cc in rw same (grind (arith, nat_tests))

nowhere : (o : Option ℕ) → o ≡ None → is_nowhere o ≡ true
nowhere None e = refl
nowhere (Some place) e = cc

pub placed-Column : (columns : List Column) (n : List ℕ) (place : ℕ) → place_of column_name n columns ≡ Some place → IsPlaced columns (N.Column n place)
placed-Column columns n place e = record { holds = is_placed-Column columns n place ∙ found place _ e }

pub placed-Missing : (columns : List Column) (n : List ℕ) → place_of column_name n columns ≡ None → IsPlaced columns (N.Missing n)
placed-Missing columns n e = record { holds = is_placed-Missing columns n ∙ nowhere _ e }

pub placed-Call : (columns : List Column) (f : Func) (args : List Node) → ArePlaced columns args → IsPlaced columns (N.Call f args)
placed-Call columns f args h = record { holds = is_placed-Call columns f args ∙ h.each }

pub placed-Chain : (columns : List Column) (first : Node) (links : List (ChainSign × Node)) → IsPlaced columns first → AreLinksPlaced columns links → IsPlaced columns (N.Chain first links)
placed-Chain columns first links h k = record { holds = is_placed-Chain columns first links ∙ joined _ _ h.holds k.each }

pub placed-Path : (columns : List Column) (whole : Node) (steps : List Node) → IsPlaced columns whole → ArePlaced columns steps → IsPlaced columns (N.Path whole steps)
placed-Path columns whole steps h k = record { holds = is_placed-Path columns whole steps ∙ joined _ _ h.holds k.each }

all_more : {X : Type 0} (p : X → Bool) (xs : List X) (x : X) → list_all p xs ≡ true → p x ≡ true → list_all p (xs ++ x ∷ []) ≡ true
all_more p [] x h k = rw k refl
all_more p (y ∷ ys) x h k = joined (p y) _ (left _ _ h) (all_more p ys x (right _ _ h) k)

pub placed-none : (columns : List Column) → ArePlaced columns []
placed-none columns = record { each = refl }

pub placed-more : (columns : List Column) (ns : List Node) (n : Node) → ArePlaced columns ns → IsPlaced columns n → ArePlaced columns (ns ++ n ∷ [])
placed-more columns ns n h k = record { each = all_more _ ns n h.each k.holds }

pub links-none : (columns : List Column) → AreLinksPlaced columns []
links-none columns = record { each = refl }

pub links-more : (columns : List Column) (ls : List (ChainSign × Node)) (l : ChainSign × Node) → AreLinksPlaced columns ls → IsPlaced columns l.1 → AreLinksPlaced columns (ls ++ l ∷ [])
links-more columns ls l h k = record { each = all_more _ ls l h.each k.holds }

-- The type of the first argument of a window function.

same-this : (k l : Option Kind) → k ≡ l → is_this k l ≡ true
same-this None None e = refl
same-this (Some kind.Bool) (Some kind.Bool) e = refl
same-this (Some kind.Long) (Some kind.Long) e = refl
same-this (Some kind.Text) (Some kind.Text) e = refl
same-this (Some kind.Moment) (Some kind.Moment) e = refl
same-this (Some kind.Span) (Some kind.Span) e = refl
same-this (Some kind.Dynamic) (Some kind.Dynamic) e = refl
same-this k l e = cc

this-same : (k l : Option Kind) → is_this k l ≡ true → k ≡ l
this-same None None e = refl
this-same (Some kind.Bool) (Some kind.Bool) e = refl
this-same (Some kind.Long) (Some kind.Long) e = refl
this-same (Some kind.Text) (Some kind.Text) e = refl
this-same (Some kind.Moment) (Some kind.Moment) e = refl
this-same (Some kind.Span) (Some kind.Span) e = refl
this-same (Some kind.Dynamic) (Some kind.Dynamic) e = refl
this-same k l e = cc

kinds-means : (columns : List Column) (ns : List Node) → kinds_in (map means ns) columns ≡ map (λ n. kind_of (means n) columns) ns
unfolding kinds_in
kinds-means columns [] = refl
kinds-means columns (n ∷ ns) = ap (λ ks. kind_of (means n) columns ∷ ks) (kinds-means columns ns)

pub kind-none : (columns : List Column) → first_kind (kinds_in [] columns) ≡ None
unfolding first_kind kinds_in
kind-none columns = refl

pub kind-some : (columns : List Column) (es : List BExpr) (e : BExpr) → 1 ≤ length es → e ≡ get_or es 0 e → kind_of e columns ≡ first_kind (kinds_in es columns)
unfolding first_kind kinds_in
kind-some columns [] e l is = absurd (omega arith)
kind-some columns (x ∷ xs) e l is = ap (λ x. kind_of x columns) is

pub kind-empty : (columns : List Column) (es : List BExpr) → length es < 1 → None ≡ first_kind (kinds_in es columns)
unfolding first_kind kinds_in
kind-empty columns [] l = refl
kind-empty columns (x ∷ xs) l = absurd (omega arith)

pub ruleset kind_steps = (kind-some, kind-empty)

pub placed-Window : (columns : List Column) (f : Window) (args : List Node) (kind : Option Kind) (es : List BExpr) → ArePlaced columns args → map means args ≡ es → kind ≡ first_kind (kinds_in es columns) → IsPlaced columns (N.Window f args kind)
unfolding kind_of_first
placed-Window columns f args kind es h made is = record {
  holds = is_placed-Window columns f args kind
      ∙ joined _ _ h.each (same-this kind _ (is ∙ (ap (λ xs. first_kind (kinds_in xs columns)) (sym made) ∙ ap first_kind (kinds-means columns args))));
}

pub ruleset means_steps = (means-Literal, means-Column, means-Missing, means-Step, means-Call, means-Chain, means-Path, means-Window, scalar-Aggregate, placed-Literal, placed-Step, placed-Column, placed-Missing, placed-Call, placed-Chain, placed-Path, placed-Window)

pub ruleset list_steps = (scalar-item, scalar-link, placed-none, placed-more, links-none, links-more)

-- The parts of what is placed.

pub parts-Call : (columns : List Column) (f : Func) (args : List Node) → IsPlaced columns (N.Call f args) → ArePlaced columns args
parts-Call columns f args h = record { each = sym (is_placed-Call columns f args) ∙ h.holds }

pub parts-first : (columns : List Column) (first : Node) (links : List (ChainSign × Node)) → IsPlaced columns (N.Chain first links) → IsPlaced columns first
parts-first columns first links h = record { holds = left _ _ (sym (is_placed-Chain columns first links) ∙ h.holds) }

pub parts-links : (columns : List Column) (first : Node) (links : List (ChainSign × Node)) → IsPlaced columns (N.Chain first links) → AreLinksPlaced columns links
parts-links columns first links h = record { each = right _ _ (sym (is_placed-Chain columns first links) ∙ h.holds) }

pub parts-whole : (columns : List Column) (whole : Node) (steps : List Node) → IsPlaced columns (N.Path whole steps) → IsPlaced columns whole
parts-whole columns whole steps h = record { holds = left _ _ (sym (is_placed-Path columns whole steps) ∙ h.holds) }

pub parts-steps : (columns : List Column) (whole : Node) (steps : List Node) → IsPlaced columns (N.Path whole steps) → ArePlaced columns steps
parts-steps columns whole steps h = record { each = right _ _ (sym (is_placed-Path columns whole steps) ∙ h.holds) }

pub parts-window : (columns : List Column) (f : Window) (args : List Node) (kind : Option Kind) → IsPlaced columns (N.Window f args kind) → ArePlaced columns args
parts-window columns f args kind h = record { each = left _ _ (sym (is_placed-Window columns f args kind) ∙ h.holds) }

pub parts-kind : (columns : List Column) (f : Window) (args : List Node) (kind : Option Kind) → IsPlaced columns (N.Window f args kind) → IsOfFirst columns args kind
parts-kind columns f args kind h = record { same = this-same kind _ (right _ _ (sym (is_placed-Window columns f args kind) ∙ h.holds)) }

pub parts-item : (columns : List Column) (ns : List Node) (i : ℕ) (n : Node) → n ≡ get_or ns i n → i < length ns → ArePlaced columns ns → IsPlaced columns n
parts-item columns ns i n is l h = record { holds = ap (is_placed columns) is ∙ at_item (is_placed columns) ns i n l h.each }

pub parts-link : (columns : List Column) (links : List (ChainSign × Node)) (i : ℕ) (link : ChainSign × Node) → link ≡ get_or links i link → i < length links → AreLinksPlaced columns links → IsPlaced columns link.1
parts-link columns links i link is l h = record { holds = ap (λ (k : ChainSign × Node). is_placed columns k.1) is ∙ at_item (λ (k : ChainSign × Node). is_placed columns k.1) links i link l h.each }

pub literal-form : (columns : List Column) (l : Lit) → IsPlaced columns (N.Literal l) → is_well_formed l.value ≡ true
literal-form columns l h = sym (is_placed-Literal columns l) ∙ h.holds

pub default-form : (columns : List Column) (c : StepColumn) → IsPlaced columns (N.Step c) → is_well_formed c.default.value ≡ true
default-form columns c h = sym (is_placed-Step columns c) ∙ h.holds

-- A column that is placed stands there.

at-found : (place : ℕ) (o : Option ℕ) → is_at place o ≡ true → o ≡ Some place
at-found place None e = cc
at-found place (Some q) e = let same : place ≡ q = eqb-true place q e in rw same refl

nowhere-found : (o : Option ℕ) → is_nowhere o ≡ true → o ≡ None
nowhere-found None e = refl
nowhere-found (Some q) e = cc

pub parts-Column : (columns : List Column) (n : List ℕ) (place : ℕ) → IsPlaced columns (N.Column n place) → place_of column_name n columns ≡ Some place
parts-Column columns n place h = at-found place _ (sym (is_placed-Column columns n place) ∙ h.holds)

pub parts-Missing : (columns : List Column) (n : List ℕ) → IsPlaced columns (N.Missing n) → place_of column_name n columns ≡ None
parts-Missing columns n h = nowhere-found _ (sym (is_placed-Missing columns n) ∙ h.holds)

pub ruleset item_steps = (parts-item, parts-link)

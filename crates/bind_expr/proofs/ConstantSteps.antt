-- The equations of `is_constant`, what they say of the parts, and the row over which a constant is evaluated.
use Rattle.std.proofs.Common.{◌≡◌, ◌<◌, ◌≤◌, ◌+◌, ◌&&◌, ◌↔◌, ℕ, zero, suc, Bool, true, false, List, [], ◌∷◌, length, map, take, get_or, refl, ap, sym, ◌∙◌, subst, arith}
use Rattle.std.specs.Prelude.{IsTrue}
use Rattle.std.specs.List.{list_all}
use Rattle.std.proofs.lemmas.List.{take_all, take_more}
use Rattle.std.proofs.lemmas.List.Folds.{list_all-map, list_all_more}
use Rattle.kql_cells.specs.Table.{RowFits}
use Rattle.kql_cells.specs.declared.schema.Column.{Column}
use Rattle.kql_cells.specs.declared.value.Value.{Value}
use Rattle.kql_functions.specs.declared.aggregate.Aggregate.{Aggregate}
use Rattle.kql_functions.specs.declared.func.Func.{Func}
use Rattle.kql_functions.specs.declared.window.Window.{Window}
use Rattle.kql_bound.specs.declared.expr.BExpr.{BExpr, fold-roll-BExpr}
use Rattle.kql_bound.specs.declared.expr.BExpr.TheOpen.{BExpr-F}
use Rattle.kql_bound.specs.declared.expr.BExpr.TheVariants as V
use Rattle.kql_bound.specs.declared.expr.ChainSign.{ChainSign}
use Rattle.kql_bound.specs.declared.expr.StepColumn.{StepColumn}
use Rattle.kql_bound.specs.declared.literal.Lit.{Lit}
use Rattle.kql_scalar.specs.Scalar.{IsScalar, is_scalar}
use Rattle.kql_scalar.proofs.ScalarSteps.{at_item, joined, left, right}
use Rattle.bind_expr.specs.Constants.{AreConstant, AreLinksConstant, IsConstant, is_constant, is_constant_step}

-- When each variant is constant.

pub constant-Literal : (l : Lit) → is_constant (V.Literal l) ≡ true
unfolding is_constant
constant-Literal l = ap is_constant (sym (V.rolls-Literal l)) ∙ fold-roll-BExpr Bool is_constant_step (BExpr-F.Literal l)

pub constant-Column : (n : List ℕ) → is_constant (V.Column n) ≡ false
unfolding is_constant
constant-Column n = ap is_constant (sym (V.rolls-Column n)) ∙ fold-roll-BExpr Bool is_constant_step (BExpr-F.Column n)

pub constant-Step : (c : StepColumn) → is_constant (V.Step c) ≡ false
unfolding is_constant
constant-Step c = ap is_constant (sym (V.rolls-Step c)) ∙ fold-roll-BExpr Bool is_constant_step (BExpr-F.Step c)

pub constant-Call : (f : Func) (args : List BExpr) → is_constant (V.Call f args) ≡ list_all is_constant args
unfolding is_constant
constant-Call f args = ap is_constant (sym (V.rolls-Call f args)) ∙ (fold-roll-BExpr Bool is_constant_step (BExpr-F.Call f args) ∙ list_all-map (λ b. b) is_constant args)

link_constant : ChainSign × BExpr → ChainSign × Bool
link_constant l = (l.0, is_constant l.1)

pub constant-Chain : (first : BExpr) (links : List (ChainSign × BExpr)) → is_constant (V.Chain first links) ≡ (is_constant first && list_all (λ (l : ChainSign × BExpr). is_constant l.1) links)
unfolding is_constant link_constant
constant-Chain first links = ap is_constant (sym (V.rolls-Chain first links)) ∙ (fold-roll-BExpr Bool is_constant_step (BExpr-F.Chain first links) ∙ ap (λ b. is_constant first && b) (list_all-map (λ (l : ChainSign × Bool). l.1) link_constant links))

pub constant-Path : (whole : BExpr) (steps : List BExpr) → is_constant (V.Path whole steps) ≡ (is_constant whole && list_all is_constant steps)
unfolding is_constant
constant-Path whole steps = ap is_constant (sym (V.rolls-Path whole steps)) ∙ (fold-roll-BExpr Bool is_constant_step (BExpr-F.Path whole steps) ∙ ap (λ b. is_constant whole && b) (list_all-map (λ b. b) is_constant steps))

pub constant-Window : (f : Window) (args : List BExpr) → is_constant (V.Window f args) ≡ false
unfolding is_constant
constant-Window f args = ap is_constant (sym (V.rolls-Window f args)) ∙ fold-roll-BExpr Bool is_constant_step (BExpr-F.Window f args)

pub constant-Aggregate : (f : Aggregate) (args : List BExpr) → is_constant (V.Aggregate f args) ≡ false
unfolding is_constant
constant-Aggregate f args = ap is_constant (sym (V.rolls-Aggregate f args)) ∙ fold-roll-BExpr Bool is_constant_step (BExpr-F.Aggregate f args)

-- The parts of a constant.

pub parts-Call : (f : Func) (args : List BExpr) → IsConstant (V.Call f args) → AreConstant args
parts-Call f args h = record { each = sym (constant-Call f args) ∙ h.holds }

pub parts-first : (first : BExpr) (links : List (ChainSign × BExpr)) → IsConstant (V.Chain first links) → IsConstant first
parts-first first links h = record { holds = left _ _ (sym (constant-Chain first links) ∙ h.holds) }

pub parts-links : (first : BExpr) (links : List (ChainSign × BExpr)) → IsConstant (V.Chain first links) → AreLinksConstant links
parts-links first links h = record { each = right _ _ (sym (constant-Chain first links) ∙ h.holds) }

pub parts-whole : (whole : BExpr) (steps : List BExpr) → IsConstant (V.Path whole steps) → IsConstant whole
parts-whole whole steps h = record { holds = left _ _ (sym (constant-Path whole steps) ∙ h.holds) }

pub parts-steps : (whole : BExpr) (steps : List BExpr) → IsConstant (V.Path whole steps) → AreConstant steps
parts-steps whole steps h = record { each = right _ _ (sym (constant-Path whole steps) ∙ h.holds) }

pub no-Column : (n : List ℕ) → IsConstant (V.Column n) → ⊥
no-Column n h = let e : true ≡ false = sym h.holds ∙ constant-Column n in cc

pub no-Step : (c : StepColumn) → IsConstant (V.Step c) → ⊥
no-Step c h = let e : true ≡ false = sym h.holds ∙ constant-Step c in cc

pub no-Window : (f : Window) (args : List BExpr) → IsConstant (V.Window f args) → ⊥
no-Window f args h = let e : true ≡ false = sym h.holds ∙ constant-Window f args in cc

pub no-Aggregate : (f : Aggregate) (args : List BExpr) → IsConstant (V.Aggregate f args) → ⊥
no-Aggregate f args h = let e : true ≡ false = sym h.holds ∙ constant-Aggregate f args in cc

-- What the tests say.

pub tested-Literal : (l : Lit) → IsConstant (V.Literal l)
tested-Literal l = record { holds = constant-Literal l }

pub tested-Call : (f : Func) (args : List BExpr) → AreConstant args ↔ IsConstant (V.Call f args)
tested-Call f args = (λ h. record { holds = constant-Call f args ∙ h.each }, parts-Call f args)

pub made-Chain : (first : BExpr) (links : List (ChainSign × BExpr)) → IsConstant first → AreLinksConstant links → IsConstant (V.Chain first links)
made-Chain first links h k = record { holds = constant-Chain first links ∙ joined _ _ h.holds k.each }

pub made-Path : (whole : BExpr) (steps : List BExpr) → IsConstant whole → AreConstant steps → IsConstant (V.Path whole steps)
made-Path whole steps h k = record { holds = constant-Path whole steps ∙ joined _ _ h.holds k.each }

pub ruleset test_steps = (tested-Literal, tested-Call, made-Chain, made-Path, parts-first, parts-links, parts-whole, parts-steps, no-Column, no-Step, no-Window, no-Aggregate)

-- Lists of parts.

pub constant-none : AreConstant []
constant-none = record { each = refl }

pub constant-links-none : AreLinksConstant []
constant-links-none = record { each = refl }

pub constant-item : (es : List BExpr) (i : ℕ) (e : BExpr) → e ≡ get_or es i e → i < length es → AreConstant es → IsConstant e
constant-item es i e is l h = record { holds = ap is_constant is ∙ at_item is_constant es i e l h.each }

pub constant-link : (links : List (ChainSign × BExpr)) (i : ℕ) (link : ChainSign × BExpr) → link ≡ get_or links i link → i < length links → AreLinksConstant links → IsConstant link.1
constant-link links i link is l h = record { holds = ap (λ (k : ChainSign × BExpr). is_constant k.1) is ∙ at_item (λ (k : ChainSign × BExpr). is_constant k.1) links i link l h.each }

pub constant-more : (es : List BExpr) (i : ℕ) (e : BExpr) → i < length es → e ≡ get_or es i e → AreConstant (take i es) → IsConstant e → AreConstant (take (i + 1) es)
constant-more es i e lt is h k = record { each = list_all_more is_constant es i e lt ∙ joined _ _ h.each (ap is_constant (sym is) ∙ k.holds) }

pub constant-end : (es : List BExpr) (i : ℕ) → length es ≤ i → AreConstant (take i es) → AreConstant es
constant-end es i l h = subst AreConstant (take_all i es l) h

pub constant-links-more : (ls : List (ChainSign × BExpr)) (i : ℕ) (l : ChainSign × BExpr) → i < length ls → l ≡ get_or ls i l → AreLinksConstant (take i ls) → IsConstant l.1 → AreLinksConstant (take (i + 1) ls)
constant-links-more ls i l lt is h k = record { each = list_all_more (λ (x : ChainSign × BExpr). is_constant x.1) ls i l lt ∙ joined _ _ h.each (ap (λ (x : ChainSign × BExpr). is_constant x.1) (sym is) ∙ k.holds) }

pub constant-links-end : (ls : List (ChainSign × BExpr)) (i : ℕ) → length ls ≤ i → AreLinksConstant (take i ls) → AreLinksConstant ls
constant-links-end ls i l h = subst AreLinksConstant (take_all i ls l) h

pub ruleset list_steps = (constant-none, constant-more, constant-end, constant-item, constant-links-none, constant-links-more, constant-links-end, constant-link)

-- The value.

pub scalar-constant : (e : BExpr) (b : Bool) → b ≡ (is_constant e && is_scalar e) → b ≡ true → IsScalar e
scalar-constant e b is told = record { holds = right (is_constant e) (is_scalar e) (sym is ∙ told) }

-- A test that decides something is its truth value.

not_true : (x : Bool) → (x ≡ true → ⊥) → false ≡ x
not_true true h = absurd (h refl)
not_true false h = refl

pub constant-decided : (e : BExpr) (b : Bool) → IsTrue b ↔ IsConstant e → b ≡ is_constant e
constant-decided e true h = sym ((h.0 refl).holds)
constant-decided e false h = not_true (is_constant e) (λ x. let e : false ≡ true = h.1 (record { holds = x }) in cc)

pub scalar-decided : (e : BExpr) (b : Bool) → IsTrue b ↔ IsScalar e → b ≡ is_scalar e
scalar-decided e true h = sym ((h.0 refl).holds)
scalar-decided e false h = not_true (is_scalar e) (λ x. let e : false ≡ true = h.1 (record { holds = x }) in cc)

pub ruleset decided_steps = (constant-decided, scalar-decided)

-- A row of no columns.
pub row-of-none : (columns : List Column) (row : List Value) → columns ≡ [] → row ≡ [] → RowFits columns row
unfolding RowFits
row-of-none columns row no_columns no_values = rw (no_columns, no_values) tt

pub ruleset settled_steps = (scalar-constant)

-- The equations of `is_scalar`, and what they say of the parts.
use Rattle.std.proofs.Common.{◌≡◌, ◌<◌, ◌≤◌, ◌+◌, ◌&&◌, ◌↔◌, ℕ, zero, suc, Bool, true, false, List, [], ◌∷◌, ◌++◌, length, take, get_or, refl, ap, sym, ◌∙◌, subst, arith}
use Rattle.std.specs.Prelude.{All, IfSome, Option}
use Rattle.std.specs.List.{list_all}
use Rattle.std.proofs.lemmas.List.{take_all, take_more}
use Rattle.std.proofs.lemmas.List.Elements.{All-push}
use Rattle.std.proofs.lemmas.List.Folds.{list_all-map, list_all_more}
use Rattle.kql_cells.specs.Values.{IsWellFormed}
use Rattle.kql_cells.specs.declared.value.Value.{Value}
use Rattle.kql_functions.specs.declared.aggregate.Aggregate.{Aggregate}
use Rattle.kql_functions.specs.declared.func.Func.{Func}
use Rattle.kql_functions.specs.declared.window.Window.{Window}
use Rattle.kql_scalar_fns.specs.Arguments.{AreWellFormed}
use Rattle.kql_bound.specs.declared.expr.BExpr.{BExpr, fold-roll-BExpr}
use Rattle.kql_bound.specs.declared.expr.BExpr.TheOpen.{BExpr-F}
use Rattle.kql_bound.specs.declared.expr.BExpr.TheVariants as V
use Rattle.kql_bound.specs.declared.expr.ChainSign.{ChainSign}
use Rattle.kql_bound.specs.declared.expr.StepColumn.{StepColumn}
use Rattle.kql_bound.specs.declared.literal.Lit.{Lit}
use Rattle.kql_meaning.specs.Literals.{is_well_formed}
use Rattle.kql_meaning.specs.Readings.{Records}
use Rattle.kql_meaning.proofs.LiteralLaws.{is_well_formed-decides}
use Rattle.kql_scalar.specs.Evaluated.{AreSound}
use Rattle.kql_scalar.specs.Scalar.{AreLinksScalar, AreScalar, IsScalar, is_scalar, is_scalar_step}

-- When each variant is scalar.

pub is_scalar-Literal : (l : Lit) → is_scalar (V.Literal l) ≡ is_well_formed l.value
unfolding is_scalar
is_scalar-Literal l = ap is_scalar (sym (V.rolls-Literal l)) ∙ fold-roll-BExpr Bool is_scalar_step (BExpr-F.Literal l)

pub is_scalar-Column : (n : List ℕ) → is_scalar (V.Column n) ≡ true
unfolding is_scalar
is_scalar-Column n = ap is_scalar (sym (V.rolls-Column n)) ∙ fold-roll-BExpr Bool is_scalar_step (BExpr-F.Column n)

pub is_scalar-Step : (c : StepColumn) → is_scalar (V.Step c) ≡ is_well_formed c.default.value
unfolding is_scalar
is_scalar-Step c = ap is_scalar (sym (V.rolls-Step c)) ∙ fold-roll-BExpr Bool is_scalar_step (BExpr-F.Step c)

pub is_scalar-Call : (f : Func) (args : List BExpr) → is_scalar (V.Call f args) ≡ list_all is_scalar args
unfolding is_scalar
is_scalar-Call f args = ap is_scalar (sym (V.rolls-Call f args)) ∙ (fold-roll-BExpr Bool is_scalar_step (BExpr-F.Call f args) ∙ list_all-map (λ b. b) is_scalar args)

link_scalar : ChainSign × BExpr → ChainSign × Bool
link_scalar l = (l.0, is_scalar l.1)

pub is_scalar-Chain : (first : BExpr) (links : List (ChainSign × BExpr)) → is_scalar (V.Chain first links) ≡ (is_scalar first && list_all (λ (l : ChainSign × BExpr). is_scalar l.1) links)
unfolding is_scalar link_scalar
is_scalar-Chain first links = ap is_scalar (sym (V.rolls-Chain first links)) ∙ (fold-roll-BExpr Bool is_scalar_step (BExpr-F.Chain first links) ∙ ap (λ b. is_scalar first && b) (list_all-map (λ (l : ChainSign × Bool). l.1) link_scalar links))

pub is_scalar-Path : (whole : BExpr) (steps : List BExpr) → is_scalar (V.Path whole steps) ≡ (is_scalar whole && list_all is_scalar steps)
unfolding is_scalar
is_scalar-Path whole steps = ap is_scalar (sym (V.rolls-Path whole steps)) ∙ (fold-roll-BExpr Bool is_scalar_step (BExpr-F.Path whole steps) ∙ ap (λ b. is_scalar whole && b) (list_all-map (λ b. b) is_scalar steps))

pub is_scalar-Window : (f : Window) (args : List BExpr) → is_scalar (V.Window f args) ≡ list_all is_scalar args
unfolding is_scalar
is_scalar-Window f args = ap is_scalar (sym (V.rolls-Window f args)) ∙ (fold-roll-BExpr Bool is_scalar_step (BExpr-F.Window f args) ∙ list_all-map (λ b. b) is_scalar args)

pub is_scalar-Aggregate : (f : Aggregate) (args : List BExpr) → is_scalar (V.Aggregate f args) ≡ false
unfolding is_scalar
is_scalar-Aggregate f args = ap is_scalar (sym (V.rolls-Aggregate f args)) ∙ fold-roll-BExpr Bool is_scalar_step (BExpr-F.Aggregate f args)

-- A conjunction and its parts.

pub left : (a b : Bool) → (a && b) ≡ true → a ≡ true
left true b e = refl
left false b e = e

pub right : (a b : Bool) → (a && b) ≡ true → b ≡ true
right true b e = e
right false b e = cc

pub joined : (a b : Bool) → a ≡ true → b ≡ true → (a && b) ≡ true
joined a b p q = rw (p, q) refl

-- The parts of what is scalar.

pub scalar-Call : (f : Func) (args : List BExpr) → IsScalar (V.Call f args) → AreScalar args
scalar-Call f args h = record { each = sym (is_scalar-Call f args) ∙ h.holds }

pub scalar-first : (first : BExpr) (links : List (ChainSign × BExpr)) → IsScalar (V.Chain first links) → IsScalar first
scalar-first first links h = record { holds = left _ _ (sym (is_scalar-Chain first links) ∙ h.holds) }

pub scalar-links : (first : BExpr) (links : List (ChainSign × BExpr)) → IsScalar (V.Chain first links) → AreLinksScalar links
scalar-links first links h = record { each = right _ _ (sym (is_scalar-Chain first links) ∙ h.holds) }

pub scalar-whole : (whole : BExpr) (steps : List BExpr) → IsScalar (V.Path whole steps) → IsScalar whole
scalar-whole whole steps h = record { holds = left _ _ (sym (is_scalar-Path whole steps) ∙ h.holds) }

pub scalar-steps : (whole : BExpr) (steps : List BExpr) → IsScalar (V.Path whole steps) → AreScalar steps
scalar-steps whole steps h = record { each = right _ _ (sym (is_scalar-Path whole steps) ∙ h.holds) }

pub scalar-Window : (f : Window) (args : List BExpr) → IsScalar (V.Window f args) → AreScalar args
scalar-Window f args h = record { each = sym (is_scalar-Window f args) ∙ h.holds }

pub scalar-Aggregate : (f : Aggregate) (args : List BExpr) → IsScalar (V.Aggregate f args) → ⊥
scalar-Aggregate f args h = let e : true ≡ false = sym h.holds ∙ is_scalar-Aggregate f args in cc

pub at_item : {X : Type 0} (p : X → Bool) (xs : List X) (i : ℕ) (d : X) → i < length xs → list_all p xs ≡ true → p (get_or xs i d) ≡ true
at_item p [] i d l h = absurd (omega arith)
at_item p (x ∷ xs) zero d l h = left _ _ h
at_item p (x ∷ xs) (suc i) d l h = at_item p xs i d (omega arith) (right _ _ h)

pub scalar-item : (es : List BExpr) (i : ℕ) (e : BExpr) → e ≡ get_or es i e → i < length es → AreScalar es → IsScalar e
scalar-item es i e is l h = record { holds = ap is_scalar is ∙ at_item is_scalar es i e l h.each }

pub scalar-link : (links : List (ChainSign × BExpr)) (i : ℕ) (link : ChainSign × BExpr) → link ≡ get_or links i link → i < length links → AreLinksScalar links → IsScalar link.1
scalar-link links i link is l h = record { holds = ap (λ (k : ChainSign × BExpr). is_scalar k.1) is ∙ at_item (λ (k : ChainSign × BExpr). is_scalar k.1) links i link l h.each }

-- What the tests say.

pub tested-Literal : (l : Lit) → IsWellFormed l.value ↔ IsScalar (V.Literal l)
tested-Literal l = (
  λ h. record { holds = is_scalar-Literal l ∙ (is_well_formed-decides l.value).1 h },
  λ h. (is_well_formed-decides l.value).0 (sym (is_scalar-Literal l) ∙ h.holds),
)

pub tested-Column : (n : List ℕ) → IsScalar (V.Column n)
tested-Column n = record { holds = is_scalar-Column n }

pub tested-Step : (c : StepColumn) → IsWellFormed c.default.value ↔ IsScalar (V.Step c)
tested-Step c = (
  λ h. record { holds = is_scalar-Step c ∙ (is_well_formed-decides c.default.value).1 h },
  λ h. (is_well_formed-decides c.default.value).0 (sym (is_scalar-Step c) ∙ h.holds),
)

pub tested-Call : (f : Func) (args : List BExpr) → AreScalar args ↔ IsScalar (V.Call f args)
tested-Call f args = (λ h. record { holds = is_scalar-Call f args ∙ h.each }, scalar-Call f args)

pub tested-Window : (f : Window) (args : List BExpr) → AreScalar args ↔ IsScalar (V.Window f args)
tested-Window f args = (λ h. record { holds = is_scalar-Window f args ∙ h.each }, scalar-Window f args)

pub made-Chain : (first : BExpr) (links : List (ChainSign × BExpr)) → IsScalar first → AreLinksScalar links → IsScalar (V.Chain first links)
made-Chain first links h k = record { holds = is_scalar-Chain first links ∙ joined _ _ h.holds k.each }

pub made-Path : (whole : BExpr) (steps : List BExpr) → IsScalar whole → AreScalar steps → IsScalar (V.Path whole steps)
made-Path whole steps h k = record { holds = is_scalar-Path whole steps ∙ joined _ _ h.holds k.each }

pub ruleset test_steps = (tested-Literal, tested-Column, tested-Step, tested-Call, tested-Window, made-Chain, made-Path, scalar-first, scalar-links, scalar-whole, scalar-steps, scalar-Aggregate)

pub scalar-none : AreScalar []
scalar-none = record { each = refl }

pub scalar-links-none : AreLinksScalar []
scalar-links-none = record { each = refl }

pub scalar-more : (es : List BExpr) (i : ℕ) (e : BExpr) → i < length es → e ≡ get_or es i e → AreScalar (take i es) → IsScalar e → AreScalar (take (i + 1) es)
scalar-more es i e lt is h k = record { each = list_all_more is_scalar es i e lt ∙ joined _ _ h.each (ap is_scalar (sym is) ∙ k.holds) }

pub scalar-end : (es : List BExpr) (i : ℕ) → length es ≤ i → AreScalar (take i es) → AreScalar es
scalar-end es i l h = subst AreScalar (take_all i es l) h

pub scalar-links-more : (ls : List (ChainSign × BExpr)) (i : ℕ) (l : ChainSign × BExpr) → i < length ls → l ≡ get_or ls i l → AreLinksScalar (take i ls) → IsScalar l.1 → AreLinksScalar (take (i + 1) ls)
scalar-links-more ls i l lt is h k = record { each = list_all_more (λ (x : ChainSign × BExpr). is_scalar x.1) ls i l lt ∙ joined _ _ h.each (ap (λ (x : ChainSign × BExpr). is_scalar x.1) (sym is) ∙ k.holds) }

pub scalar-links-end : (ls : List (ChainSign × BExpr)) (i : ℕ) → length ls ≤ i → AreLinksScalar (take i ls) → AreLinksScalar ls
scalar-links-end ls i l h = subst AreLinksScalar (take_all i ls l) h

pub ruleset list_steps = (scalar-none, scalar-more, scalar-end, scalar-item, scalar-links-none, scalar-links-more, scalar-links-end, scalar-link)

-- The same of step records and of values.

all-more : {X : Type 0} (P : X → Type 0) (xs : List X) (i : ℕ) (x : X) → i < length xs → x ≡ get_or xs i x → All P (take i xs) → P x → All P (take (i + 1) xs)
all-more P xs i x lt is h p = subst (All P) (sym (take_more xs i x lt ∙ ap (λ y. take i xs ++ y ∷ []) (sym is))) (All-push P (take i xs) x h p)

all-end : {X : Type 0} (P : X → Type 0) (xs : List X) (i : ℕ) → length xs ≤ i → All P (take i xs) → All P xs
all-end P xs i l h = subst (All P) (take_all i xs l) h

all-at : {X : Type 0} (P : X → Type 0) (xs : List X) (i : ℕ) (x : X) → i < length xs → x ≡ get_or xs i x → All P xs → P x
all-at P xs i x lt is h = subst P (sym is) (h i x lt)

abbrev IsHeldSound : Option (List Value) → Type 0
IsHeldSound held = IfSome held AreWellFormed

pub sound-none : AreSound []
sound-none = record { each = λ k d l. absurd (omega arith) }

pub sound-more : (s : Records) (i : ℕ) (held : Option (List Value)) → i < length s → held ≡ get_or s i held → AreSound (take i s) → IfSome held AreWellFormed → AreSound (take (i + 1) s)
sound-more s i held lt is h p = record { each = all-more IsHeldSound s i held lt is h.each p }

pub sound-end : (s : Records) (i : ℕ) → length s ≤ i → AreSound (take i s) → AreSound s
sound-end s i l h = record { each = all-end IsHeldSound s i l h.each }

pub sound-item : (s : Records) (i : ℕ) (held : Option (List Value)) → i < length s → held ≡ get_or s i held → AreSound s → IfSome held AreWellFormed
sound-item s i held lt is h = all-at IsHeldSound s i held lt is h.each

pub ruleset sound_steps = (sound-none, sound-more, sound-end, sound-item)

pub form-none : AreWellFormed []
form-none = record { each = λ k d l. absurd (omega arith) }

pub form-more : (vs : List Value) (i : ℕ) (v : Value) → i < length vs → v ≡ get_or vs i v → AreWellFormed (take i vs) → IsWellFormed v → AreWellFormed (take (i + 1) vs)
form-more vs i v lt is h p = record { each = all-more IsWellFormed vs i v lt is h.each p }

pub form-end : (vs : List Value) (i : ℕ) → length vs ≤ i → AreWellFormed (take i vs) → AreWellFormed vs
form-end vs i l h = record { each = all-end IsWellFormed vs i l h.each }

pub form-item : (vs : List Value) (i : ℕ) (v : Value) → i < length vs → v ≡ get_or vs i v → AreWellFormed vs → IsWellFormed v
form-item vs i v lt is h = all-at IsWellFormed vs i v lt is h.each

pub ruleset form_steps = (form-none, form-more, form-end, form-item)

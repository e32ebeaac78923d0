-- What an outcome gives, where it gives anything.
use Rattle.std.proofs.Common.{◌≡◌, List, [], ◌∷◌, refl}
use Rattle.std.specs.Prelude.{Ok, Err, Option, None, Some, fold}
use Rattle.kql_cells.specs.declared.value.Kind.{Kind}
use Rattle.kql_lexer.specs.declared.place.Place.{Place}
use Rattle.kql_bound.specs.declared.expr.BExpr.{BExpr}
use Rattle.bind_expr.specs.Operands.{typed_as}
use Rattle.bind_expr.specs.Outcome.{Outcome, ◌>>=◌}
use Rattle.bind_expr.specs.declared.fault.BindFault.{BindFault}
use Rattle.bind_expr.specs.declared.typed.Typed.{Typed}

abbrev pub gives : {X : Type 0} → (X → Type 0) → Outcome X → Type 0
gives P (Ok x) = P x
gives P (Err e) = Unit {0}

-- A value of which this holds, or a fault.
pub record Gives {X : Type 0} (P : X → Type 0) (r : Outcome X) : Type 0 where
  pub holds : gives P r

pub gives-ok : {X : Type 0} (P : X → Type 0) (x : X) → P x → Gives P (Ok x)
gives-ok P x h = record { holds = h }

pub gives-err : {X : Type 0} (P : X → Type 0) (e : BindFault) → Gives P (Err e)
gives-err P e = record { holds = tt }

pub given : {X : Type 0} (P : X → Type 0) (r : Outcome X) (x : X) → Gives P r → r ≡ Ok x → P x
given P (Ok y) x h e = let same : y ≡ x = cc in rw (← same) h.holds
given P (Err e) x h is = absurd cc

pub gives-then : {X Y : Type 0} (P : X → Type 0) (Q : Y → Type 0) (r : Outcome X) (k : X → Outcome Y) → Gives P r → ((x : X) → P x → Gives Q (k x)) → Gives Q (r >>= k)
gives-then P Q (Ok x) k h t = t x h.holds
gives-then P Q (Err e) k h t = record { holds = tt }

pub gives-map : {X : Type 0} (P Q : X → Type 0) (r : Outcome X) → Gives P r → ((x : X) → P x → Q x) → Gives Q r
gives-map P Q (Ok x) h f = record { holds = f x h.holds }
gives-map P Q (Err e) h f = record { holds = tt }

-- Each of these parts gives it.
abbrev pub Each : {L X : Type 0} → (X → Type 0) → (L → Outcome X) → List L → Type 0
Each P part [] = Unit {0}
Each P part (l ∷ ls) = Gives P (part l) × Each P part ls

pub gives-fold : {L B X : Type 0} (P : X → Type 0) (Q : B → Type 0) (f : L → B → X → Outcome B) (part : L → Outcome X) → ((l : L) (b : B) (x : X) → Q b → P x → Gives Q (f l b x)) → (start : Outcome B) → Gives Q start → (ms : List L) → Each P part ms → Gives Q (fold (λ (before : Outcome B) (l : L). before >>= λ b. part l >>= λ x. f l b x) start ms)
gives-fold P Q f part t start h [] each = h
gives-fold {B = B} P Q f part t start h (l ∷ ls) each =
    gives-fold P Q f part t (start >>= λ b. part l >>= λ x. f l b x) (gives-then Q Q start (λ b. part l >>= λ x. f l b x) h (λ b q. gives-then P Q (part l) (λ x. f l b x) each.0 (λ x p. t l b x q p))) ls each.1

-- An expression of a type that is there.
pub gives-typed : (Q : Typed → Type 0) (place : Place) (e : BExpr) (o : Option Kind) → ((k : Kind) → o ≡ Some k → Q (record { expr = e; kind = k })) → Gives Q (typed_as place e o)
gives-typed Q place e None h = record { holds = tt }
gives-typed Q place e (Some k) h = record { holds = h k refl }

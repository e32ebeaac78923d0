-- Parts of an expression that are bound: they have their types, and fit where they stand rightly.
use Rattle.std.proofs.Common.{◌≡◌, Bool, true, false, List, [], ◌∷◌, refl, sym, ap, ◌∙◌, subst}
use Rattle.std.specs.Prelude.{Option, Some}
use Rattle.std.specs.List.{list_all}
use Rattle.std.proofs.lemmas.Bool.{and_parts, and_from}
use Rattle.kql_cells.specs.declared.value.Kind.{Kind}
use Rattle.kql_cells.specs.declared.value.Kind.TheVariants as kind
use Rattle.kql_functions.specs.Kinds.{conversion_kind, one_of_any, result_kind, row, same_kinds}
use Rattle.kql_functions.specs.declared.func.ConversionFunc.{ConversionFunc}
use Rattle.kql_functions.specs.declared.func.ConversionFunc.TheVariants as conversion
use Rattle.kql_functions.specs.declared.func.Func.{Func}
use Rattle.kql_functions.specs.declared.func.Func.TheVariants as func
use Rattle.kql_lexer.specs.declared.place.Place.{Place}
use Rattle.kql_bound.specs.declared.expr.BExpr.{BExpr, out-BExpr, roll-BExpr, roll-out-BExpr, out-roll-BExpr}
use Rattle.kql_bound.specs.declared.expr.BExpr.TheOpen.{BExpr-F}
use Rattle.kql_bound.specs.declared.expr.BExpr.TheVariants as V
use Rattle.kql_meaning.specs.declared.position.Position.{Position}
use Rattle.kql_meaning.specs.Expressions.{all_known, call_kind, kind_of, kinds_in}
use Rattle.kql_meaning.specs.FittingExpressions.{Scope as ReadScope, call_or_expr_fits, call_or_expr_fits_step, expr_fits, is_callable, part_fits}
use Rattle.kql_meaning.proofs.KindLaws.{kind-Call}
use Rattle.kql_meaning.proofs.ExpressionFitLaws.{fits-Aggregate, fits-Call}
use Rattle.bind_expr.specs.Operands.{all_beside, beside, beside_as, exprs_of, kinds_of, operands_call, to_kind, typed_call}
use Rattle.bind_expr.specs.declared.scope.Scope.{Scope}
use Rattle.bind_expr_laws.proofs.Shapes.{Spot}
use Rattle.bind_expr.specs.declared.typed.Typed.{Typed}
use Rattle.bind_expr_laws.specs.Scopes.{read_scope}
use Rattle.bind_expr_laws.proofs.Standing.{stands}
use Rattle.bind_expr_laws.proofs.Outcomes.{Gives, gives-typed}
use Rattle.bind_expr_laws.proofs.StandingSteps.{stands-Call}
use Rattle.bind_expr_laws.proofs.Facts.{some-is}

-- A part has its type, and fits where it stands rightly.
pub record IsPart (scope : Scope) (at : Position) (e : BExpr) (k : Kind) : Type 0 where
  pub kind : kind_of e scope.schema ≡ Some k
  pub fits : stands at e ≡ true → expr_fits e (read_scope scope) at ≡ true

abbrev pub AreParts : Scope → Position → List BExpr → List Kind → Type 0
AreParts scope at [] [] = Unit {0}
AreParts scope at (e ∷ es) (k ∷ ks) = IsPart scope at e k × AreParts scope at es ks
AreParts scope at _ _ = ⊥

-- So has the whole, which may have several result columns where it stands alone.
abbrev pub fits_at : Bool → BExpr → ReadScope → Position → Bool
fits_at true e scope at = call_or_expr_fits e scope at
fits_at false e scope at = expr_fits e scope at

pub record IsBound (scope : Scope) (spot : Spot) (t : Typed) : Type 0 where
  pub kind : kind_of t.expr scope.schema ≡ Some t.kind
  pub fits : stands spot.position t.expr ≡ true → fits_at spot.alone t.expr (read_scope scope) spot.position ≡ true

-- What fits as a part fits as a whole.

layer-fits : (f : BExpr-F BExpr) (scope : ReadScope) (at : Position) → expr_fits (roll-BExpr f) scope at ≡ true → call_or_expr_fits (roll-BExpr f) scope at ≡ true
unfolding call_or_expr_fits
layer-fits (BExpr-F.Aggregate f args) scope at e =
    let fits = sym (fits-Aggregate f args scope at) ∙ (ap (λ (x : BExpr). expr_fits x scope at) (sym (V.rolls-Aggregate f args)) ∙ e) in
    ap (λ (g : BExpr-F BExpr). call_or_expr_fits_step g (expr_fits (roll-BExpr (BExpr-F.Aggregate f args)) scope at) scope at) (out-roll-BExpr (BExpr-F.Aggregate f args)) ∙ (and_parts _ _ fits).1
layer-fits y scope at e = ap (λ (g : BExpr-F BExpr). call_or_expr_fits_step g (expr_fits (roll-BExpr y) scope at) scope at) (out-roll-BExpr y) ∙ e

pub fits-whole : (e : BExpr) (scope : ReadScope) (at : Position) → expr_fits e scope at ≡ true → call_or_expr_fits e scope at ≡ true
fits-whole e scope at h =
    let same = roll-out-BExpr e in
    subst (λ (x : BExpr). call_or_expr_fits x scope at ≡ true) same (layer-fits (out-BExpr e) scope at (subst (λ (x : BExpr). expr_fits x scope at ≡ true) (sym same) h))

pub fits-either : (b : Bool) (e : BExpr) (scope : ReadScope) (at : Position) → expr_fits e scope at ≡ true → fits_at b e scope at ≡ true
fits-either true e scope at h = fits-whole e scope at h
fits-either false e scope at h = h

pub part-bound : (scope : Scope) (spot : Spot) (t : Typed) → IsPart scope spot.position t.expr t.kind → IsBound scope spot t
part-bound scope spot t h = record { kind = h.kind; fits = λ s. fits-either spot.alone t.expr (read_scope scope) spot.position (h.fits s) }

-- Calls.

pub parts-known : (scope : Scope) (at : Position) (es : List BExpr) (ks : List Kind) → AreParts scope at es ks → all_known (kinds_in es scope.schema) ≡ Some ks
unfolding all_known kinds_in
parts-known scope at [] [] h = refl
parts-known scope at [] (k ∷ ks) h = absurd h
parts-known scope at (e ∷ es) [] h = absurd h
parts-known scope at (e ∷ es) (k ∷ ks) h = rw (h.0.kind, parts-known scope at es ks h.1) refl

pub parts-fit : (scope : Scope) (at : Position) (es : List BExpr) (ks : List Kind) → AreParts scope at es ks → list_all (stands at) es ≡ true → list_all (λ e. expr_fits e (read_scope scope) at) es ≡ true
parts-fit scope at [] [] h s = refl
parts-fit scope at [] (k ∷ ks) h s = absurd h
parts-fit scope at (e ∷ es) [] h s = absurd h
parts-fit scope at (e ∷ es) (k ∷ ks) h s =
    let both = and_parts (stands at e) (list_all (stands at) es) s in
    and_from (expr_fits e (read_scope scope) at) (list_all (λ e. expr_fits e (read_scope scope) at) es) (h.0.fits both.0) (parts-fit scope at es ks h.1 both.1)

pub call-kind : (scope : Scope) (at : Position) (f : Func) (es : List BExpr) (ks : List Kind) → AreParts scope at es ks → call_kind f (kinds_in es scope.schema) ≡ result_kind f ks
unfolding call_kind
call-kind scope at f es ks h = rw (parts-known scope at es ks h) refl

pub two-kind : (f : Func) (a b : Option Kind) (j k : Kind) → a ≡ Some j → b ≡ Some k → call_kind f (a ∷ b ∷ []) ≡ result_kind f (j ∷ k ∷ [])
unfolding call_kind all_known
two-kind f a b j k e h = rw (e, h) refl

pub call-part : (scope : Scope) (at : Position) (f : Func) (es : List BExpr) (ks : List Kind) (k : Kind) → AreParts scope at es ks → is_callable f ≡ true → part_fits f es ≡ true → result_kind f ks ≡ Some k → IsPart scope at (V.Call f es) k
call-part scope at f es ks k h callable part given =
    let known = call-kind scope at f es ks h ∙ given in
    record {
      kind = kind-Call f es scope.schema ∙ known;
      fits = λ s.
          let fit = parts-fit scope at es ks h (sym (stands-Call at f es) ∙ s) in
          fits-Call f es (read_scope scope) at ∙ and_from _ _ callable (and_from _ _ fit (and_from _ _ part (some-is _ k known)));
    }

-- Functions that are called by any expression and know no words of parts.
pub record IsPlain (f : Func) : Type 0 where
  pub callable : is_callable f ≡ true
  pub part : (es : List BExpr) → part_fits f es ≡ true

pub call-bound : (scope : Scope) (spot : Spot) (place : Place) (f : Func) (es : List BExpr) (ks : List Kind) → IsPlain f → AreParts scope spot.position es ks → Gives (IsBound scope spot) (typed_call place f es ks)
unfolding typed_call
call-bound scope spot place f es ks plain h =
    gives-typed (IsBound scope spot) place (V.Call f es) (result_kind f ks)
    (λ k e. part-bound scope spot (record { expr = V.Call f es; kind = k }) (call-part scope spot.position f es ks k h plain.callable (plain.part es) e))

-- Operands beside others.

plain-conversion : (f : ConversionFunc) → IsPlain (func.Conversion f)
unfolding is_callable part_fits
plain-conversion f = record { callable = refl; part = λ es. refl }

converted : (scope : Scope) (at : Position) (f : ConversionFunc) (e : BExpr) (k : Kind) → IsPart scope at e kind.Dynamic → result_kind (func.Conversion f) (kind.Dynamic ∷ []) ≡ Some k → IsPart scope at (V.Call (func.Conversion f) (e ∷ [])) k
converted scope at f e k h given =
    let plain = plain-conversion f in
    call-part scope at (func.Conversion f) (e ∷ []) (kind.Dynamic ∷ []) k (h, tt) plain.callable (plain.part (e ∷ [])) given

dynamic-part : (scope : Scope) (at : Position) (e : BExpr) (other : Kind) → IsPart scope at e kind.Dynamic → IsPart scope at (to_kind e other) other
unfolding result_kind conversion_kind one_of_any row same_kinds
dynamic-part scope at e kind.Bool h = converted scope at conversion.ToBool e kind.Bool h refl
dynamic-part scope at e kind.Long h = converted scope at conversion.ToLong e kind.Long h refl
dynamic-part scope at e kind.Text h = converted scope at conversion.ToText e kind.Text h refl
dynamic-part scope at e kind.Moment h = converted scope at conversion.ToMoment e kind.Moment h refl
dynamic-part scope at e kind.Span h = converted scope at conversion.ToSpan e kind.Span h refl
dynamic-part scope at e kind.Dynamic h = h

beside-as : (scope : Scope) (at : Position) (t : Typed) (other j : Kind) → t.kind ≡ j → IsPart scope at t.expr t.kind → IsPart scope at (beside_as t other j).expr (beside_as t other j).kind
beside-as scope at t other kind.Dynamic is h = dynamic-part scope at t.expr other (subst (IsPart scope at t.expr) is h)
beside-as scope at t other kind.Bool is h = h
beside-as scope at t other kind.Long is h = h
beside-as scope at t other kind.Text is h = h
beside-as scope at t other kind.Moment is h = h
beside-as scope at t other kind.Span is h = h

pub beside-part : (scope : Scope) (at : Position) (t : Typed) (other : Kind) → IsPart scope at t.expr t.kind → IsPart scope at (beside t other).expr (beside t other).kind
unfolding beside
beside-part scope at t other h = beside-as scope at t other t.kind refl h

abbrev pub AreOperands : Scope → Position → List Typed → Type 0
AreOperands scope at [] = Unit {0}
AreOperands scope at (t ∷ ts) = IsPart scope at t.expr t.kind × AreOperands scope at ts

pub operands-parts : (scope : Scope) (at : Position) (ts : List Typed) → AreOperands scope at ts → AreParts scope at (exprs_of ts) (kinds_of ts)
operands-parts scope at [] h = tt
operands-parts scope at (t ∷ ts) h = (h.0, operands-parts scope at ts h.1)

pub all-beside : (scope : Scope) (at : Position) (k : Kind) (ts : List Typed) → AreOperands scope at ts → AreOperands scope at (all_beside k ts)
all-beside scope at k [] h = tt
all-beside scope at k (t ∷ ts) h = (beside-part scope at t k h.0, all-beside scope at k ts h.1)

pub operands-bound : (scope : Scope) (spot : Spot) (place : Place) (f : Func) (ts : List Typed) → IsPlain f → AreOperands scope spot.position ts → Gives (IsBound scope spot) (operands_call place f ts)
operands-bound scope spot place f ts plain h = call-bound scope spot place f (exprs_of ts) (kinds_of ts) plain (operands-parts scope spot.position ts h)

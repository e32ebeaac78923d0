-- Calls of scalar functions.
use Rattle.std.proofs.Common.{◌≡◌, ℕ, ℤ, Bool, true, false, List, [], ◌∷◌, length, refl, sym, ap, ◌∙◌, subst}
use Rattle.std.specs.Prelude.{◌&&◌, not, if◌then◌else◌, Option, None, Some, IfSome}
use Rattle.std.proofs.lemmas.Bool.{and_parts, not-true}
use Rattle.std.proofs.lemmas.Option.{same_Some}
use Rattle.kql_cells.specs.Values.{IsMoment, IsOfKind}
use Rattle.kql_cells.specs.declared.value.Kind.{Kind}
use Rattle.kql_cells.specs.declared.value.Kind.TheVariants as kind
use Rattle.kql_cells.specs.declared.value.Value.{Value}
use Rattle.kql_cells.specs.declared.value.Value.TheVariants as value
use Rattle.kql_functions.specs.Kinds.{arithmetic_kind, either, result_kind, row, same_kinds, time_kind}
use Rattle.kql_functions.specs.declared.func.Func.{Func}
use Rattle.kql_functions.specs.declared.func.Func.TheVariants as func
use Rattle.kql_functions.specs.declared.func.TimeFunc.TheVariants as time
use Rattle.kql_scalar_fns.proofs.KindLaws.{same-kinds}
use Rattle.kql_lexer.specs.declared.place.Place.{Place}
use Rattle.kql_scalar_fns.specs.Time.{field_named, period_named}
use Rattle.kql_bound.specs.Signs.{sign_func}
use Rattle.kql_bound.specs.declared.expr.BExpr.{BExpr, out-BExpr, roll-BExpr, roll-out-BExpr}
use Rattle.kql_bound.specs.declared.expr.BExpr.TheOpen.{BExpr-F}
use Rattle.kql_bound.specs.declared.expr.BExpr.TheVariants as V
use Rattle.kql_bound.specs.declared.expr.ChainSign.{ChainSign}
use Rattle.kql_bound.specs.declared.expr.ChainSign.TheVariants as sign
use Rattle.kql_bound.specs.declared.literal.Lit.{Lit}
use Rattle.kql_meaning.specs.declared.position.Position.{Position}
use Rattle.kql_meaning.specs.FittingExpressions.{first_is_part, first_word, is_callable, literal_of, literal_step, names_part, part_fits, word_in, word_of}
use Rattle.kql_meaning.specs.Literals.{is_of_kind, is_well_formed, literal_fits}
use Rattle.kql_meaning.proofs.ExpressionFitLaws.{fits-Literal}
use Rattle.kql_meaning.proofs.KindLaws.{kind-Literal}
use Rattle.kql_meaning.proofs.LiteralLaws.{is_of_kind-decides}
use Rattle.bind_expr.specs.Calls.{from_moment, has_part, is_part, is_part_literal, is_part_value, moment_call, moment_call_as, moment_literal, moment_sign, plain_call, plain_call_as, scalar_call, scalar_call_as, takes_args}
use Rattle.bind_expr.specs.Counts.{count_of, is_count}
use Rattle.bind_expr.specs.Operands.{typed_call}
use Rattle.bind_expr.specs.declared.scope.Scope.{Scope}
use Rattle.bind_expr_laws.specs.Scopes.{read_scope}
use Rattle.bind_expr_laws.proofs.Arguments.{HasArgs, args-parts}
use Rattle.bind_expr_laws.proofs.Chains.{chain-first, chain-part, chain-push}
use Rattle.bind_expr_laws.proofs.Constants.{literal-part, value-literal}
use Rattle.bind_expr_laws.proofs.Outcomes.{Gives, gives-typed}
use Rattle.bind_expr_laws.proofs.Parts.{AreParts, IsBound, IsPart, call-part, part-bound}
use Rattle.bind_expr_laws.proofs.Shapes.{Args, Spot}
use Rattle.bind_expr_laws.proofs.StandingSteps.{stands-Literal}

-- A part that is a literal.

literal-roll : (f : BExpr-F BExpr) (l : Lit) → literal_step f ≡ Some l → roll-BExpr f ≡ V.Literal l
literal-roll (BExpr-F.Literal m) l e = let same : m ≡ l = cc in V.rolls-Literal m ∙ ap V.Literal same
literal-roll _ l e = absurd cc

literal-is : (e : BExpr) (l : Lit) → literal_of e ≡ Some l → e ≡ V.Literal l
unfolding literal_of
literal-is e l h = sym (roll-out-BExpr e) ∙ literal-roll (out-BExpr e) l h

pub literal-parts : (scope : Scope) (at : Position) (e : BExpr) (k : Kind) (l : Lit) → IsPart scope at e k → literal_of e ≡ Some l → (literal_fits l ≡ true) × (l.kind ≡ k)
literal-parts scope at e k l h is =
    let same = literal-is e l is in
    let part = subst (λ (x : BExpr). IsPart scope at x k) same h in
    (sym (fits-Literal l (read_scope scope) at) ∙ part.fits (stands-Literal at l), same_Some l.kind k (sym (kind-Literal l scope.schema) ∙ part.kind))

pub literal-known : (l : Lit) → literal_fits l ≡ true → IsOfKind l.kind l.value
unfolding literal_fits
literal-known l e = (is_of_kind-decides l.kind l.value).0 (and_parts (is_of_kind l.kind l.value) (is_well_formed l.value) e).0

-- The word of a part.

word-known : {X : Type 0} (named : List ℕ → Option X) (v : Value) → IsOfKind kind.Text v → is_part_value named v ≡ true → names_part named (word_of v) ≡ true
unfolding names_part word_of
word-known named (value.Text w) h e = e
word-known named value.Null h e = absurd h
word-known named (value.Bool b) h e = absurd h
word-known named (value.Long n) h e = absurd h
word-known named (value.Moment n) h e = absurd h
word-known named (value.Span n) h e = absurd h
word-known named (value.Dynamic d) h e = absurd h

word-part : {X : Type 0} (named : List ℕ → Option X) (scope : Scope) (at : Position) (e : BExpr) (o : Option Lit) → IsPart scope at e kind.Text → literal_of e ≡ o → is_part_literal named o ≡ true → names_part named (word_in o) ≡ true
unfolding word_in
word-part named scope at e None h is t = absurd cc
word-part named scope at e (Some l) h is t =
    let q = literal-parts scope at e kind.Text l h is in
    word-known named l.value (subst (λ (k : Kind). IsOfKind k l.value) q.1 (literal-known l q.0)) t

first-part : {X : Type 0} (named : List ℕ → Option X) (scope : Scope) (at : Position) (es : List BExpr) (ks more : List Kind) → AreParts scope at es ks → is_part named es ≡ true → ks ≡ kind.Text ∷ more → first_is_part named es ≡ true
unfolding first_is_part first_word
first-part named scope at [] ks more h t same = absurd cc
first-part named scope at (e ∷ es) [] more h t same = absurd h
first-part named scope at (e ∷ es) (k ∷ ks) more h t same =
    let text : k ≡ kind.Text = cc in
    word-part named scope at e (literal_of e) (subst (IsPart scope at e) text h.0) refl t

row-some : (ks taken : List Kind) (given k : Kind) → row ks taken given ≡ Some k → (ks ≡ taken) × (given ≡ k)
unfolding row
row-some ks taken given k e = tested (same_kinds ks taken) refl e
  where
    tested : (b : Bool) → same_kinds ks taken ≡ b → (if b then Some given else None) ≡ Some k → (ks ≡ taken) × (given ≡ k)
    tested true is e = (same-kinds ks taken is, same_Some given k e)
    tested false is e = absurd cc

part-known : (scope : Scope) (at : Position) (f : Func) (es : List BExpr) (ks : List Kind) (k : Kind) → has_part f es ≡ true → AreParts scope at es ks → result_kind f ks ≡ Some k → part_fits f es ≡ true
unfolding has_part part_fits result_kind time_kind
part-known scope at (func.Time time.DatetimeAdd) es ks k t h e = first-part period_named scope at es ks _ h t (row-some ks _ _ k e).0
part-known scope at (func.Time time.DatetimeDiff) es ks k t h e = first-part period_named scope at es ks _ h t (row-some ks _ _ k e).0
part-known scope at (func.Time time.DatetimePart) es ks k t h e = first-part field_named scope at es ks _ h t (row-some ks _ _ k e).0
part-known scope at _ es ks k t h e = refl

no-sign : (f : Func) → moment_sign f ≡ None → is_callable f ≡ true
unfolding moment_sign is_callable
no-sign (func.Time time.Now) e = absurd cc
no-sign (func.Time time.Ago) e = absurd cc
no-sign _ e = refl

-- Calls as they stand.

args-known : (f : Func) (a : Args) → takes_args f a ≡ true → (a.has_stray ≡ false) × (has_part f a.exprs ≡ true)
unfolding takes_args
args-known f a e =
    let both = and_parts (not a.has_stray) (is_count (count_of f) (length a.kinds) && has_part f a.exprs) e in
    (not-true a.has_stray both.0, (and_parts (is_count (count_of f) (length a.kinds)) (has_part f a.exprs) both.1).1)

plain-as : (scope : Scope) (spot : Spot) (place : Place) (f : Func) (a : Args) (b : Bool) → HasArgs scope spot.position spot.position a → moment_sign f ≡ None → takes_args f a ≡ b → Gives (IsBound scope spot) (plain_call_as place f a b)
unfolding typed_call
plain-as scope spot place f a false h none e = record { holds = tt }
plain-as scope spot place f a true h none e =
    let known = args-known f a e in
    let parts = args-parts scope spot.position a.exprs a.kinds (h known.0) in
    gives-typed (IsBound scope spot) place (V.Call f a.exprs) (result_kind f a.kinds)
    (λ k is. part-bound scope spot (record { expr = V.Call f a.exprs; kind = k }) (call-part scope spot.position f a.exprs a.kinds k parts (no-sign f none) (part-known scope spot.position f a.exprs a.kinds k known.1 parts is) is))

-- `now` and `ago`.

moment-part : (scope : Scope) (at : Position) (m : ℤ) → IsMoment m → IsPart scope at (moment_literal m) kind.Moment
moment-part scope at m h = literal-part scope at (record { kind = kind.Moment; value = value.Moment m }) (value-literal kind.Moment (value.Moment m) (tt, h))

moved-part : (scope : Scope) (at : Position) (s : ChainSign) (m : ℤ) (e : BExpr) → IsMoment m → IsPart scope at e kind.Span → result_kind (sign_func s) (kind.Moment ∷ kind.Span ∷ []) ≡ Some kind.Moment → IsPart scope at (V.Chain (moment_literal m) ((s, e) ∷ [])) kind.Moment
moved-part scope at s m e h part is =
    chain-part scope at (moment_literal m) ((s, e) ∷ []) kind.Moment
    (chain-push scope at (moment_literal m) [] kind.Moment s e kind.Span kind.Moment (chain-first scope at (moment_literal m) kind.Moment (moment-part scope at m h)) part is)

either-some : (a b : Option Kind) (k : Kind) (A : Type 0) → (a ≡ Some k → A) → (b ≡ Some k → A) → either a b ≡ Some k → A
either-some None b k A f g e = g e
either-some (Some x) b k A f g e = f e

span-alone : (scope : Scope) (at : Position) (e : BExpr) (es : List BExpr) (ks : List Kind) → AreParts scope at (e ∷ es) ks → ks ≡ kind.Span ∷ [] → IsPart scope at e kind.Span
span-alone scope at e es [] h same = absurd h
span-alone scope at e es (k ∷ ks) h same = let span : k ≡ kind.Span = cc in subst (IsPart scope at e) span h.0

now-kinds : (ks : List Kind) (k : Kind) → result_kind (func.Time time.Now) ks ≡ Some k → (k ≡ kind.Moment) × ((ks ≡ [] → ⊥) → ks ≡ kind.Span ∷ [])
unfolding result_kind time_kind
now-kinds ks k e =
    either-some (row ks [] kind.Moment) (row ks (kind.Span ∷ []) kind.Moment) k ((k ≡ kind.Moment) × ((ks ≡ [] → ⊥) → ks ≡ kind.Span ∷ []))
    (λ a. let q = row-some ks [] kind.Moment k a in (sym q.1, λ n. absurd (n q.0)))
    (λ b. let q = row-some ks (kind.Span ∷ []) kind.Moment k b in (sym q.1, λ n. q.0)) e

ago-kinds : (ks : List Kind) (k : Kind) → result_kind (func.Time time.Ago) ks ≡ Some k → (ks ≡ kind.Span ∷ []) × (kind.Moment ≡ k)
unfolding result_kind time_kind
ago-kinds ks k e = row-some ks (kind.Span ∷ []) kind.Moment k e

some-kinds : (scope : Scope) (at : Position) (e : BExpr) (es : List BExpr) (ks : List Kind) → AreParts scope at (e ∷ es) ks → ks ≡ [] → ⊥
some-kinds scope at e es [] h same = absurd h
some-kinds scope at e es (k ∷ ks) h same = cc

later : result_kind (sign_func sign.Add) (kind.Moment ∷ kind.Span ∷ []) ≡ Some kind.Moment
unfolding result_kind sign_func arithmetic_kind row same_kinds
later = refl

earlier : result_kind (sign_func sign.Subtract) (kind.Moment ∷ kind.Span ∷ []) ≡ Some kind.Moment
unfolding result_kind sign_func arithmetic_kind row same_kinds
earlier = refl

moments-part : (scope : Scope) (at : Position) (f : Func) (s : ChainSign) (m : ℤ) (es : List BExpr) (ks : List Kind) (k : Kind) → IsMoment m → AreParts scope at es ks → moment_sign f ≡ Some s → result_kind f ks ≡ Some k → IsPart scope at (from_moment s m es) k
unfolding moment_sign from_moment
moments-part scope at (func.Time time.Now) s m [] ks k r h is e = subst (IsPart scope at (moment_literal m)) (sym (now-kinds ks k e).0) (moment-part scope at m r)
moments-part scope at (func.Time time.Now) s m (x ∷ xs) ks k r h is e =
    let q = now-kinds ks k e in
    let add : sign.Add ≡ s = cc in
    let span = span-alone scope at x xs ks h (q.1 (some-kinds scope at x xs ks h)) in
    subst (λ (c : ChainSign). IsPart scope at (V.Chain (moment_literal m) ((c, x) ∷ [])) k) add (subst (IsPart scope at (V.Chain (moment_literal m) ((sign.Add, x) ∷ []))) (sym q.0) (moved-part scope at sign.Add m x r span later))
moments-part scope at (func.Time time.Ago) s m [] [] k r h is e = absurd (let none = (ago-kinds [] k e).0 in cc)
moments-part scope at (func.Time time.Ago) s m [] (j ∷ js) k r h is e = absurd h
moments-part scope at (func.Time time.Ago) s m (x ∷ xs) ks k r h is e =
    let q = ago-kinds ks k e in
    let subtract : sign.Subtract ≡ s = cc in
    let span = span-alone scope at x xs ks h q.0 in
    subst (λ (c : ChainSign). IsPart scope at (V.Chain (moment_literal m) ((c, x) ∷ [])) k) subtract (subst (IsPart scope at (V.Chain (moment_literal m) ((sign.Subtract, x) ∷ []))) q.1 (moved-part scope at sign.Subtract m x r span earlier))
moments-part scope at _ s m es ks k r h is e = absurd cc

moment-as : (scope : Scope) (spot : Spot) (place : Place) (f : Func) (s : ChainSign) (m : ℤ) (a : Args) (b : Bool) → HasArgs scope spot.position spot.position a → IsMoment m → moment_sign f ≡ Some s → takes_args f a ≡ b → Gives (IsBound scope spot) (moment_call_as place f s m a b)
moment-as scope spot place f s m a false h r is e = record { holds = tt }
moment-as scope spot place f s m a true h r is e =
    let parts = args-parts scope spot.position a.exprs a.kinds (h (args-known f a e).0) in
    gives-typed (IsBound scope spot) place (from_moment s m a.exprs) (result_kind f a.kinds)
    (λ k given. part-bound scope spot (record { expr = from_moment s m a.exprs; kind = k }) (moments-part scope spot.position f s m a.exprs a.kinds k r parts is given))

moment-bound : (scope : Scope) (spot : Spot) (place : Place) (f : Func) (s : ChainSign) (a : Args) (o : Option ℤ) → HasArgs scope spot.position spot.position a → IfSome o IsMoment → moment_sign f ≡ Some s → Gives (IsBound scope spot) (moment_call place f s a o)
moment-bound scope spot place f s a None h r is = record { holds = tt }
moment-bound scope spot place f s a (Some m) h r is = moment-as scope spot place f s m a (takes_args f a) h r is refl

scalar-as : (scope : Scope) (spot : Spot) (place : Place) (f : Func) (a : Args) (o : Option ℤ) (s : Option ChainSign) → HasArgs scope spot.position spot.position a → IfSome o IsMoment → moment_sign f ≡ s → Gives (IsBound scope spot) (scalar_call_as place f a o s)
unfolding plain_call
scalar-as scope spot place f a o None h r is = plain-as scope spot place f a (takes_args f a) h is refl
scalar-as scope spot place f a o (Some s) h r is = moment-bound scope spot place f s a o h r is

pub scalar-bound : (scope : Scope) (spot : Spot) (place : Place) (f : Func) (a : Args) (o : Option ℤ) → HasArgs scope spot.position spot.position a → IfSome o IsMoment → Gives (IsBound scope spot) (scalar_call place f a o)
unfolding scalar_call
scalar-bound scope spot place f a o h r = scalar-as scope spot place f a o (moment_sign f) h r refl

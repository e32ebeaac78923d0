-- What a function gives is of the type that `result_kind` says, or null.
use Rattle.std.proofs.Common.{◌≡◌, ℕ, Bool, true, false, List, [], ◌∷◌, refl, subst}
use Rattle.std.specs.Prelude.{ℤ, Option, None, Some, IfSome, if◌then◌else◌}
use Rattle.std.proofs.lemmas.Bool.{and_parts}
use Rattle.kql_cells.specs.Values.{IsOfKind}
use Rattle.kql_cells.specs.declared.value.Kind.{Kind}
use Rattle.kql_cells.specs.declared.value.Kind.TheVariants as kind
use Rattle.kql_cells.specs.declared.value.Value.{Value}
use Rattle.kql_cells.specs.declared.value.Value.TheVariants as value
use Rattle.kql_scalar_fns.specs.Arguments.{argument, bool_or_null, long_or_null, moment_or_null, span_or_null}
use Rattle.kql_functions.specs.Kinds.{AreOfKinds, either, row, same_kind, same_kinds}

-- a value is of the type given, where one is given
abbrev pub Gives : Option Kind → Value → Type 0
Gives o v = IfSome o (λ k. IsOfKind k v)

pub bool-kind : (o : Option Bool) → IsOfKind kind.Bool (bool_or_null o)
bool-kind None = tt
bool-kind (Some b) = tt

pub long-kind : (o : Option ℤ) → IsOfKind kind.Long (long_or_null o)
long-kind None = tt
long-kind (Some n) = tt

pub moment-kind : (o : Option ℤ) → IsOfKind kind.Moment (moment_or_null o)
moment-kind None = tt
moment-kind (Some n) = tt

pub span-kind : (o : Option ℤ) → IsOfKind kind.Span (span_or_null o)
span-kind None = tt
span-kind (Some n) = tt

-- a value of this type is null or a long
pub by-long : (P : Value → Type 0) → P value.Null → ((n : ℤ) → P (value.Long n)) → (v : Value) → IsOfKind kind.Long v → P v
by-long P p q value.Null h = p
by-long P p q (value.Bool x) h = absurd h
by-long P p q (value.Long n) h = q n
by-long P p q (value.Text x) h = absurd h
by-long P p q (value.Moment x) h = absurd h
by-long P p q (value.Span x) h = absurd h
by-long P p q (value.Dynamic x) h = absurd h

-- a value of this type is null or a moment
pub by-moment : (P : Value → Type 0) → P value.Null → ((n : ℤ) → P (value.Moment n)) → (v : Value) → IsOfKind kind.Moment v → P v
by-moment P p q value.Null h = p
by-moment P p q (value.Bool x) h = absurd h
by-moment P p q (value.Long x) h = absurd h
by-moment P p q (value.Text x) h = absurd h
by-moment P p q (value.Moment n) h = q n
by-moment P p q (value.Span x) h = absurd h
by-moment P p q (value.Dynamic x) h = absurd h

-- a value of this type is null or a span
pub by-span : (P : Value → Type 0) → P value.Null → ((n : ℤ) → P (value.Span n)) → (v : Value) → IsOfKind kind.Span v → P v
by-span P p q value.Null h = p
by-span P p q (value.Bool x) h = absurd h
by-span P p q (value.Long x) h = absurd h
by-span P p q (value.Text x) h = absurd h
by-span P p q (value.Moment x) h = absurd h
by-span P p q (value.Span n) h = q n
by-span P p q (value.Dynamic x) h = absurd h

-- a text is never null
pub by-text : (P : Value → Type 0) → ((t : List ℕ) → P (value.Text t)) → (v : Value) → IsOfKind kind.Text v → P v
by-text P q value.Null h = absurd h
by-text P q (value.Bool x) h = absurd h
by-text P q (value.Long x) h = absurd h
by-text P q (value.Text t) h = q t
by-text P q (value.Moment x) h = absurd h
by-text P q (value.Span x) h = absurd h
by-text P q (value.Dynamic x) h = absurd h

pub same-kind : (a b : Kind) → same_kind a b ≡ true → a ≡ b
same-kind kind.Bool kind.Bool e = refl
same-kind kind.Bool kind.Long e = cc
same-kind kind.Bool kind.Text e = cc
same-kind kind.Bool kind.Moment e = cc
same-kind kind.Bool kind.Span e = cc
same-kind kind.Bool kind.Dynamic e = cc
same-kind kind.Long kind.Bool e = cc
same-kind kind.Long kind.Long e = refl
same-kind kind.Long kind.Text e = cc
same-kind kind.Long kind.Moment e = cc
same-kind kind.Long kind.Span e = cc
same-kind kind.Long kind.Dynamic e = cc
same-kind kind.Text kind.Bool e = cc
same-kind kind.Text kind.Long e = cc
same-kind kind.Text kind.Text e = refl
same-kind kind.Text kind.Moment e = cc
same-kind kind.Text kind.Span e = cc
same-kind kind.Text kind.Dynamic e = cc
same-kind kind.Moment kind.Bool e = cc
same-kind kind.Moment kind.Long e = cc
same-kind kind.Moment kind.Text e = cc
same-kind kind.Moment kind.Moment e = refl
same-kind kind.Moment kind.Span e = cc
same-kind kind.Moment kind.Dynamic e = cc
same-kind kind.Span kind.Bool e = cc
same-kind kind.Span kind.Long e = cc
same-kind kind.Span kind.Text e = cc
same-kind kind.Span kind.Moment e = cc
same-kind kind.Span kind.Span e = refl
same-kind kind.Span kind.Dynamic e = cc
same-kind kind.Dynamic kind.Bool e = cc
same-kind kind.Dynamic kind.Long e = cc
same-kind kind.Dynamic kind.Text e = cc
same-kind kind.Dynamic kind.Moment e = cc
same-kind kind.Dynamic kind.Span e = cc
same-kind kind.Dynamic kind.Dynamic e = refl

pub same-kinds : (ks ws : List Kind) → same_kinds ks ws ≡ true → ks ≡ ws
unfolding same_kinds
same-kinds [] [] e = refl
same-kinds [] (w ∷ ws) e = cc
same-kinds (k ∷ ks) [] e = cc
same-kinds (k ∷ ks) (w ∷ ws) e =
    let p = and_parts (same_kind k w) (same_kinds ks ws) e in
    let q = same-kind k w p.0 in
    let r = same-kinds ks ws p.1 in
    cc

pub test-gives : (b : Bool) (k : Kind) (v : Value) → (b ≡ true → IsOfKind k v) → Gives (if b then Some k else None) v
test-gives true k v h = h refl
test-gives false k v h = tt

pub either-gives : (a b : Option Kind) (v : Value) → Gives a v → Gives b v → Gives (either a b) v
either-gives (Some k) b v h g = h
either-gives None b v h g = g

-- a row whose type is that of the value
pub row-any : (ks taken : List Kind) (k : Kind) (v : Value) → IsOfKind k v → Gives (row ks taken k) v
unfolding row
row-any ks taken k v h = test-gives (same_kinds ks taken) k v (λ e. h)

-- a row whose type is that of the value where the arguments are of the types taken
pub row-fits : (ks taken : List Kind) (k : Kind) (v : Value) (vs : List Value) → AreOfKinds ks vs → (AreOfKinds taken vs → IsOfKind k v) → Gives (row ks taken k) v
unfolding row
row-fits ks taken k v vs a h = test-gives (same_kinds ks taken) k v (λ e. h (subst (λ (ws : List Kind). AreOfKinds ws vs) (same-kinds ks taken e) a))

-- the arguments of given types
pub first-kind : (k : Kind) (ks : List Kind) (vs : List Value) → AreOfKinds (k ∷ ks) vs → IsOfKind k (argument vs 0)
unfolding argument
first-kind k ks [] h = absurd h
first-kind k ks (v ∷ vs) h = h.0

pub second-kind : (j k : Kind) (ks : List Kind) (vs : List Value) → AreOfKinds (j ∷ k ∷ ks) vs → IsOfKind k (argument vs 1)
unfolding argument
second-kind j k ks [] h = absurd h
second-kind j k ks (v ∷ []) h = absurd h.1
second-kind j k ks (v ∷ w ∷ vs) h = h.1.0

pub third-kind : (i j k : Kind) (ks : List Kind) (vs : List Value) → AreOfKinds (i ∷ j ∷ k ∷ ks) vs → IsOfKind k (argument vs 2)
unfolding argument
third-kind i j k ks [] h = absurd h
third-kind i j k ks (v ∷ []) h = absurd h.1
third-kind i j k ks (v ∷ w ∷ []) h = absurd h.1.1
third-kind i j k ks (v ∷ w ∷ x ∷ vs) h = h.1.1.0

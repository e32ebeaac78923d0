-- The tests of a literal's type and form say what the facts of values say.
use Rattle.std.proofs.Common.{◌≡◌, ℕ, Bool, true, false, ℤ, pos, negsuc, refl, arith}
use Rattle.std.specs.Bool.{Decides}
use Rattle.std.specs.Prelude.{◌≤ℤ◌, not}
use Rattle.std.proofs.lemmas.Bool.{and_parts, and_from}
use Rattle.kql_ticks.specs.Ranges.{is_moment}
use Rattle.kql_cells.specs.Dynamic.{is_null, is_well_formed_dynamic}
use Rattle.kql_cells.specs.Values.{IsMoment, IsOfKind, IsWellFormed}
use Rattle.kql_cells.specs.declared.value.Kind.{Kind}
use Rattle.kql_cells.specs.declared.value.Kind.TheVariants as kind
use Rattle.kql_cells.specs.declared.value.Value.{Value}
use Rattle.kql_cells.specs.declared.value.Value.TheVariants as value
use Rattle.kql_meaning.specs.Literals.{is_of_kind, is_well_formed}

pub is_of_kind-decides : (k : Kind) (v : Value) → Decides (is_of_kind k v) (IsOfKind k v)
unfolding is_of_kind
is_of_kind-decides kind.Bool (value.Bool b) = (λ e. tt, λ p. refl)
is_of_kind-decides kind.Long (value.Long n) = (λ e. tt, λ p. refl)
is_of_kind-decides kind.Text (value.Text t) = (λ e. tt, λ p. refl)
is_of_kind-decides kind.Moment (value.Moment n) = (λ e. tt, λ p. refl)
is_of_kind-decides kind.Span (value.Span n) = (λ e. tt, λ p. refl)
is_of_kind-decides kind.Dynamic (value.Dynamic d) = (λ e. tt, λ p. refl)
is_of_kind-decides kind.Text value.Null = (λ e. cc, λ p. absurd p)
is_of_kind-decides _ value.Null = (λ e. tt, λ p. refl)
is_of_kind-decides _ _ = (λ e. cc, λ p. absurd p)

below : (n : ℕ) → pos 0 ≤ℤ negsuc n → ⊥
below n p = grind arith

is_moment-decides : (x : ℤ) → Decides (is_moment x) (IsMoment x)
is_moment-decides (pos n) = (λ e. grind arith, λ p. grind arith)
is_moment-decides (negsuc n) = (λ e. cc, λ p. absurd (below n p.0))

turned : (b : Bool) → not b ≡ true → b ≡ false
turned true e = cc
turned false e = refl

pub is_well_formed-decides : (v : Value) → Decides (is_well_formed v) (IsWellFormed v)
unfolding is_well_formed
is_well_formed-decides (value.Moment x) = is_moment-decides x
is_well_formed-decides (value.Dynamic d) =
    (λ e. let parts = and_parts (not (is_null d)) (is_well_formed_dynamic d) e in (turned (is_null d) parts.0, parts.1), λ p. and_from (not (is_null d)) (is_well_formed_dynamic d) (rw p.0 refl) p.1)
is_well_formed-decides _ = (λ e. tt, λ p. refl)

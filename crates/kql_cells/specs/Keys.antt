-- The keys of rows: when they are the same, and what stands where there is no value.
use Rattle.std.specs.Prelude.{◌≡◌, ℕ, ℤ, Bool, true, false, not, ◌&&◌, List, [], ◌∷◌, bytes_eq, refl}
use Rattle.std.specs.Bool.{Decides, one_answer}
use Rattle.std.specs.Cmp.{IsEquivalence}
use Rattle.std.specs.Ordering.{int_eq}
use Rattle.std.proofs.Common.{ap, ap₂, sym}
use Rattle.std.proofs.lemmas.Bool.{and_parts, and_from}
use Rattle.std.proofs.lemmas.Bool.Decides.{Decides-int_eq}
use Rattle.std.proofs.lemmas.Slice.Eq.{bytes_eq-Decides}
use Rattle.kql_cells.specs.Same.{same, same-decides}
use Rattle.kql_cells.specs.declared.value.Kind.{Kind}
use Rattle.kql_cells.specs.declared.value.Kind.TheVariants as kind
use Rattle.kql_cells.specs.declared.value.Value.{Value}
use Rattle.kql_cells.specs.declared.value.Value.TheVariants as value

-- What stands where there is no value: null, and the empty text for a string, which is never null.
unfoldable pub absent : Kind → Value
absent kind.Text = value.Text []
absent _ = value.Null

unfoldable pub is_null : Value → Bool
is_null value.Null = true
is_null _ = false

abbrev pub bools_equal : Bool → Bool → Bool
bools_equal true b = b
bools_equal false b = not b

-- Two values have the same key where they are identical; two nulls have the same key.
unfoldable pub same_key : Value → Value → Bool
same_key value.Null value.Null = true
same_key (value.Bool a) (value.Bool b) = bools_equal a b
same_key (value.Long a) (value.Long b) = int_eq a b
same_key (value.Text a) (value.Text b) = bytes_eq a b
same_key (value.Moment a) (value.Moment b) = int_eq a b
same_key (value.Span a) (value.Span b) = int_eq a b
same_key (value.Dynamic a) (value.Dynamic b) = same a b
same_key _ _ = false

-- The same of keys of several values.
unfoldable pub same_keys : List Value → List Value → Bool
same_keys [] [] = true
same_keys (v ∷ vs) (w ∷ ws) = same_key v w && same_keys vs ws
same_keys _ _ = false

bools : (a b : Bool) → Decides (bools_equal a b) (a ≡ b)
bools true true = (λ e. refl, λ p. refl)
bools true false = (λ e. cc, λ p. cc)
bools false true = (λ e. cc, λ p. cc)
bools false false = (λ e. refl, λ p. refl)

ints : (a b : ℤ) → Decides (int_eq a b) (a ≡ b)
ints a b = Decides-int_eq a b

bytes : (a b : List ℕ) → Decides (bytes_eq a b) (a ≡ b)
bytes a b = bytes_eq-Decides a b

-- Two values have the same key exactly where they are identical.
pub same_key-decides : (v w : Value) → Decides (same_key v w) (v ≡ w)
unfolding same_key
same_key-decides value.Null value.Null = (λ e. refl, λ p. refl)
same_key-decides (value.Bool a) (value.Bool b) = (λ e. ap value.Bool ((bools a b).0 e), λ p. (bools a b).1 cc)
same_key-decides (value.Long a) (value.Long b) = (λ e. ap value.Long ((ints a b).0 e), λ p. (ints a b).1 cc)
same_key-decides (value.Text a) (value.Text b) = (λ e. ap value.Text ((bytes a b).0 e), λ p. (bytes a b).1 cc)
same_key-decides (value.Moment a) (value.Moment b) = (λ e. ap value.Moment ((ints a b).0 e), λ p. (ints a b).1 cc)
same_key-decides (value.Span a) (value.Span b) = (λ e. ap value.Span ((ints a b).0 e), λ p. (ints a b).1 cc)
same_key-decides (value.Dynamic a) (value.Dynamic b) = (λ e. ap value.Dynamic ((same-decides a b).0 e), λ p. (same-decides a b).1 cc)
same_key-decides v w = (λ e. cc, λ p. cc)

-- The same of keys of several values.
pub same_keys-decides : (vs ws : List Value) → Decides (same_keys vs ws) (vs ≡ ws)
unfolding same_keys
same_keys-decides [] [] = (λ e. refl, λ p. refl)
same_keys-decides [] (w ∷ ws) = (λ e. cc, λ p. cc)
same_keys-decides (v ∷ vs) [] = (λ e. cc, λ p. cc)
same_keys-decides (v ∷ vs) (w ∷ ws) =
    let first = same_key-decides v w in
    let rest = same_keys-decides vs ws in
    (λ e. let parts = and_parts (same_key v w) (same_keys vs ws) e in ap₂ (λ x xs. x ∷ xs) (first.0 parts.0) (rest.0 parts.1), λ p. and_from (same_key v w) (same_keys vs ws) (first.1 cc) (rest.1 cc))

pub same_keys-refl : (vs : List Value) → same_keys vs vs ≡ true
same_keys-refl vs = (same_keys-decides vs vs).1 refl

pub same_keys-equiv : IsEquivalence same_keys
same_keys-equiv = record {
  refl = same_keys-refl;
  symm = λ x y. one_answer (same_keys x y) (same_keys y x) (same_keys-decides x y) (λ e. sym ((same_keys-decides y x).0 e), λ p. (same_keys-decides y x).1 (sym p));
  congr = λ x y z e. ap (λ w. same_keys w z) ((same_keys-decides x y).0 e);
}

-- what is the same has the same of everything
pub same_keys_alike : {X : Type 0} (f : List Value → X) (x y : List Value) → same_keys x y ≡ true → f x ≡ f y
same_keys_alike f x y e = ap f ((same_keys-decides x y).0 e)

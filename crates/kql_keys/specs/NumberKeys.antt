-- Keys that are one number, or null.
use Rattle.std.specs.Prelude.{◌≡◌, ℕ, ℤ, pos, Bool, true, List, map, Option, Some, None, slice_index_or, refl}
use Rattle.std.specs.Bool.{Decides}
use Rattle.std.specs.Cmp.{IsEquivalence}
use Rattle.std.specs.Cmp.Lexicographic.{options_equiv}
use Rattle.std.specs.Hash as fed
use Rattle.std.specs.Hash.{HashWrites}
use Rattle.std.specs.List.{range_with_len}
use Rattle.std.specs.Option.{option_eq}
use Rattle.std.specs.Ordering.{int_eq}
use Rattle.std.proofs.Common.{ap}
use Rattle.std.proofs.lemmas.Bool.Decides.{Decides-int_eq}
use Rattle.std.proofs.lemmas.Cmp.{int_eq_equiv}
use Rattle.kql_values.specs.Nullable.{nullable}
use Rattle.kql_values.specs.declared.store.Numbers.{Numbers}

-- whether two numbers are the same; two nulls are
abbrev pub same_numbers : Option ℤ → Option ℤ → Bool
same_numbers a b = option_eq int_eq a b

-- what a number feeds to a hasher: a null what 0 feeds
abbrev pub number_writes : Option ℤ → HashWrites
number_writes None = fed.i64 (pos 0)
number_writes (Some n) = fed.i64 n

-- the number at a place of lent ones, or null
unfoldable pub number_at : Numbers → ℕ → Option ℤ
number_at n i = slice_index_or (nullable n.numbers.now n.nulls.now) i None

-- the first of them
unfoldable pub first_numbers : Numbers → ℕ → List (Option ℤ)
first_numbers n count = map (number_at n) (range_with_len 0 count)

-- Two numbers are the same exactly where they are identical.
pub same_numbers-decides : (a b : Option ℤ) → Decides (same_numbers a b) (a ≡ b)
same_numbers-decides None None = (λ e. refl, λ p. refl)
same_numbers-decides None (Some b) = (λ e. cc, λ p. cc)
same_numbers-decides (Some a) None = (λ e. cc, λ p. cc)
same_numbers-decides (Some a) (Some b) = (λ e. ap Some ((Decides-int_eq a b).0 e), λ p. (Decides-int_eq a b).1 cc)

pub same_numbers-equiv : IsEquivalence same_numbers
same_numbers-equiv = options_equiv int_eq_equiv

-- what is the same has the same of everything
pub same_numbers_alike : {X : Type 0} (f : Option ℤ → X) (a b : Option ℤ) → same_numbers a b ≡ true → f a ≡ f b
same_numbers_alike f a b e = ap f ((same_numbers-decides a b).0 e)

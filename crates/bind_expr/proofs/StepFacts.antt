-- The place of the first that has a name is within the list.
use Rattle.std.proofs.Common.{◌≡◌, ◌<◌, ℕ, zero, suc, List, [], ◌∷◌, length, refl, sym}
use Rattle.std.specs.Prelude.{Bool, IfSome, None, Option, Some, position, slice_get, slice_index_or}
use Rattle.std.proofs.lemmas.List.Quantifiers.{position-Some}

found-within : {X : Type 0} (p : X → Bool) (xs : List X) (o : Option ℕ) → o ≡ position p xs → IfSome o (λ i. i < length xs)
found-within p xs None is = tt
found-within p [] (Some i) is = cc
found-within p (x ∷ xs) (Some i) is = (position-Some p (x ∷ xs) i x (sym is)).0

pub place-within : {X : Type 0} (p : X → Bool) (xs : List X) (o : Option ℕ) → o ≡ position p xs → IfSome o (λ i. i < length xs)
place-within p xs o is = found-within p xs o is

-- What is not there is the default.
pub nothing-there : {X : Type 0} (xs : List X) (i : ℕ) (d : X) → slice_get xs i ≡ None → d ≡ slice_index_or xs i d
nothing-there [] i d e = refl
nothing-there (x ∷ xs) zero d e = cc
nothing-there (x ∷ xs) (suc i) d e = nothing-there xs i d e

pub ruleset place_facts = (place-within)

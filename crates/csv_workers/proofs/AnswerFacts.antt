-- Answers of pieces that are all the same.
use Rattle.std.proofs.Common.{◌≡◌, ◌∷◌, ℕ, List, [], map, refl}
use Rattle.std.specs.Prelude.{All}
use Rattle.std.proofs.lemmas.List.Elements.{All-cons, All-nil}

all-same : {X : Type 0} (x : X) (ns : List ℕ) → All (λ y. y ≡ x) (map (λ (n : ℕ). x) ns)
all-same x [] = All-nil (λ y. y ≡ x)
all-same x (n ∷ ns) = All-cons (λ y. y ≡ x) x (map (λ (m : ℕ). x) ns) refl (all-same x ns)

-- each of answers that are all the same is that one
pub all-answers : {X : Type 0} (x : X) (ns : List ℕ) (xs : List X) → xs ≡ map (λ (n : ℕ). x) ns → All (λ y. y ≡ x) xs
all-answers x ns xs e = rw e (all-same x ns)

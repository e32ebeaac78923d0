-- Where a value stands in a list.
use Rattle.std.proofs.Common.{◌≡◌, ◌<◌, ◌⊎◌, ℕ, get_or, zero, suc, List, ◌∷◌, length, inl, inr, arith}
use Rattle.std.specs.Prelude.{Contains}
use Rattle.kql_cells.specs.declared.value.Value.{Value}

pub here : (w v : Value) (vs : List Value) → w ≡ v → Contains (w ∷ vs) v
here w v vs e = (0, omega arith, e)

pub later : (w v : Value) (vs : List Value) → Contains vs v → Contains (w ∷ vs) v
later w v vs h = let l : h.0 < length vs = h.1 in (suc h.0, omega arith, h.2)

place-cases : (w v : Value) (vs : List Value) (k : ℕ) → k < length (w ∷ vs) → get_or (w ∷ vs) k v ≡ v → (w ≡ v) ⊎ Contains vs v
place-cases w v vs zero l e = inl e
place-cases w v vs (suc k) l e = inr (k, omega arith, e)

pub cons-cases : (w v : Value) (vs : List Value) → Contains (w ∷ vs) v → (w ≡ v) ⊎ Contains vs v
cons-cases w v vs h = place-cases w v vs h.0 h.1 h.2

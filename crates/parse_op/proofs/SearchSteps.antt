-- Places of a text, and ends of pieces.
use Rattle.std.proofs.Common.{◌≡◌, ◌↔◌, ℕ, Bool, true, false, List, sym, ◌∙◌, inl, inr}
use Rattle.std.specs.Prelude.{IsTrue}
use Rattle.std.specs.Str.{IsCharBoundary}
use Rattle.std.proofs.lemmas.Bool.{cases_Bool}
use Rattle.parse_op.specs.Search.{is_place}
use Rattle.parse_op.proofs.CutSteps.{boundary-place, place-boundary}

-- Places.

pub tested-place : (t : List ℕ) (i : ℕ) (b : Bool) → (IsTrue b ↔ IsCharBoundary t i) → b ≡ true → is_place t i ≡ true
tested-place t i b h e = boundary-place t i (h.0 e)

pub no-boundary : (t : List ℕ) (i : ℕ) (b : Bool) → (IsTrue b ↔ IsCharBoundary t i) → b ≡ false → is_place t i ≡ false
no-boundary t i b h e = elim (cases_Bool (is_place t i)) [
  | inl here ↦ let clash : false ≡ true = sym e ∙ h.1 (place-boundary t i here) in cc
  | inr other ↦ other
]

-- A comparison of texts, turned round.
use Rattle.std.proofs.Common.{◌≡◌, ℕ, Bool, true, false, List, take, length, sym, ◌∙◌, inl, inr}
use Rattle.std.specs.Prelude.{bytes_eq}
use Rattle.std.proofs.lemmas.Bool.{cases_Bool}
use Rattle.std.proofs.lemmas.Slice.Eq.{bytes_eq-Decides}

eq-turned : (a b : List ℕ) → bytes_eq a b ≡ bytes_eq b a
eq-turned a b = elim (cases_Bool (bytes_eq b a)) [
  | inl t ↦ (bytes_eq-Decides a b).1 (sym ((bytes_eq-Decides b a).0 t)) ∙ sym t
  | inr f ↦ elim (cases_Bool (bytes_eq a b)) [
    | inl t ↦ let no : true ≡ false = sym ((bytes_eq-Decides b a).1 (sym ((bytes_eq-Decides a b).0 t))) ∙ f in absurd cc
    | inr g ↦ g ∙ sym f
  ]
]

pub begins-by : (marks name : List ℕ) (b : Bool) → b ≡ bytes_eq marks (take (length marks) name) → b ≡ bytes_eq (take (length marks) name) marks
begins-by marks name b h = h ∙ eq-turned marks (take (length marks) name)

pub ruleset mark_steps = (begins-by)

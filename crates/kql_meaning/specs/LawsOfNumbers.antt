-- Numbers at equal distances, and the bins of `make-series`.
use Rattle.std.specs.Prelude.{◌≡◌, ◌↔◌, ℕ, ℤ, pos, ◌+ℤ◌, ◌*ℤ◌, ◌≤ℤ◌, ◌<ℤ◌, FitsSigned, Some, AllPairs, Contains, IsTrue}
use Rattle.std.specs.Int.{w64}
use Rattle.kql_bound.specs.declared.parts.SeriesPlan.{SeriesPlan}
use Rattle.kql_meaning.specs.MakeSeries.{bins, falls_in, is_inside}
use Rattle.kql_meaning.specs.Numbers.{terms}
use Rattle.kql_meaning.specs.Sources.{number_in}

-- For a positive s the terms are all numbers a + k * s, for k from 0 on, that are not above b.
abbrev pub TermsAreThose : Type 0
TermsAreThose = (a b s x : ℤ) → pos 0 <ℤ s → Contains (terms a b s) x ↔ ((x ≤ℤ b) × ((k : ℕ) × (x ≡ a +ℤ pos k *ℤ s)))

-- They rise, so each stands there once.
abbrev pub TermsRise : Type 0
TermsRise = (a b s : ℤ) → pos 0 <ℤ s → AllPairs (λ x y. x <ℤ y) (terms a b s)

-- A number falls in a bin where it lies from the start of the bin on and below that of the next.
abbrev pub FallsBetween : Type 0
FallsBetween = (p : SeriesPlan) (b x : ℤ) → pos 0 <ℤ number_in p.step → FitsSigned w64 (number_in p.from) → FitsSigned w64 x → Contains (bins p) b → IsTrue (falls_in p b (Some x)) ↔ ((b ≤ℤ x) × (x <ℤ (b +ℤ number_in p.step)))

-- A number inside falls in one of the bins, and in no other.
abbrev pub InsideInOneBin : Type 0
InsideInOneBin = (p : SeriesPlan) (x : ℤ) → pos 0 <ℤ number_in p.step → FitsSigned w64 (number_in p.from) → FitsSigned w64 x → IsTrue (is_inside p (Some x)) → (b : ℤ) × Contains (bins p) b × IsTrue (falls_in p b (Some x)) × ((c : ℤ) → IsTrue (falls_in p c (Some x)) → c ≡ b)

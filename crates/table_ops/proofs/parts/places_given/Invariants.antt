use Rattle.std.proofs.Common.{◌≡◌, ℕ, map}
use Rattle.table_ops.specs.Parts.{times_below}
use Rattle.table_ops.proofs.parts.places_given.Given as goal

-- the places so far
abbrev pub invariant-loop-i : goal.invariant-loop-i
invariant-loop-i l = l.places ≡ map (λ (p : ℕ × ℕ). p.0) (times_below l.counts l.i)

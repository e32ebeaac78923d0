use Rattle.std.proofs.Common.{◌≡◌}
use Rattle.row_ops.proofs.TermSteps.{terms_below}
use Rattle.row_ops.proofs.terms.terms.Given as goal

-- the terms so far
abbrev pub invariant-terms : goal.invariant-terms
invariant-terms l = l.made ≡ terms_below l.kind l.from l.step l.k

use Rattle.std.proofs.Common.{◌≡◌, take}
use Rattle.kql_bound.proofs.plan_clones.clone_schemas.Given as goal

abbrev pub invariant-loop-i : goal.invariant-loop-i
invariant-loop-i l = l.copies ≡ take l.i l.named

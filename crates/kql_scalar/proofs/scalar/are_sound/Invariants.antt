use Rattle.std.proofs.Common.{take}
use Rattle.kql_scalar.specs.Evaluated.{AreSound}
use Rattle.kql_scalar.proofs.scalar.are_sound.Given as goal

abbrev pub invariant-steps : goal.invariant-steps
invariant-steps l = AreSound (take l.held-index l.s)

use Rattle.std.proofs.Common.{◌≡◌, ◌++◌, length}
use Rattle.std.specs.Prelude.{option_map}
use Rattle.plan_rules.specs.Folding.{sound_literals}
use Rattle.plan_constants.proofs.calls.sound_literals.Given as goal

abbrev pub invariant-parts : goal.invariant-parts
invariant-parts l = sound_literals l.fn.es ≡ option_map (λ more. l.literals ++ more) (sound_literals l.left)

abbrev pub decreases-parts : goal.decreases-parts
decreases-parts l = length l.left

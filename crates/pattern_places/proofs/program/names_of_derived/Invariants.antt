use Rattle.std.proofs.Common.{◌≡◌, map, take}
use Rattle.pattern_lift.specs.declared.calls.Derived.{Derived}
use Rattle.pattern_places.proofs.program.names_of_derived.Given as goal

abbrev pub invariant-loop-d : goal.invariant-loop-d
invariant-loop-d l = l.names ≡ map (λ (d : Derived). d.name) (take l.d-index l.all)

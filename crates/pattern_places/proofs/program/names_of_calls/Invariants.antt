use Rattle.std.proofs.Common.{◌≡◌, map, take}
use Rattle.pattern_lift.specs.Derived.{name_of_call}
use Rattle.pattern_places.proofs.program.names_of_calls.Given as goal

abbrev pub invariant-loop-call : goal.invariant-loop-call
invariant-loop-call l = l.all ≡ map (name_of_call l.marks) (take l.call-index l.calls)

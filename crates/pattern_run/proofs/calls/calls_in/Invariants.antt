use Rattle.std.proofs.Common.{◌≡◌, take}
use Rattle.std.specs.List.{flat_map}
use Rattle.pattern_lift.specs.declared.calls.Derived.{Derived}
use Rattle.pattern_run.proofs.calls.calls_in.Given as goal

abbrev pub invariant-loop-prefix : goal.invariant-loop-prefix
invariant-loop-prefix l = l.all ≡ flat_map (λ (d : Derived). d.calls) (take l.prefix-index l.prefixes)

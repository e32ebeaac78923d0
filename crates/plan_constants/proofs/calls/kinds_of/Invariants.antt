use Rattle.std.proofs.Common.{◌≡◌, map, take}
use Rattle.plan_constants.specs.Literals.{kind_in}
use Rattle.plan_constants.proofs.calls.kinds_of.Given as goal

abbrev pub invariant-loop-lit : goal.invariant-loop-lit
invariant-loop-lit l = l.kinds.items ≡ map kind_in (take l.lit-index l.literals)

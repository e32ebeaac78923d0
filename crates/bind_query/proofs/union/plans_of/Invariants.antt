use Rattle.std.proofs.Common.{◌≡◌, ◌++◌, length, map}
use Rattle.std.specs.Prelude.{reverse}
use Rattle.bind_query.specs.Union.{plan_of}
use Rattle.bind_query.proofs.union.plans_of.Given as goal

abbrev pub invariant-each : goal.invariant-each
invariant-each l = map plan_of l.left ++ reverse l.plans ≡ map plan_of l.fn.others

abbrev pub decreases-each : goal.decreases-each
decreases-each l = length l.left

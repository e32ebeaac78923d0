use Rattle.std.proofs.Common.{◌≡◌, take}
use Rattle.pattern_lift.specs.Derived.{derived_in_ops, derived_in_plans}
use Rattle.pattern_lift.proofs.tables.+derived.Given as goal

abbrev pub invariant-derived_in_ops-loop-one : goal.invariant-derived_in_ops-loop-one
invariant-derived_in_ops-loop-one l = l.all ≡ derived_in_ops l.marks (take l.one-index l.ops)

abbrev pub invariant-derived_in_plans-loop-one : goal.invariant-derived_in_plans-loop-one
invariant-derived_in_plans-loop-one l = l.all ≡ derived_in_plans l.marks (take l.one-index l.plans)

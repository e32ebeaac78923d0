use Rattle.std.proofs.Common.{◌≡◌, length}
use Rattle.plan_rules.specs.OwnNames.{inner_name}
use Rattle.plan_terms.proofs.renames.inner_name.Given as goal

abbrev pub invariant-items : goal.invariant-items
invariant-items l = inner_name l.left l.name ≡ inner_name l.fn.items l.fn.name

abbrev pub decreases-items : goal.decreases-items
decreases-items l = length l.left

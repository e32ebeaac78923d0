use Rattle.std.proofs.Common.{◌≡◌, ◌++◌, length}
use Rattle.std.specs.Prelude.{option_map}
use Rattle.plan_terms.specs.Renames.{inner_names}
use Rattle.plan_terms.proofs.renames.inner_names.Given as goal

abbrev pub invariant-names : goal.invariant-names
invariant-names l = inner_names l.fn.items l.fn.read ≡ option_map (λ more. l.names ++ more) (inner_names l.items l.left)

abbrev pub decreases-names : goal.decreases-names
decreases-names l = length l.left

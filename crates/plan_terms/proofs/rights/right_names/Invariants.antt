use Rattle.std.proofs.Common.{◌≡◌, ◌++◌, length}
use Rattle.std.specs.Prelude.{option_map}
use Rattle.plan_terms.specs.Renames.{right_names}
use Rattle.plan_terms.proofs.rights.right_names.Given as goal

abbrev pub invariant-names : goal.invariant-names
invariant-names l = right_names l.fn.join l.fn.columns l.fn.right l.fn.read ≡ option_map (λ more. l.names ++ more) (right_names l.join l.columns l.right l.left)

abbrev pub decreases-names : goal.decreases-names
decreases-names l = length l.left

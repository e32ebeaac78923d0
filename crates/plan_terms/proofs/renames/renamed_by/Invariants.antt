use Rattle.std.proofs.Common.{◌≡◌, length}
use Rattle.plan_terms.specs.Renames.{renamed_by}
use Rattle.plan_terms.proofs.renames.renamed_by.Given as goal

abbrev pub invariant-names : goal.invariant-names
invariant-names l = renamed_by l.from_left l.to_left l.name ≡ renamed_by l.fn.from l.fn.to l.fn.name

abbrev pub decreases-names : goal.decreases-names
decreases-names l = length l.from_left

use Rattle.std.proofs.Common.{◌≡◌, length, map}
use Rattle.kql_cells.specs.Seen.{seen}
use Rattle.kql_scalar_fns.specs.Choice.{first_case}
use Rattle.kql_scalar_fns.proofs.choice.first_case.Given as goal

abbrev pub invariant-cases : goal.invariant-cases
invariant-cases l = first_case (map seen l.left) ≡ first_case (map seen l.fn.args)

abbrev pub decreases-cases : goal.decreases-cases
decreases-cases l = length l.left

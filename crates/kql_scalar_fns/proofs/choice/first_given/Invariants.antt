use Rattle.std.proofs.Common.{◌≡◌, length, map}
use Rattle.kql_cells.specs.Seen.{seen}
use Rattle.kql_scalar_fns.specs.Choice.{first_given}
use Rattle.kql_scalar_fns.proofs.choice.first_given.Given as goal

abbrev pub invariant-values : goal.invariant-values
invariant-values l = first_given (map seen l.left) ≡ first_given (map seen l.fn.args)

abbrev pub decreases-values : goal.decreases-values
decreases-values l = length l.left

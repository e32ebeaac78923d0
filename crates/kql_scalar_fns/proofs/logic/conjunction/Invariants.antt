use Rattle.std.proofs.Common.{◌≡◌, length, map}
use Rattle.std.specs.Prelude.{Some, true, fold}
use Rattle.kql_cells.specs.Seen.{seen}
use Rattle.kql_scalar_fns.specs.Logic.{both_known}
use Rattle.kql_scalar_fns.proofs.logic.conjunction.Given as goal

abbrev pub invariant-terms : goal.invariant-terms
invariant-terms l = fold both_known l.known (map seen l.left) ≡ fold both_known (Some true) (map seen l.fn.args)

abbrev pub decreases-terms : goal.decreases-terms
decreases-terms l = length l.left

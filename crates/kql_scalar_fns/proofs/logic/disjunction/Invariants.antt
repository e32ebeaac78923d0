use Rattle.std.proofs.Common.{◌≡◌, length, map}
use Rattle.std.specs.Prelude.{Some, false, fold}
use Rattle.kql_cells.specs.Seen.{seen}
use Rattle.kql_scalar_fns.specs.Logic.{either_known}
use Rattle.kql_scalar_fns.proofs.logic.disjunction.Given as goal

abbrev pub invariant-terms : goal.invariant-terms
invariant-terms l = fold either_known l.known (map seen l.left) ≡ fold either_known (Some false) (map seen l.fn.args)

abbrev pub decreases-terms : goal.decreases-terms
decreases-terms l = length l.left

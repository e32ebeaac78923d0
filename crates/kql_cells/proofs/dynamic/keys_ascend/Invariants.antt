use Rattle.std.proofs.Common.{◌≡◌, length}
use Rattle.kql_cells.specs.Dynamic.{ascends}
use Rattle.kql_cells.proofs.dynamic.keys_ascend.Given as goal

abbrev pub invariant-entries : goal.invariant-entries
invariant-entries l = ascends l.rest ≡ ascends l.fn.entries

abbrev pub decreases-entries : goal.decreases-entries
decreases-entries l = length l.rest

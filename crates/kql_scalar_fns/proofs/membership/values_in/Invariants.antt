use Rattle.std.proofs.Common.{◌≡◌, ◌++◌, length, map}
use Rattle.kql_cells.specs.Seen.{seen}
use Rattle.kql_scalar_fns.specs.Arguments.{AreWellFormed}
use Rattle.kql_scalar_fns.specs.Comparison.{values_in}
use Rattle.kql_scalar_fns.proofs.membership.values_in.Given as goal

abbrev pub invariant-operands : goal.invariant-operands
invariant-operands l = record {
  form : AreWellFormed (map seen l.left);
  values : l.values.items ++ values_in l.kind (map seen l.left) ≡ values_in l.fn.kind (map seen l.fn.operands);
}

abbrev pub decreases-operands : goal.decreases-operands
decreases-operands l = length l.left

use Rattle.std.proofs.Common.{◌≡◌, length, map}
use Rattle.kql_cells.specs.Seen.{seen}
use Rattle.kql_scalar_fns.specs.Arguments.{AreWellFormed}
use Rattle.kql_scalar_fns.specs.Comparison.{is_among}
use Rattle.kql_scalar_fns.proofs.membership.is_among.Given as goal

abbrev pub invariant-operands : goal.invariant-operands
invariant-operands l = record {
  form : AreWellFormed (map seen l.left);
  among : is_among l.fold (seen l.x) (map seen l.left) ≡ is_among l.fn.fold (seen l.fn.x) (map seen l.fn.operands);
}

abbrev pub decreases-operands : goal.decreases-operands
decreases-operands l = length l.left

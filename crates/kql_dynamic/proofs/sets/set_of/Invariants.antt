use Rattle.std.proofs.Common.{◌≡◌, take}
use Rattle.std.specs.HashSet.{contains}
use Rattle.kql_cells.specs.declared.dynamic.Dyn.{Dyn}
use Rattle.kql_cells.specs.Same.{same}
use Rattle.kql_dynamic.specs.Sets.{is_among}
use Rattle.kql_dynamic.proofs.sets.set_of.Given as goal

abbrev pub invariant-loop-part : goal.invariant-loop-part
invariant-loop-part l = (d : Dyn) → contains same l.set d ≡ is_among (take l.part-index l.parts) d

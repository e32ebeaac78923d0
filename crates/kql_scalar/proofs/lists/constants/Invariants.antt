use Rattle.std.proofs.Common.{map, take}
use Rattle.kql_cells.specs.Seen.{seen}
use Rattle.kql_scalar.specs.Lists.{AreConstants}
use Rattle.kql_scalar.proofs.lists.constants.Given as goal

abbrev pub invariant-parts : goal.invariant-parts
invariant-parts l = AreConstants (take l.part-index l.parts) l._t (map seen l.cells.items)

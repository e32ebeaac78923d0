use Rattle.std.proofs.Common.{◌≡◌, map, take}
use Rattle.kql_cells.specs.declared.dynamic.Dyn.TheVariants as V
use Rattle.kql_dynamic.proofs.bags.keys_of.Given as goal

abbrev pub invariant-loop-entry : goal.invariant-loop-entry
invariant-loop-entry l = l.keys ≡ map (λ e. V.Text e.0) (take l.entry-index l.entries)

use Rattle.std.proofs.Common.{◌≡◌, take}
use Rattle.kql_cells.proofs.dynamic.+clone_dyn.Given as goal

abbrev pub invariant-clone_bag-loop-entry : goal.invariant-clone_bag-loop-entry
invariant-clone_bag-loop-entry l = l.copies ≡ take l.entry-index l.entry-items

abbrev pub invariant-clone_list-loop-d : goal.invariant-clone_list-loop-d
invariant-clone_list-loop-d l = l.copies ≡ take l.d-index l.d-items

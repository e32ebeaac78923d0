use Rattle.std.proofs.Common.{◌≡◌, map, take}
use Rattle.bind_operators.specs.Project.{renamed_item}
use Rattle.bind_operators.proofs.project_rename.renamed_items.Given as goal

abbrev pub invariant-loop-c : goal.invariant-loop-c
invariant-loop-c l = l.items ≡ map (renamed_item l.renames) (take l.c-index l.columns)

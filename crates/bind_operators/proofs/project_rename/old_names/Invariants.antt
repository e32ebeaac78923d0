use Rattle.std.proofs.Common.{◌≡◌, map, take}
use Rattle.bind_operators.specs.Project.{old_name}
use Rattle.bind_operators.proofs.project_rename.old_names.Given as goal

abbrev pub invariant-loop-r : goal.invariant-loop-r
invariant-loop-r l = l.names ≡ map old_name (take l.r-index l.renames)

use Rattle.std.proofs.Common.{◌≡◌, take}
use Rattle.bind_operators.specs.Project.{columns_in}
use Rattle.bind_operators.proofs.project.columns_with.Given as goal

abbrev pub invariant-loop-c : goal.invariant-loop-c
invariant-loop-c l = l.kept ≡ columns_in l.names (take l.c-index l.columns)

use Rattle.std.proofs.Common.{◌≡◌, take}
use Rattle.kql_meaning.specs.Items.{without}
use Rattle.bind_operators.proofs.project.columns_without.Given as goal

abbrev pub invariant-loop-c : goal.invariant-loop-c
invariant-loop-c l = l.kept ≡ without l.names (take l.c-index l.columns)

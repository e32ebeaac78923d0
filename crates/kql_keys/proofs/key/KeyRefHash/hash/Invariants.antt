use Rattle.std.proofs.Common.{◌≡◌, take, fold, flat_map}
use Rattle.kql_cells.specs.Hashed.{cell_writes}
use Rattle.kql_keys.proofs.key.KeyRefHash.hash.Given as goal

abbrev pub invariant-loop-j : goal.invariant-loop-j
invariant-loop-j g l = l.state ≡ fold g.H.Hasher.write l.initial.state (flat_map cell_writes (take l.j l.self))

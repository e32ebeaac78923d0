use Rattle.std.proofs.Common.{◌≡◌, map, take}
use Rattle.kql_scalar.specs.Held.{held}
use Rattle.summarize_op.specs.Groups.{key_columns}
use Rattle.summarize_op.proofs.groups.key_vectors.Given as goal

-- the values of the keys so far
abbrev pub invariant-keys : goal.invariant-keys
invariant-keys l = map held l.vectors.items ≡ key_columns (take l.key-index l.keys) l.t

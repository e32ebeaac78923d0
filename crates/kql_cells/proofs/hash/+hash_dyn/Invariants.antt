use Rattle.std.proofs.Common.{◌≡◌, ◌++◌, take, fold, flat_map}
use Rattle.std.specs.Hash as fed
use Rattle.kql_cells.specs.Hashed.{writes_of}
use Rattle.kql_cells.proofs.hash.+hash_dyn.Given as goal

abbrev pub invariant-hash_parts-loop-part : goal.invariant-hash_parts-loop-part
invariant-hash_parts-loop-part g l = l.state ≡ fold g.H.Hasher.write l.initial.state (flat_map writes_of (take l.part-index l.parts))

abbrev pub invariant-hash_entries-loop-entry : goal.invariant-hash_entries-loop-entry
invariant-hash_entries-loop-entry g l = l.state ≡ fold g.H.Hasher.write l.initial.state (flat_map (λ e. fed.str e.0 ++ writes_of e.1) (take l.entry-index l.entries))

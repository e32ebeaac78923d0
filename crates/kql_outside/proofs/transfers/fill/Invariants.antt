use Rattle.std.proofs.Common.{◌≡◌, ◌-◌, ◌≤◌, vec_len, take}
use Rattle.kql_outside.specs.Calls.{NoneFailed}
use Rattle.kql_outside.specs.Told.{prepended}
use Rattle.kql_outside.proofs.transfers.fill.Given as goal

abbrev pub invariant-loop-filled : goal.invariant-loop-filled
invariant-loop-filled g l = record {
  bounded : l.filled ≤ l.limit;
  within : l.filled ≤ vec_len l.bytes;
  buffer : vec_len l.bytes ≤ l.limit;
  files : g.F.Shelf.files l.shelf ≡ g.F.Shelf.files l.initial.shelf;
  calls : NoneFailed (g.F.Shelf.calls l.initial.shelf) (g.F.Shelf.calls l.shelf);
  starts : g.F.Shelf.starts l.shelf ≡ g.F.Shelf.starts l.initial.shelf;
  later : g.F.Shelf.faults l.initial.shelf ≤ g.F.Shelf.faults l.shelf;
  so_far : g.F.Shelf.rest l.initial.shelf ≡ prepended (take l.filled l.bytes.items) (g.F.Shelf.rest l.shelf);
}

abbrev pub decreases-loop-filled : goal.decreases-loop-filled
decreases-loop-filled g l = l.limit - l.filled

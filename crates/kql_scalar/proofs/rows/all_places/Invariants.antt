use Rattle.std.proofs.Common.{◌≡◌, length}
use Rattle.kql_scalar.specs.Rows.{AreBelow, rows}
use Rattle.kql_scalar.proofs.rows.all_places.Given as goal

abbrev pub invariant-rows : goal.invariant-rows
invariant-rows l = record {
  made : l.places.items ≡ rows l.from l.i;
  within : AreBelow (length l._t.lines) l.places.items;
}

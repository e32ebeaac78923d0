use Rattle.std.proofs.Common.{◌≡◌, length, take}
use Rattle.kql_scalar.specs.Joins.{failing_all}
use Rattle.kql_scalar.specs.Rows.{AreBelow, passing_all}
use Rattle.kql_scalar.proofs.rows.+kept.Given as goal

abbrev pub invariant-kept_by_all-parts : goal.invariant-kept_by_all-parts
invariant-kept_by_all-parts l = record {
  made : l.left.items ≡ passing_all (take l.arg-index l.args) l.t l.fn.places.items;
  within : AreBelow (length l.t.lines) l.left.items;
}

abbrev pub invariant-kept_by_any-parts : goal.invariant-kept_by_any-parts
invariant-kept_by_any-parts l = record {
  made : l.left.items ≡ failing_all (take l.arg-index l.args) l.t l.places;
  within : AreBelow (length l.t.lines) l.left.items;
}

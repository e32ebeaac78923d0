use Rattle.std.proofs.Common.{◌≡◌, filter, take}
use Rattle.kql_functions.specs.declared.func.Func.TheVariants as func
use Rattle.kql_scalar.specs.Rows.{call_passes}
use Rattle.kql_scalar.proofs.lists.kept_by_keys.Given as goal

abbrev pub invariant-places : goal.invariant-places
invariant-places l = l.kept.items ≡ filter (call_passes (func.Comparison l.f) l.args l.t) (take l.place-index l.places)

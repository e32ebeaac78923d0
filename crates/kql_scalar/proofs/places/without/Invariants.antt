use Rattle.std.proofs.Common.{◌≡◌, ◌++◌, drop}
use Rattle.kql_scalar.specs.Places.{without}
use Rattle.kql_scalar.proofs.places.without.Given as goal

abbrev pub invariant-places : goal.invariant-places
invariant-places l = without l.places l.taken ≡ l.left.items ++ without (drop l.place-index l.places) l.rest

use Rattle.std.proofs.Common.{◌≡◌, filter, take}
use Rattle.std.specs.Prelude.{Some}
use Rattle.kql_values.specs.Numbers.{values_of_numbers}
use Rattle.kql_values.specs.Stores.{number_value}
use Rattle.kql_scalar.specs.Stores.{value_compares}
use Rattle.kql_scalar.proofs.stores.kept_by_number.Given as goal

abbrev pub invariant-places : goal.invariant-places
invariant-places l = l.kept.items ≡ filter (value_compares l.f (values_of_numbers l.numbers) (number_value l.numbers.kind (Some l.n))) (take l.place-index l.places)

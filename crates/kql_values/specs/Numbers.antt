-- The values that lent numbers are.
use Rattle.std.specs.Prelude.{List, map}
use Rattle.kql_values.specs.declared.store.Numbers.{Numbers}
use Rattle.kql_cells.specs.declared.value.Value.{Value}
use Rattle.kql_values.specs.Nullable.{nullable}
use Rattle.kql_values.specs.Stores.{number_value}

abbrev pub values_of_numbers : Numbers → List Value
values_of_numbers n = map (number_value n.kind) (nullable n.numbers.now n.nulls.now)

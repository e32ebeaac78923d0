-- What a column that is lent holds.
use Rattle.std.specs.Prelude.{◌≡◌, List, ⊤, length, map}
use Rattle.csv_io.specs.declared.lent.Stored.{Stored}
use Rattle.csv_io.specs.declared.lent.Stored.TheVariants as stored
use Rattle.kql_cells.specs.declared.value.Value.{Value}
use Rattle.kql_values.specs.Numbers.{values_of_numbers}
use Rattle.kql_values.specs.Stores.{text_value}

-- its values
abbrev pub held : Stored → List Value
held (stored.Numbers n) = values_of_numbers n
held (stored.Texts t) = map text_value t.now
held (stored.Cells v) = v.now

-- the mask of numbers tells of each
abbrev pub IsWhole : Stored → Type 0
IsWhole (stored.Numbers n) = length n.nulls.now ≡ length n.numbers.now
IsWhole (stored.Texts t) = ⊤
IsWhole (stored.Cells v) = ⊤

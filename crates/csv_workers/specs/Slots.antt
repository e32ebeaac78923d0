-- Columns in parts that threads put together.
use Rattle.std.specs.Prelude.{◌≡◌, true, List, map}
use Rattle.csv_workers.specs.declared.joining.Slot.{Slot}
use Rattle.kql_cells.specs.declared.value.Value.{Value}

abbrev pub IsWhole : Slot → Type 0
IsWhole s = s.is_whole ≡ true

-- where none of its parts was lost, a column has the cells that it had
abbrev pub KeepsParts : Slot → Slot → Type 0
KeepsParts old new = new.is_whole ≡ true → new.parts ≡ old.parts

abbrev pub parts_of : List Slot → List (List Value)
parts_of slots = map (λ (s : Slot). s.parts) slots

-- How a field reads as a cell.
use Rattle.std.specs.Prelude.{ℕ, List, [], ◌∷◌, pos, Option, Some, option_map}
use Rattle.csv_io.specs.Blanks.{bare}
use Rattle.kql_dynamic.specs.Json.{parsed}
use Rattle.kql_ticks.specs.Forms.{moment_in, span_in}
use Rattle.kql_cells.specs.Keys.{absent}
use Rattle.kql_cells.specs.Readings.{bool_written, long_written}
use Rattle.kql_cells.specs.Values.{IsOfKind, IsWellFormed}
use Rattle.kql_cells.specs.declared.value.Kind.{Kind}
use Rattle.kql_cells.specs.declared.value.Kind.TheVariants as kind
use Rattle.kql_cells.specs.declared.value.Value.{Value}
use Rattle.kql_cells.specs.declared.value.Value.TheVariants as value

-- the value of a field that is not empty, or none where it is of another form: a string is the field itself, and every
-- field is the text of a dynamic value
abbrev pub read_filled : Kind → List ℕ → Option Value
read_filled kind.Text field = Some (value.Text field)
read_filled kind.Bool field = option_map value.Bool (bool_written field)
read_filled kind.Long field = option_map value.Long (long_written field)
read_filled kind.Moment field = option_map value.Moment (option_map pos (moment_in field))
read_filled kind.Span field = option_map value.Span (span_in field)
read_filled kind.Dynamic field = Some (parsed field)

-- the value of a field without the blanks round it: an empty one is null, and the empty string in a column of strings
abbrev pub read_bare : Kind → List ℕ → Option Value
read_bare k [] = Some (absent k)
read_bare k (b ∷ bs) = read_filled k (b ∷ bs)

-- the value of a field in a column of this type, or none where it is of another form
abbrev pub read_cell : Kind → List ℕ → Option Value
read_cell k field = read_bare k (bare k field)

-- a value of a type, or null, that is well formed
abbrev pub FitsKind : Kind → Value → Type 0
FitsKind k v = IsOfKind k v × IsWellFormed v

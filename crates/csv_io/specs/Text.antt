-- The text of a table.
use Rattle.std.specs.Prelude.{ℕ, true, false, List, [], ◌++◌, map, flat_map, codes, slice_range, unsigned_abs}
use Rattle.std.specs.Fmt.{signed_decimal}
use Rattle.csv.specs.Writing.{default_writer, row_text}
use Rattle.kql_dynamic.specs.Printed.{printed}
use Rattle.kql_ticks.specs.Texts.{moment_text, span_text}
use Rattle.kql_cells.specs.Table.{Grid}
use Rattle.kql_cells.specs.declared.schema.Column.{Column}
use Rattle.kql_cells.specs.declared.value.Value.{Value}
use Rattle.kql_cells.specs.declared.value.Value.TheVariants as value

-- the text of a cell
abbrev pub cell_text : Value → List ℕ
cell_text value.Null = []
cell_text (value.Bool true) = codes "true"
cell_text (value.Bool false) = codes "false"
cell_text (value.Long n) = signed_decimal n
cell_text (value.Text t) = t
cell_text (value.Moment x) = moment_text (unsigned_abs x)
cell_text (value.Span x) = span_text x
cell_text (value.Dynamic d) = printed d

abbrev pub line_text : List Value → List ℕ
line_text row = row_text default_writer (map cell_text row)

abbrev pub names_of : List Column → List (List ℕ)
names_of columns = map (λ c. c.name) columns

-- a line of names, and then a line for each row
abbrev pub table_text : Grid → List ℕ
table_text g = row_text default_writer (names_of g.columns) ++ flat_map line_text g.lines

-- a line for each of the rows from a place up to another
abbrev pub lines_text : Grid → ℕ → ℕ → List ℕ
lines_text g from to = flat_map line_text (slice_range g.lines from to)

-- The table of a file, or the first fault in it.
use Rattle.std.specs.Prelude.{ℕ, ◌+◌, ◌==◌, List, [], ◌∷◌, ◌++◌, length, map, is_some, unwrap_or, Result, if◌then◌else◌}
use Rattle.std.specs.Str.{is_utf8}
use Rattle.std.specs.Str.Lossy.{utf8_valid_len}
use Rattle.csv.specs.Reading.{default_config, records, strip_bom}
use Rattle.csv_io.specs.Cells.{read_cell}
use Rattle.csv_io.specs.Faults.{Fault, bad_cell, bad_length, fault_at, no_header, not_utf8, unless}
use Rattle.csv_io.specs.Header.{column_of, header_faults}
use Rattle.kql_cells.specs.Table.{Grid}
use Rattle.kql_cells.specs.declared.schema.Column.{Column}
use Rattle.kql_cells.specs.declared.value.Kind.{Kind}
use Rattle.kql_cells.specs.declared.value.Value.{Value}
use Rattle.kql_cells.specs.declared.value.Value.TheVariants as value

-- the value of a field, or null where it does not read
unfoldable pub cell_of : Kind → List ℕ → Value
cell_of kind field = unwrap_or (read_cell kind field) value.Null

-- a fault where it does not read
unfoldable pub cell_faults : Kind → ℕ → ℕ → List ℕ → List Fault
cell_faults kind row column field = if is_some (read_cell kind field) then [] else fault_at bad_cell row column ∷ []

-- the cells of a row, each field read by the type of its column
abbrev pub cells_of : List Column → List (List ℕ) → List Value
cells_of [] fields = []
cells_of (c ∷ cs) [] = []
cells_of (c ∷ cs) (f ∷ fs) = cell_of c.kind f ∷ cells_of cs fs

-- the faults of the cells, from this column on
abbrev pub cells_faults : ℕ → ℕ → List Column → List (List ℕ) → List Fault
cells_faults row at [] fields = []
cells_faults row at (c ∷ cs) [] = []
cells_faults row at (c ∷ cs) (f ∷ fs) = cell_faults c.kind row at f ++ cells_faults row (at + 1) cs fs

-- the faults of a row: another number of fields, or fields that do not read
unfoldable pub row_faults : List Column → ℕ → List (List ℕ) → List Fault
row_faults columns row fields =
    if length fields == length columns then cells_faults row 1 columns fields else fault_at bad_length row (length fields) ∷ []

-- the faults of the rows, from this row on
abbrev pub rows_faults : List Column → ℕ → List (List (List ℕ)) → List Fault
rows_faults columns row [] = []
rows_faults columns row (fields ∷ rest) = row_faults columns row fields ++ rows_faults columns (row + 1) rest

-- a row for each record
abbrev pub rows_grid : List Column → List (List (List ℕ)) → Grid
rows_grid columns rows = record { columns = columns; lines = map (cells_of columns) rows }

-- the table of the records, the first of which is the header
abbrev pub grid_of : List (List (List ℕ)) → Grid
grid_of [] = rows_grid [] []
grid_of (header ∷ rows) = rows_grid (map column_of header) rows

-- all faults of the records, in order
abbrev pub faults_of : List (List (List ℕ)) → List Fault
faults_of [] = fault_at no_header 0 0 ∷ []
faults_of (header ∷ rows) = header_faults [] header ++ rows_faults (map column_of header) 1 rows

-- the records of a file: those that `csv` gives for its bytes without one byte order mark at their start
abbrev pub file_records : List ℕ → List (List (List ℕ))
file_records bytes = records default_config (strip_bom bytes)

-- all faults of a file, of which the first is that it is no text, at the end of the longest text that it begins with
abbrev pub file_faults : List ℕ → List Fault
file_faults bytes = if is_utf8 bytes then faults_of (file_records bytes) else fault_at not_utf8 0 (utf8_valid_len bytes) ∷ []

-- the table of a file, or its first fault
unfoldable pub loaded : List ℕ → Result Grid Fault
loaded bytes = unless (file_faults bytes) (grid_of (file_records bytes))

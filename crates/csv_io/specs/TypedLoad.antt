-- The table of a file whose columns are known, or the first fault in it.
use Rattle.std.specs.Prelude.{ℕ, ◌+◌, ◌||◌, Bool, List, [], ◌∷◌, ◌++◌, Result, if◌then◌else◌}
use Rattle.std.specs.Str.{bytes_eq, is_utf8}
use Rattle.std.specs.Str.Lossy.{utf8_valid_len}
use Rattle.csv_io.specs.Faults.{Fault, fault_at, no_header, not_utf8, unless}
use Rattle.csv_io.specs.Load.{file_records, rows_faults, rows_grid}
use Rattle.csv_io.specs.Reload.{typed_name}
use Rattle.kql_cells.specs.Table.{Grid}
use Rattle.kql_cells.specs.declared.schema.Column.{Column}

-- the code of a header of other columns
abbrev pub header_differs : ℕ
header_differs = 312

-- a field of a header heads a column: it is its name, or its name, a colon and its type
abbrev pub heads : Column → List ℕ → Bool
heads c field = bytes_eq field c.name || bytes_eq field (typed_name c)

-- the first column, from this one on, in which the fields and these columns differ; one too few and one too many among them
unfoldable pub differences : ℕ → List Column → List (List ℕ) → List Fault
differences at [] [] = []
differences at [] (f ∷ fs) = fault_at header_differs 0 at ∷ []
differences at (c ∷ cs) [] = fault_at header_differs 0 at ∷ []
differences at (c ∷ cs) (f ∷ fs) = if heads c f then differences (at + 1) cs fs else fault_at header_differs 0 at ∷ []

-- the table of the records behind the header
abbrev pub typed_grid_of : List Column → List (List (List ℕ)) → Grid
typed_grid_of columns [] = rows_grid columns []
typed_grid_of columns (header ∷ rows) = rows_grid columns rows

-- all faults of the records, in order
abbrev pub typed_faults_of : List Column → List (List (List ℕ)) → List Fault
typed_faults_of columns [] = fault_at no_header 0 0 ∷ []
typed_faults_of columns (header ∷ rows) = differences 1 columns header ++ rows_faults columns 1 rows

-- all faults of a file
abbrev pub typed_file_faults : List Column → List ℕ → List Fault
typed_file_faults columns bytes = if is_utf8 bytes then typed_faults_of columns (file_records bytes) else fault_at not_utf8 0 (utf8_valid_len bytes) ∷ []

-- the table of a file of these columns, or its first fault
unfoldable pub loaded_typed : List Column → List ℕ → Result Grid Fault
loaded_typed columns bytes = unless (typed_file_faults columns bytes) (typed_grid_of columns (file_records bytes))

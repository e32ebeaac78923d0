-- Tables that are read in parts, and what of a text each of them is.
use Rattle.std.specs.Prelude.{◌≡◌, ℕ, ◌≤◌, ◌++◌, ◌∷◌, List, [], Result, length, map}
use Rattle.csv.specs.Records.{AllText}
use Rattle.csv_io.specs.Cuts.{records_at}
use Rattle.csv_io.specs.Faults.{Fault, unless}
use Rattle.csv_io.specs.Load.{cells_of, file_records, rows_faults, rows_grid}
use Rattle.csv_io.specs.TextRecords.{AllRecordsText}
use Rattle.kql_cells.specs.Table.{Grid}
use Rattle.kql_cells.specs.declared.schema.Column.{Column}
use Rattle.kql_cells.specs.declared.value.Value.{Value}

-- a text, and the columns of its rows
pub record Headed : Type 0 where
  pub text : List ℕ
  pub columns : List Column

-- the records behind the first
abbrev pub behind_first : List (List (List ℕ)) → List (List (List ℕ))
behind_first [] = []
behind_first (header ∷ rows) = rows

-- the table of the rows of a text under these columns, or the first fault of them
unfoldable pub loaded_rows : List Column → List ℕ → Result Grid Fault
loaded_rows columns text = unless (rows_faults columns 1 (behind_first (file_records text))) (rows_grid columns (behind_first (file_records text)))

-- the records of a text from a place up to another are rows without a fault, of which these are the cells: the records
-- from the first place on are these rows, and then the records from the second place on
pub record IsPart (columns : List Column) (text : List ℕ) (from end : ℕ) (lines : List (List Value)) : Type 0 where
  pub rows : List (List (List ℕ))
  pub within : end ≤ length text
  pub stands : records_at text from ≡ rows ++ records_at text end
  pub sound : rows_faults columns 1 rows ≡ []
  pub cells : lines ≡ map (cells_of columns) rows

-- a place of a text from which on each field is text
abbrev pub IsStart : List ℕ → ℕ → Type 0
IsStart text at = (at ≤ length text) × AllRecordsText (records_at text at)

-- the first record of a text has these fields, each of which is text, and the others come from a place on
pub record IsFirst (text : List ℕ) (fields : List (List ℕ)) (end : ℕ) : Type 0 where
  pub stands : file_records text ≡ fields ∷ records_at text end
  pub texts : AllText fields
  pub start : IsStart text end

-- the records behind the first are those from a place on
abbrev pub IsHead : List ℕ → ℕ → Type 0
IsHead text end = (behind_first (file_records text) ≡ records_at text end) × IsStart text end

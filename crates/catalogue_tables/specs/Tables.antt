-- The tables of a catalogue file.
use Rattle.std.specs.Prelude.{◌≡◌, ℕ, ◌+◌, ◌-◌, List, [], ◌∷◌, ◌++◌, length, Result, Ok, Err}
use Rattle.catalogue_file.specs.declared.entry.Entry.{Entry}
use Rattle.csv_io.specs.Faults.{Fault}
use Rattle.csv_io.specs.TypedLoad.{loaded_typed}
use Rattle.kql_cells.specs.Catalogues.{Named}
use Rattle.kql_cells.specs.Table.{Grid}
use Rattle.kql_cells.specs.declared.schema.Column.{Column}
use Rattle.kql_cells.specs.declared.value.Value.{Value}
use Rattle.kql_words.specs.Refusals.{Answer, ◌>>=◌}
use Rattle.kql_words.specs.declared.refusal.Refusal.TheVariants.{Data}
use Rattle.catalogue_tables.specs.Computes.{Computes}
use Rattle.catalogue_tables.specs.Entries.{entries_checked, entries_read}
use Rattle.catalogue_tables.specs.Files.{Files, file_within}
use Rattle.catalogue_tables.specs.declared.stop.CatalogueStop.{CatalogueStop}

abbrev pub loaded_as : ℕ → Result Grid Fault → Answer Grid
loaded_as number (Ok grid) = Ok grid
loaded_as number (Err fault) = Err (Data number fault.code fault.row fault.column)

-- a table, and how many bytes the table files behind it may have
abbrev pub Part : Type 0
Part = Grid × ℕ

abbrev pub part : ℕ → Grid → Answer Part
part left grid = Ok (grid, left)

-- the rows of a file of these columns, where the table files may have so many bytes more
unfoldable pub file_rows : Files → ℕ → ℕ → List Column → List ℕ → Answer Part
file_rows files number room columns path =
    file_within files number 308 room path >>= λ bytes.
    loaded_as number (loaded_typed columns bytes) >>= part (room - length bytes)

abbrev pub no_rows : List Column → Grid
no_rows columns = record { columns = columns; lines = [] }

-- a table with more rows
abbrev pub with_rows : Grid → Grid → Grid
with_rows grid more = record { columns = grid.columns; lines = grid.lines ++ more.lines }

-- a table with the rows of these files, one file's after another; the first of them has this number
unfoldable pub files_rows : Files → ℕ → ℕ → Grid → List (List ℕ) → Answer Part
files_rows files number room grid [] = Ok (grid, room)
files_rows files number room grid (path ∷ paths) =
    file_rows files number room grid.columns path >>= λ read. files_rows files (number + 1) read.1 (with_rows grid read.0) paths

-- the table of an entry, in front of whose files there are so many table files and the catalogue file
abbrev pub entry_part : Files → ℕ → ℕ → Entry → Answer Part
entry_part files count room e = files_rows files (count + 2) room (no_rows e.schema) e.files

abbrev pub named_as : List ℕ → Grid → Named
named_as name grid = record { name = name; table = grid }

-- a table in front of others
abbrev pub with_first : Named → Answer (List Named) → Answer (List Named)
with_first table rest = rest >>= λ tables. Ok (table ∷ tables)

-- these tables, and then others
abbrev pub after : List Named → Answer (List Named) → Answer (List Named)
after tables rest = rest >>= λ more. Ok (tables ++ more)

-- the tables of the entries from this one on
unfoldable pub entries_tables : Files → ℕ → ℕ → List Entry → Answer (List Named)
entries_tables files count room [] = Ok []
entries_tables files count room (e ∷ es) =
    entry_part files count room e >>= λ read. with_first (named_as e.name read.0) (entries_tables files (count + length e.files) read.1 es)

-- The tables of the catalogue file of a path, behind tables with these names, each of one file, where the table files may have so many bytes more.
unfoldable pub catalogue_tables : Files → List (List ℕ) → ℕ → List ℕ → Answer (List Named)
catalogue_tables files names room path =
    entries_read files (length names + 1) path >>= λ entries.
    entries_checked (length names + 1) 1 names (length names) entries >>= λ _.
    entries_tables files (length names) room entries

-- a call added the rows of a file to a table
abbrev pub AddsRows : Files → ℕ → ℕ → List ℕ → Grid → Grid → Result ℕ CatalogueStop → Type 0
AddsRows files number room path before now (Ok left) =
    (more : Grid) × (file_rows files number room before.columns path ≡ Ok (more, left)) × (now ≡ with_rows before more)
AddsRows files number room path before now (Err s) = Computes (file_rows files number room before.columns path) (Err s)

-- and the table of an entry to the others
abbrev pub AddsEntry : Files → ℕ → ℕ → Entry → List Named → List Named → Result ℕ CatalogueStop → Type 0
AddsEntry files count room e before now (Ok left) =
    (grid : Grid) × (entry_part files count room e ≡ Ok (grid, left)) × (now ≡ before ++ named_as e.name grid ∷ [])
AddsEntry files count room e before now (Err s) = Computes (entry_part files count room e) (Err s)

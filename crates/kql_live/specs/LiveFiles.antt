-- The files of a live command's paths: that of the opening table, and then the batches in their order.
use Rattle.std.specs.Prelude.{◌≡◌, ℕ, ◌+◌, ◌-◌, List, [], ◌∷◌, length, Option, Some, None, Result, Ok, Err}
use Rattle.catalogue_tables.specs.Files.{Files, file_bytes}
use Rattle.kql_cells.specs.Table.{Grid}
use Rattle.kql_cells.specs.declared.schema.Column.{Column}
use Rattle.kql_program.specs.Files.{table_in}
use Rattle.kql_program.specs.Refusals.{Computes, with_first}
use Rattle.kql_program.specs.declared.refusal.Stop.{Stop}
use Rattle.kql_words.specs.Command.{path_in}
use Rattle.kql_words.specs.Options.{limit_ungiven}
use Rattle.kql_words.specs.Refusals.{Answer, ◌>>=◌}
use Rattle.kql_words.specs.declared.refusal.Refusal.TheVariants.{Data}
use Rattle.live_tables.specs.Columns.{difference_from}
use Rattle.kql_live.specs.declared.bound.LiveTables.{LiveTables}

-- a table, or 315 at the place of a column, counted from 1, in the header
abbrev pub unless_differs : ℕ → Option ℕ → Grid → Answer Grid
unless_differs number None grid = Ok grid
unless_differs number (Some place) grid = Err (Data number 315 0 (place + 1))

-- a table of these columns; else 315 at the first that differs
unfoldable pub alike : ℕ → List Column → Grid → Answer Grid
alike number columns grid = unless_differs number (difference_from 0 columns grid.columns) grid

-- the batch in a file's bytes, where the files may have so many bytes more
abbrev pub batch_in : List Column → ℕ → ℕ → List ℕ → Answer Grid
batch_in columns number room bytes = table_in number room bytes >>= alike number columns

-- the batches of the paths from this number on, where their files may have so many bytes together
unfoldable pub live_batches : Files → List Column → ℕ → ℕ → List (List ℕ) → Answer (List Grid)
live_batches files columns number room [] = Ok []
live_batches files columns number room (path ∷ paths) =
    file_bytes number files path >>= λ bytes.
    batch_in columns number room bytes >>= λ batch.
    with_first batch (live_batches files columns (number + 1) (room - length bytes) paths)

abbrev pub tables_with : Grid → Answer (List Grid) → Answer LiveTables
tables_with opening batches = batches >>= λ bs. Ok (record { opening = opening; batches = bs })

-- the opening table of a path, and the batches of the further paths; their files may have so many bytes together
unfoldable pub live_tables : Files → ℕ → List ℕ → List (List ℕ) → Answer LiveTables
live_tables files limit path paths =
    file_bytes 1 files path >>= λ bytes.
    table_in 1 limit bytes >>= λ opening.
    tables_with opening (live_batches files opening.columns 2 (limit - length bytes) paths)

-- of the words behind QUERY, the first, which names the opening table, and the further paths
abbrev pub first_word : List (List ℕ) → List ℕ
first_word [] = []
first_word (word ∷ words) = word

abbrev pub further_paths : List (List ℕ) → List (List ℕ)
further_paths [] = []
further_paths (word ∷ words) = words

-- the tables of these words
abbrev pub tables_of : Files → List (List ℕ) → Answer LiveTables
tables_of files words = live_tables files limit_ungiven (path_in (first_word words)) (further_paths words)

-- a call gave the batch of a file, and how many bytes the files behind it may have
abbrev pub ReadsBatch : Files → List Column → ℕ → ℕ → List ℕ → Result (Grid × ℕ) Stop → Type 0
ReadsBatch files columns number room path (Ok read) =
    (bytes : List ℕ) × (file_bytes number files path ≡ Ok bytes) × (batch_in columns number room bytes ≡ Ok read.0) × (read.1 ≡ room - length bytes)
ReadsBatch files columns number room path (Err stop) = Computes (file_bytes number files path >>= batch_in columns number room) (Err stop)

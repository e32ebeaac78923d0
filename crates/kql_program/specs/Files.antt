-- The files of the command: the query file, the table files in the order of the words, and then the catalogue file with its own.
use Rattle.std.specs.Prelude.{◌≡◌, ℕ, ◌+◌, ◌-◌, nat_le, List, [], ◌∷◌, ◌++◌, length, map, take, Option, Some, None, Result, Ok, Err, if◌then◌else◌}
use Rattle.catalogue_tables.specs.Files.{Files, file_bytes}
use Rattle.catalogue_tables.specs.Tables.{catalogue_tables}
use Rattle.csv_io.specs.Faults.{Fault}
use Rattle.csv_io.specs.Load.{loaded}
use Rattle.kql_lexer.specs.Lexing as lexing
use Rattle.kql_lexer.specs.Lexing.{lexed}
use Rattle.kql_lexer.specs.declared.token.Token.{Token}
use Rattle.kql_cells.specs.Table.{Grid}
use Rattle.kql_cells.specs.Catalogues.{Named}
use Rattle.kql_words.specs.Command.{name_in, path_in}
use Rattle.kql_words.specs.declared.refusal.Refusal.TheVariants.{Data, Query}
use Rattle.kql_program.specs.declared.refusal.Stop.{Stop}
use Rattle.kql_program.specs.Refusals.{Computes, with_first}
use Rattle.kql_words.specs.Refusals.{Answer, ◌>>=◌}

abbrev pub lexed_as : Result (List Token) lexing.Fault → Answer (List Token)
lexed_as (Ok tokens) = Ok tokens
lexed_as (Err fault) = Err (Query fault.code fault.place)

-- the tokens of the query file, or the lexer's refusal
unfoldable pub query_tokens : List ℕ → Answer (List Token)
query_tokens bytes = lexed_as (lexed bytes)

-- the tokens of the query file of this path
unfoldable pub file_tokens : Files → List ℕ → Answer (List Token)
file_tokens files path = do
  bytes ← file_bytes 0 files path
  query_tokens bytes

abbrev pub loaded_as : ℕ → Result Grid Fault → Answer Grid
loaded_as number (Ok grid) = Ok grid
loaded_as number (Err fault) = Err (Data number fault.code fault.row fault.column)

-- the table in a file's bytes, where the table files may have so many bytes more; a file with more than these is 308
unfoldable pub table_in : ℕ → ℕ → List ℕ → Answer Grid
table_in number room bytes = if nat_le (length bytes) room then loaded_as number (loaded bytes) else Err (Data number 308 0 0)

abbrev pub named_as : List ℕ → Grid → Named
named_as name grid = record { name = name; table = grid }

-- the table of a file, where the table files may have so many bytes more
abbrev pub table_of : Files → ℕ → ℕ → List ℕ → Answer Grid
table_of files number room path = file_bytes number files path >>= table_in number room

-- what follows the tables of the words, where the table files may have so many bytes more: the tables of the catalogue file, where one is given
abbrev pub tables_behind : Files → List (List ℕ) → Option (List ℕ) → ℕ → Answer (List Named)
tables_behind files names None room = Ok []
tables_behind files names (Some path) room = catalogue_tables files names room path

-- the tables of the words from this file on, and what follows them; the table files may have so many bytes together
unfoldable pub tables_from : Files → (ℕ → Answer (List Named)) → ℕ → ℕ → List (List ℕ) → Answer (List Named)
tables_from files behind number room [] = behind room
tables_from files behind number room (word ∷ words) =
    file_bytes number files (path_in word) >>= λ bytes.
    table_in number room bytes >>= λ grid.
    with_first (named_as (name_in word) grid) (tables_from files behind (number + 1) (room - length bytes) words)

-- the tables of the words and of a catalogue file, whose files may have so many bytes together
abbrev pub tables_of : Files → ℕ → Option (List ℕ) → List (List ℕ) → Answer (List Named)
tables_of files limit catalogue words = tables_from files (tables_behind files (map name_in words) catalogue) 1 limit words

-- a call gave a front of so many bytes of what the answer is
abbrev pub ReadsFront : ℕ → Answer (List ℕ) → Result (List ℕ) Stop → Type 0
ReadsFront limit answer (Ok bytes) = (all : List ℕ) × (answer ≡ Ok all) × (bytes ≡ take limit all)
ReadsFront limit answer (Err stop) = Computes answer (Err stop)

-- a call gave the table of a file, and how many bytes the table files behind it may have
abbrev pub ReadsTable : Files → ℕ → ℕ → List ℕ → Result (Grid × ℕ) Stop → Type 0
ReadsTable files number room path (Ok read) =
    (bytes : List ℕ) × (file_bytes number files path ≡ Ok bytes) × (table_in number room bytes ≡ Ok read.0) × (read.1 ≡ room - length bytes)
ReadsTable files number room path (Err stop) = Computes (table_of files number room path) (Err stop)

-- a call added the table of a word to the others
abbrev pub AddsTable : Files → ℕ → ℕ → List ℕ → List Named → List Named → Result ℕ Stop → Type 0
AddsTable files number room word before now (Ok left) =
    (bytes : List ℕ) × (grid : Grid) × (file_bytes number files (path_in word) ≡ Ok bytes) × (table_in number room bytes ≡ Ok grid)
    × (left ≡ room - length bytes) × (now ≡ before ++ named_as (name_in word) grid ∷ [])
AddsTable files number room word before now (Err stop) = Computes (table_of files number room (path_in word)) (Err stop)

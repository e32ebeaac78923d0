-- The entries of a catalogue file, behind tables with these names, each of one file.
use Rattle.std.specs.Prelude.{◌≡◌, ℕ, ◌+◌, ◌&&◌, ◌||◌, not, nat_le, nat_lt, Bool, List, [], ◌∷◌, ◌++◌, length, Option, Some, None, Result, Ok, Err, ⊤, if◌then◌else◌}
use Rattle.std.specs.List.{list_any}
use Rattle.std.specs.Str.{bytes_eq}
use Rattle.catalogue_file.specs.Catalogue.{Fault, catalogue_of}
use Rattle.catalogue_file.specs.declared.entry.Entry.{Entry}
use Rattle.kql_lexer.specs.Words.{is_reserved, is_word}
use Rattle.kql_words.specs.Command.{tables_top}
use Rattle.kql_words.specs.Refusals.{Answer, ◌>>=◌}
use Rattle.kql_words.specs.declared.refusal.Refusal.TheVariants.{Data}
use Rattle.catalogue_tables.specs.Files.{Files, file_within}

-- how many bytes a catalogue file may have
abbrev pub bytes_top : ℕ
bytes_top = 1048576

-- how many table files a command may have
abbrev pub files_top : ℕ
files_top = 256

abbrev pub read_as : ℕ → Result (List Entry) Fault → Answer (List Entry)
read_as number (Ok entries) = Ok entries
read_as number (Err fault) = Err (Data number fault.code fault.row fault.column)

-- the entries of a catalogue file; 314 is one that is too long
unfoldable pub entries_read : Files → ℕ → List ℕ → Answer (List Entry)
entries_read files number path = file_within files number 314 bytes_top path >>= λ bytes. read_as number (catalogue_of bytes)

-- one of these is the name
abbrev pub has_name : List (List ℕ) → List ℕ → Bool
has_name names name = list_any (λ other. bytes_eq other name) names

-- what a query can call a table: a word that is not reserved
abbrev pub is_table_name : List ℕ → Bool
is_table_name name = is_word name && not (is_reserved name)

-- the code of an entry's fault behind tables with these names and so many files: its name is none that a table can have, or another table's; or there
-- is one table or one file too many
unfoldable pub entry_code : List (List ℕ) → ℕ → Entry → Option ℕ
entry_code names count e =
    if not (is_table_name e.name) then Some 311
    else if has_name names e.name then Some 311
    else if nat_le tables_top (length names) then Some 313
    else if nat_lt files_top (count + length e.files) then Some 313
    else None

abbrev pub coded : ℕ → ℕ → Option ℕ → Answer (Unit {0})
coded number at None = Ok tt
coded number at (Some code) = Err (Data number code at 0)

-- the first fault of the entries from this one on
unfoldable pub entries_checked : ℕ → ℕ → List (List ℕ) → ℕ → List Entry → Answer (Unit {0})
entries_checked number at names count [] = Ok tt
entries_checked number at names count (e ∷ es) =
    coded number at (entry_code names count e) >>= λ _. entries_checked number (at + 1) (names ++ e.name ∷ []) (count + length e.files) es

-- the entries of the catalogue file of a path behind tables with these names, where the file and the entries are without a fault
abbrev pub entries_taken : Files → List (List ℕ) → List ℕ → Answer (Unit {0})
entries_taken files names path =
    entries_read files (length names + 1) path >>= λ entries. entries_checked (length names + 1) 1 names (length names) entries

-- they have none
unfoldable pub AreClean : List (List ℕ) → ℕ → List Entry → Type 0
AreClean names count [] = ⊤
AreClean names count (e ∷ es) = (entry_code names count e ≡ None) × AreClean (names ++ e.name ∷ []) (count + length e.files) es

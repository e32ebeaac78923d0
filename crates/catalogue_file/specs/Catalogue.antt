-- What a catalogue file says: `{"version": 2, "tables": [..]}`, or the first fault in it.
use Rattle.std.specs.Prelude.{◌≡◌, ℕ, ◌+◌, ◌==◌, ◌&&◌, Bool, false, List, [], ◌∷◌, ◌++◌, length, drop, codes, Option, Some, None, option_and_then, option_map, unwrap_or, if◌then◌else◌, Result, Ok, Err, ⊤}
use Rattle.std.specs.Str.{is_utf8}
use Rattle.std.specs.Str.Lossy.{utf8_valid_len}
use Rattle.serde_json.specs.Data.{Data, Items, no_items, item}
use Rattle.serde_json.specs.Find.{as_number, as_u64, get}
use Rattle.serde_json.specs.Read.{read as read_text}
use Rattle.catalogue_file.specs.Entries.{entry_of}
use Rattle.catalogue_file.specs.Json.{has_keys, list_at}
use Rattle.catalogue_file.specs.declared.entry.Entry.{Entry}
use Rattle.catalogue_file.specs.declared.fault.CatalogueFault.{CatalogueFault}
use Rattle.catalogue_file.specs.declared.fault.CatalogueFault.TheVariants.{Refused, OutOfMemory}

-- What a file is refused for: a code, the number of a table, or 0 for the whole, and a column.
pub record Fault : Type 0 where
  pub code : ℕ
  pub row : ℕ
  pub column : ℕ

abbrev pub fault_at : ℕ → ℕ → ℕ → Fault
fault_at code row column = record { code = code; row = row; column = column }

-- a text begins with a byte order mark
abbrev pub has_mark : List ℕ → Bool
has_mark [] = false
has_mark (a ∷ []) = false
has_mark (a ∷ b ∷ []) = false
has_mark (a ∷ b ∷ c ∷ rest) = (a == 239) && (b == 187) && (c == 191)

-- a text without one byte order mark at its start
unfoldable pub without_mark : List ℕ → List ℕ
without_mark text = if has_mark text then drop 3 text else text

-- the version is the whole number 2
abbrev pub is_version : Data → Bool
is_version d = unwrap_or (option_map (λ n. n == 2) (option_and_then as_u64 (as_number d))) false

abbrev pub has_version : Data → Bool
has_version d = unwrap_or (option_map is_version (get (codes "version") d)) false

abbrev pub is_catalogue : Data → Bool
is_catalogue d = has_keys 2 d && has_version d

-- the tables of a catalogue of this version
unfoldable pub tables_of : Data → Option Items
tables_of d = if is_catalogue d then list_at (codes "tables") d else None

-- a table behind others, or the refusal of its number
abbrev pub entry_at : ℕ → Option Entry → Result Entry Fault
entry_at number None = Err (fault_at 310 number 0)
entry_at number (Some entry) = Ok entry

infixl 10 ◌>>=◌
-- what follows where there is no fault so far
abbrev pub ◌>>=◌ : {X Y : Type 0} → Result X Fault → (X → Result Y Fault) → Result Y Fault
Ok x >>= f = f x
Err fault >>= f = Err fault

-- the tables before these, and these
unfoldable pub entries_behind : List Entry → Items → Result (List Entry) Fault
entries_behind before no_items = Ok before
entries_behind before (item d ds) = entry_at (length before + 1) (entry_of d) >>= λ e. entries_behind (before ++ e ∷ []) ds

-- the tables of JSON
abbrev pub data_tables : Option Items → Result (List Entry) Fault
data_tables None = Err (fault_at 310 0 0)
data_tables (Some tables) = entries_behind [] tables

abbrev pub json_tables : Option Data → Result (List Entry) Fault
json_tables None = Err (fault_at 309 0 0)
json_tables (Some d) = data_tables (tables_of d)

-- the tables of a text
unfoldable pub text_tables : List ℕ → Result (List Entry) Fault
text_tables text = json_tables (read_text text)

-- the tables that a file names, or its first fault
unfoldable pub catalogue_of : List ℕ → Result (List Entry) Fault
catalogue_of bytes = if is_utf8 bytes then text_tables (without_mark bytes) else Err (fault_at 301 0 (utf8_valid_len bytes))

-- a refusal tells the fault that was to be answered; want of memory may come at any time
abbrev pub IsFaultOf : {X : Type 0} → Result X Fault → CatalogueFault → Type 0
IsFaultOf answer (Refused code row column) = answer ≡ Err (fault_at code row column)
IsFaultOf answer OutOfMemory = ⊤

-- a call gave what was to be answered, or its fault
abbrev pub Reads : {X : Type 0} → Result X Fault → Result X CatalogueFault → Type 0
Reads answer (Ok x) = answer ≡ Ok x
Reads answer (Err e) = IsFaultOf answer e

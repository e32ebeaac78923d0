-- The tables of a catalogue: `{"name": NAME, "columns": [..], "files": [PATH, ..]}` each.
use Rattle.std.specs.Prelude.{ℕ, ◌==◌, List, [], ◌∷◌, ◌++◌, Option, Some, None, codes, option_and_then, option_map, if◌then◌else◌}
use Rattle.kql_cells.specs.declared.schema.Column.{Column}
use Rattle.serde_json.specs.Data.{Data, Items, no_items, item}
use Rattle.serde_json.specs.Events.{items_len}
use Rattle.catalogue_file.specs.Columns.{columns_of}
use Rattle.catalogue_file.specs.Json.{has_keys, list_at, some_text, text_at}
use Rattle.catalogue_file.specs.declared.entry.Entry.{Entry}

-- the paths before these, and these: texts that are not empty
unfoldable pub files_behind : List (List ℕ) → Items → Option (List (List ℕ))
files_behind before no_items = Some before
files_behind before (item d ds) = option_and_then (λ path. files_behind (before ++ path ∷ []) ds) (some_text d)

-- one path or more
unfoldable pub files_of : Items → Option (List (List ℕ))
files_of ds = if items_len ds == 0 then None else files_behind [] ds

abbrev pub entry : List ℕ → List Column → List (List ℕ) → Entry
entry name columns files = record { name = name; schema = columns; files = files }

-- a name, columns and files, and nothing else
unfoldable pub entry_of : Data → Option Entry
entry_of d =
    if has_keys 3 d then
    option_and_then (λ name.
    option_and_then (λ columns.
    option_map (entry name columns) (option_and_then files_of (list_at (codes "files") d)))
    (option_and_then columns_of (list_at (codes "columns") d)))
    (text_at (codes "name") d)
    else None

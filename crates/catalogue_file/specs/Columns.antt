-- The columns of a table: `{"name": NAME, "type": WORD}` each.
use Rattle.std.specs.Prelude.{ℕ, ◌&&◌, nat_le, Bool, List, [], ◌∷◌, ◌++◌, Option, Some, None, codes, is_some, option_and_then, option_map, if◌then◌else◌}
use Rattle.std.specs.Str.{bytes_eq}
use Rattle.kql_cells.specs.Named.{column_name, place_of}
use Rattle.kql_cells.specs.declared.schema.Column.{Column}
use Rattle.kql_cells.specs.declared.value.Kind.{Kind}
use Rattle.kql_cells.specs.declared.value.Kind.TheVariants as kind
use Rattle.serde_json.specs.Data.{Data, Items, no_items, item}
use Rattle.serde_json.specs.Events.{items_len}
use Rattle.catalogue_file.specs.Json.{has_keys, nonempty, text_at}

-- the types
abbrev pub kind_of_word : List ℕ → Option Kind
kind_of_word word =
    if bytes_eq word (codes "bool") then Some kind.Bool
    else if bytes_eq word (codes "long") then Some kind.Long
    else if bytes_eq word (codes "string") then Some kind.Text
    else if bytes_eq word (codes "datetime") then Some kind.Moment
    else if bytes_eq word (codes "timespan") then Some kind.Span
    else if bytes_eq word (codes "dynamic") then Some kind.Dynamic
    else None

abbrev pub name_of : Data → Option (List ℕ)
name_of d = option_and_then nonempty (text_at (codes "name") d)

abbrev pub kind_of : Data → Option Kind
kind_of d = option_and_then kind_of_word (text_at (codes "type") d)

abbrev pub column : List ℕ → Kind → Column
column name kind = record { name = name; kind = kind }

-- a name that is not empty and a type, and nothing else
unfoldable pub column_of : Data → Option Column
column_of d = if has_keys 2 d then option_and_then (λ name. option_map (column name) (kind_of d)) (name_of d) else None

-- a column, where no column before it has its name
abbrev pub fresh_behind : List Column → Column → Option Column
fresh_behind before c = if is_some (place_of column_name c.name before) then None else Some c

abbrev pub column_behind : List Column → Data → Option Column
column_behind before d = option_and_then (fresh_behind before) (column_of d)

-- the columns before these, and these
unfoldable pub columns_behind : List Column → Items → Option (List Column)
columns_behind before no_items = Some before
columns_behind before (item d ds) = option_and_then (λ c. columns_behind (before ++ c ∷ []) ds) (column_behind before d)

-- how many columns a table may have
abbrev pub is_count : ℕ → Bool
is_count n = nat_le 1 n && nat_le n 256

-- from one column to 256, of distinct names
unfoldable pub columns_of : Items → Option (List Column)
columns_of ds = if is_count (items_len ds) then columns_behind [] ds else None

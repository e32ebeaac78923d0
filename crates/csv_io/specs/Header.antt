-- What the fields of a header say of the columns: `Name:type`, or a name alone.
use Rattle.std.specs.Prelude.{ℕ, ◌+◌, ◌==◌, ◌||◌, nat_lt, Bool, true, false, List, [], ◌∷◌, ◌++◌, length, codes, is_some, if◌then◌else◌}
use Rattle.std.specs.List.{after_last, before_last, list_any}
use Rattle.std.specs.Str.{bytes_eq}
use Rattle.csv_io.specs.Faults.{Fault, bad_column, column_twice, fault_at}
use Rattle.csv_io.specs.declared.header.TypeWord.{TypeWord}
use Rattle.csv_io.specs.declared.header.TypeWord.TheVariants as word
use Rattle.kql_cells.specs.Named.{column_name, place_of}
use Rattle.kql_cells.specs.declared.schema.Column.{Column}
use Rattle.kql_cells.specs.declared.value.Kind.{Kind}
use Rattle.kql_cells.specs.declared.value.Kind.TheVariants as kind

abbrev pub is_colon : ℕ → Bool
is_colon b = b == 58

-- the words for types that the language leaves out
abbrev pub is_refused_word : List ℕ → Bool
is_refused_word w =
    bytes_eq w (codes "int") || bytes_eq w (codes "real") || bytes_eq w (codes "double") || bytes_eq w (codes "decimal")
    || bytes_eq w (codes "guid") || bytes_eq w (codes "date") || bytes_eq w (codes "time")

-- what a word says of a column's type
abbrev pub type_of_word : List ℕ → TypeWord
type_of_word w =
    if bytes_eq w (codes "bool") then word.Given kind.Bool
    else if bytes_eq w (codes "long") then word.Given kind.Long
    else if bytes_eq w (codes "string") then word.Given kind.Text
    else if bytes_eq w (codes "datetime") then word.Given kind.Moment
    else if bytes_eq w (codes "timespan") then word.Given kind.Span
    else if bytes_eq w (codes "dynamic") then word.Given kind.Dynamic
    else if is_refused_word w then word.LeftOut
    else word.Absent

-- the word is the text after the last colon
abbrev pub type_in : List ℕ → TypeWord
type_in field = if list_any is_colon field then type_of_word (after_last is_colon field) else word.Absent

-- without one of the six words the whole field is the name
abbrev pub name_by : TypeWord → List ℕ → List ℕ
name_by (word.Given k) field = before_last is_colon field
name_by word.LeftOut field = field
name_by word.Absent field = field

-- and the column is of strings
abbrev pub kind_by : TypeWord → Kind
kind_by (word.Given k) = k
kind_by word.LeftOut = kind.Text
kind_by word.Absent = kind.Text

abbrev pub name_of : List ℕ → List ℕ
name_of field = name_by (type_in field) field

abbrev pub kind_of : List ℕ → Kind
kind_of field = kind_by (type_in field)

-- the column that a field names
unfoldable pub column_of : List ℕ → Column
column_of field = record { name = name_of field; kind = kind_of field }

abbrev pub is_left_out : TypeWord → Bool
is_left_out word.LeftOut = true
is_left_out (word.Given k) = false
is_left_out word.Absent = false

-- the 257th field, a refused type, or no name
abbrev pub is_bad_column : ℕ → List ℕ → Bool
is_bad_column place field = nat_lt 256 place || is_left_out (type_in field) || (length (name_of field) == 0)

-- the faults of a field behind these columns: a bad column, or a name that stood before
unfoldable pub column_faults : List Column → List ℕ → List Fault
column_faults before field =
    let place = length before + 1 in
    if is_bad_column place field then fault_at bad_column 0 place ∷ []
    else if is_some (place_of column_name (name_of field) before) then fault_at column_twice 0 place ∷ []
    else []

-- the faults of a header's fields behind these columns, in order
abbrev pub header_faults : List Column → List (List ℕ) → List Fault
header_faults before [] = []
header_faults before (field ∷ fields) = column_faults before field ++ header_faults (before ++ column_of field ∷ []) fields

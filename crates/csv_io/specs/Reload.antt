-- Loading what was printed.
use Rattle.std.specs.Prelude.{◌≡◌, ◌≢◌, ◌≤◌, ◌++◌, ◌∷◌, ℕ, List, [], Some, All, IsUtf8, codes, drop, flat_map, length, map}
use Rattle.csv.specs.Reading.{strip_bom}
use Rattle.csv.specs.Writing.{default_writer, row_text}
use Rattle.csv_io.specs.Cells.{read_cell}
use Rattle.csv_io.specs.Text.{cell_text, line_text, names_of}
use Rattle.kql_cells.specs.Table.{Grid}
use Rattle.kql_cells.specs.Values.{IsOfKind}
use Rattle.kql_cells.specs.declared.schema.Column.{Column}
use Rattle.kql_cells.specs.declared.value.Kind.{Kind}
use Rattle.kql_cells.specs.declared.value.Kind.TheVariants as kind
use Rattle.kql_cells.specs.declared.value.Value.{Value}

-- the word for a type in a header
abbrev pub word_of : Kind → List ℕ
word_of kind.Bool = codes "bool"
word_of kind.Long = codes "long"
word_of kind.Text = codes "string"
word_of kind.Moment = codes "datetime"
word_of kind.Span = codes "timespan"
word_of kind.Dynamic = codes "dynamic"

-- the field of a header for a column: its name, a colon and its type
abbrev pub typed_name : Column → List ℕ
typed_name c = c.name ++ 58 ∷ word_of c.kind

-- a printed text with the types written into its header
abbrev pub with_kinds : List Column → List ℕ → List ℕ
with_kinds columns text = row_text default_writer (map typed_name columns) ++ drop (length (row_text default_writer (names_of columns))) text

-- the text of a table with the types of its columns in its header
abbrev pub typed_text : Grid → List ℕ
typed_text g = row_text default_writer (map typed_name g.columns) ++ flat_map line_text g.lines

abbrev pub first_name : List Column → List ℕ
first_name [] = []
first_name (c ∷ cs) = c.name

-- from one column to 256, each with a name, and the first name does not begin with a byte order mark
abbrev pub IsLoadable : List Column → Type 0
IsLoadable columns = (1 ≤ length columns) × (length columns ≤ 256) × All (λ c. c.name ≢ []) columns × (strip_bom (first_name columns) ≡ first_name columns)

-- the text of a value is UTF-8, and reads as the value in a column of its type
abbrev pub ReadsBack : Value → Type 0
ReadsBack v = IsUtf8 (cell_text v) × ((k : Kind) → IsOfKind k v → read_cell k (cell_text v) ≡ Some v)

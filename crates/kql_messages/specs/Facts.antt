-- What is told of columns and values.
use Rattle.std.specs.Prelude.{ℕ, List, [], ◌∷◌, ◌++◌, ◌+◌, ◌/◌, ◌%◌, nat_eq, Option, None, codes, if◌then◌else◌}
use Rattle.std.specs.Fmt.{decimal}
use Rattle.std.specs.Str.{bytes_eq}
use Rattle.kql_cells.specs.declared.value.Kind.{Kind}
use Rattle.kql_cells.specs.declared.value.Kind.TheVariants as kind
use Rattle.kql_messages.specs.declared.query.KnownColumn.{KnownColumn}
use Rattle.kql_messages.specs.declared.operands.Form.{Form}
use Rattle.kql_messages.specs.declared.operands.Form.TheVariants as form

-- the type of the first of these columns that has a name, if it is known
unfoldable pub kind_among : List KnownColumn → List ℕ → Option Kind
kind_among [] name = None
kind_among (c ∷ cs) name = if bytes_eq c.name.now name then c.kind else kind_among cs name

-- the word of a type
unfoldable pub type_word : Kind → List ℕ
type_word kind.Long = codes "long"
type_word kind.Moment = codes "datetime"
type_word kind.Span = codes "timespan"
type_word kind.Text = codes "string"
type_word kind.Bool = codes "bool"
type_word kind.Dynamic = codes "dynamic"

-- what a value of a type is called, and a column
unfoldable pub value_words : Kind → List ℕ
value_words kind.Long = codes "a long"
value_words kind.Moment = codes "a datetime"
value_words kind.Span = codes "a timespan"
value_words kind.Text = codes "a string"
value_words kind.Bool = codes "a bool"
value_words kind.Dynamic = codes "dynamic"

unfoldable pub column_words : Kind → List ℕ
column_words kind.Long = codes "a long column"
column_words kind.Moment = codes "a datetime column"
column_words kind.Span = codes "a timespan column"
column_words kind.Text = codes "a string column"
column_words kind.Bool = codes "a bool column"
column_words kind.Dynamic = codes "a dynamic column"

-- what an operand of a type is called
unfoldable pub told_as : Kind → Form → List ℕ
told_as k form.Column = column_words k
told_as k form.Literal = value_words k
told_as k form.Expression = value_words k

-- how many MiB hold so many bytes
abbrev pub mib_of : ℕ → ℕ
mib_of bytes = bytes / 1048576 + (if nat_eq (bytes % 1048576) 0 then 0 else 1)

-- texts one behind another
abbrev pub joined : List (List ℕ) → List ℕ
joined [] = []
joined (t ∷ ts) = t ++ joined ts

-- what is told of table files with so many bytes, where so many may be read
abbrev pub sizes_text : ℕ → ℕ → List ℕ
sizes_text bytes limit =
    joined (codes "The table files have " ∷ decimal bytes ∷ codes " bytes together, and " ∷ decimal limit ∷ codes " may be read: give --limit " ∷ decimal (mib_of bytes) ∷ codes "MiB, or leave rows out before" ∷ [])

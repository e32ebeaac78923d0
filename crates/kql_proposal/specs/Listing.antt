-- The columns of tables as a table.
use Rattle.std.specs.Prelude.{ℕ, ℤ, List, [], ◌∷◌, ◌++◌, Option, None, Some, codes, map}
use Rattle.csv_io.specs.Reload.{word_of}
use Rattle.kql_cells.specs.Table.{Grid}
use Rattle.kql_cells.specs.declared.schema.Column.{Column}
use Rattle.kql_cells.specs.declared.schemas.NamedSchema.{NamedSchema}
use Rattle.kql_cells.specs.declared.value.Kind.{Kind}
use Rattle.kql_cells.specs.declared.value.Kind.TheVariants as kind
use Rattle.kql_cells.specs.declared.value.Value.{Value}
use Rattle.kql_cells.specs.declared.value.Value.TheVariants as value

abbrev pub column : List ℕ → Kind → Column
column name kind = record { name = name; kind = kind }

-- the table's name, the column's, its type, and how many rows the table has
abbrev pub listing_columns : List Column
listing_columns = column (codes "Table") kind.Text ∷ column (codes "Column") kind.Text ∷ column (codes "Type") kind.Text ∷ column (codes "Rows") kind.Long ∷ []

abbrev pub row_of : List ℕ → Value → Column → List Value
row_of table rows c = value.Text table ∷ value.Text c.name ∷ value.Text (word_of c.kind) ∷ rows ∷ []

-- a row for each column of a table
abbrev pub rows_of_table : NamedSchema → Value → List (List Value)
rows_of_table t rows = map (row_of t.name rows) t.schema

-- a count of rows, or null
abbrev pub count_value : Option ℤ → Value
count_value None = value.Null
count_value (Some n) = value.Long n

-- a row for each column of these tables, with the counts of their rows, null where there is none
abbrev pub listed : List NamedSchema → List ℤ → List (List Value)
listed [] counts = []
listed (t ∷ ts) [] = rows_of_table t (count_value None) ++ listed ts []
listed (t ∷ ts) (n ∷ ns) = rows_of_table t (count_value (Some n)) ++ listed ts ns

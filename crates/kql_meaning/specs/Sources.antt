-- Sources: a table, the table of a let, `range` and `print`. A `union` as a source is its first table piped into `union` of the
-- others.
use Rattle.std.specs.Prelude.{ℕ, List, [], ◌∷◌, Option, None, Some, bytes_eq, find, map, slice_index_or, ℤ}
use Rattle.kql_cells.specs.Catalogues.{table_name}
use Rattle.kql_cells.specs.Table.{Grid}
use Rattle.kql_cells.specs.Catalogues.{Named}
use Rattle.kql_cells.specs.declared.schema.Column.{Column}
use Rattle.kql_bound.specs.declared.literal.Lit.{Lit}
use Rattle.kql_bound.specs.declared.parts.BItem.{BItem}
use Rattle.kql_meaning.specs.Numbers.{added, terms}
use Rattle.kql_meaning.specs.Project.{project_table}
use Rattle.kql_meaning.specs.Tables.{nothing}
use Rattle.kql_meaning.specs.Values.{number_as, number_of}

-- The table of a name, whose rows stand in the order of its file.
unfoldable pub table_of : Option Named → Grid
table_of None = nothing
table_of (Some n) = n.table

unfoldable pub named_table : List Named → List ℕ → Grid
named_table tables name = table_of (find (λ n. bytes_eq (table_name n) name) tables)

-- The table of the let of a number, from 0.
unfoldable pub let_table : List Grid → ℕ → Grid
let_table lets i = slice_index_or lets i nothing

-- The number that a literal is.
unfoldable pub number_in : Lit → ℤ
number_in l = added (number_of l.value)

-- `range x from a to b step s`: a, a + s and so on up to b, of the type of a.
unfoldable pub range_columns : List ℕ → Lit → List Column
range_columns column from = record { name = column; kind = from.kind } ∷ []

unfoldable pub range_table : List ℕ → Lit → Lit → Lit → Grid
range_table column from to step = record {
  columns = range_columns column from;
  lines = map (λ n. number_as from.kind n ∷ []) (terms (number_in from) (number_in to) (number_in step));
}

-- One row without columns.
abbrev pub one_row : Grid
one_row = record { columns = []; lines = [] ∷ [] }

-- `print`: one row of items, which read no column.
unfoldable pub print_table : List BItem → Grid
print_table items = project_table items one_row

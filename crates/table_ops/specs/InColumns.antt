-- A table in the columns of a union, column by column.
use Rattle.std.specs.Borrow.{Bor}
use Rattle.std.specs.Prelude.{Bool, List, map}
use Rattle.std.specs.List.{list_all}
use Rattle.kql_cells.specs.Named.{column_name, place_of}
use Rattle.kql_cells.specs.Table.{Grid}
use Rattle.kql_cells.specs.declared.schema.Column.{Column}
use Rattle.kql_cells.specs.declared.value.Value.{Value}
use Rattle.kql_meaning.specs.FittingOperators.{is_of_type_in}
use Rattle.kql_meaning.specs.Tables.{places}
use Rattle.kql_meaning.specs.Union.{cell_or_absent}

-- The cells of all rows in a column that the table may lack.
unfoldable pub column_in : Grid → Column → List Value
column_in t c = map (λ i. cell_or_absent t i c (place_of column_name c.name t.columns)) (places t)

-- Each of these columns has its type in a table, or is not there.
unfoldable pub are_of_type_in : List Column → List Column → Bool
are_of_type_in columns table = list_all (λ (c : Column). is_of_type_in c table) columns

-- The columns of each table.
abbrev pub columns_of : List Grid → List (List Column)
columns_of tables = map (λ (t : Grid). t.columns) tables

-- Tables that are lent.
abbrev pub tables_lent : List (Bor Grid) → List Grid
tables_lent tables = map (λ (t : Bor Grid). t.now) tables

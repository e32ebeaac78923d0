-- The values that a column has which is lent or was made.
use Rattle.std.specs.Prelude.{Bool, true, false, List}
use Rattle.kql_cells.specs.declared.value.Value.{Value}
use Rattle.kql_scalar.specs.declared.lent_column.LentColumn.{LentColumn}
use Rattle.kql_scalar.specs.declared.lent_column.LentColumn.TheVariants as column

abbrev pub held : LentColumn → List Value
held (column.Lent v) = v.now
held (column.Made v) = v

-- Whether it is the table's own.
abbrev pub is_lent : LentColumn → Bool
is_lent (column.Lent v) = true
is_lent (column.Made v) = false

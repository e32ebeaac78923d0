-- The table that an operator takes.
use Rattle.kql_cells.specs.Table.{Grid}
use Rattle.kql_plain.specs.declared.input.Input.{Input}
use Rattle.kql_plain.specs.declared.input.Input.TheVariants as input

abbrev pub input_table : Input → Grid
input_table (input.Lent t) = t.now
input_table (input.Owned t) = t

-- What a lent value shows.
use Rattle.kql_cells.specs.Seen.{seen}
use Rattle.kql_cells.specs.declared.value.Value.{Value}
use Rattle.kql_cells.specs.declared.value.Value.TheVariants as value
use Rattle.kql_scalar.specs.declared.lent.Lent.{Lent}
use Rattle.kql_scalar.specs.declared.lent.Lent.TheVariants as lent

abbrev pub shown : Lent → Value
shown (lent.Cell c) = seen c
shown (lent.Text t) = value.Text t
shown (lent.Dynamic d) = value.Dynamic d

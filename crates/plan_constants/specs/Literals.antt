-- The types and the values of literals.
use Rattle.kql_cells.specs.declared.value.Kind.{Kind}
use Rattle.kql_cells.specs.declared.value.Value.{Value}
use Rattle.kql_bound.specs.declared.literal.Lit.{Lit}

abbrev pub kind_in : Lit → Kind
kind_in l = l.kind

abbrev pub value_in : Lit → Value
value_in l = l.value

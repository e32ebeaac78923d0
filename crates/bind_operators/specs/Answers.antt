-- What operators give: their part of the plan, and the rows behind them.
use Rattle.std.specs.Prelude.{nat_lt, Bool, List, [], ◌++◌, length, true}
use Rattle.kql_cells.specs.declared.schema.Column.{Column}
use Rattle.kql_lexer.specs.declared.place.Place.{Place}
use Rattle.kql_bound.specs.declared.plan.Op.{Op}
use Rattle.kql_meaning.specs.FittingOperators.{is_empty}
use Rattle.bind_expr.specs.Outcome.{Outcome}
use Rattle.bind_expr.specs.declared.fault.BindFault.{BindFault}
use Rattle.bind_operators.specs.declared.bound.BoundOp.{BoundOp}
use Rattle.bind_operators.specs.declared.shape.Shape.{Shape}
use Rattle.bind_operators.specs.Faults.{fault_if, unless}

-- The columns that an operator makes are one at least and 256 at most.
unfoldable pub width_faults : Place → List Column → List BindFault
width_faults operator columns = fault_if (nat_lt 256 (length columns)) 412 operator ++ fault_if (is_empty columns) 419 operator

-- An operator that makes columns, and whether its rows are serialised. They are no longer those of a table.
unfoldable pub made : Op → List Column → Bool → BoundOp
made op columns serial = record { op = op; after = record { columns = columns; serial = serial; own = [] } }

unfoldable pub answer : Place → List BindFault → Op → List Column → Bool → Outcome BoundOp
answer operator faults op columns serial = unless (faults ++ width_faults operator columns) (made op columns serial)

-- An operator whose rows have the columns of those before it.
unfoldable pub over : Op → Shape → BoundOp
over op rows = record { op = op; after = rows }

-- Rows in an order that counts.
unfoldable pub serialised : Shape → Shape
serialised rows = record { columns = rows.columns; serial = true; own = [] }

-- Rows behind the end of a pattern prefix.
unfoldable pub apart : Shape → Shape
apart rows = record { columns = rows.columns; serial = rows.serial; own = [] }

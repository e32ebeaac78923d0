-- What names stand for: tables, lets and columns; and the scope in which an expression of an operator stands.
use Rattle.std.specs.Prelude.{ℕ, Bool, true, false, List, [], Option, None, Some, Ok, Err, bytes_eq, find, slice_get, if◌then◌else◌}
use Rattle.std.specs.List.{list_any}
use Rattle.std.specs.Option.{option_map_or}
use Rattle.kql_cells.specs.Named.{place_of}
use Rattle.kql_cells.specs.declared.schema.Column.{Column}
use Rattle.kql_lexer.specs.declared.place.Place.{Place}
use Rattle.kql_bound.specs.declared.plan.Plan.{roll-Plan}
use Rattle.kql_bound.specs.declared.plan.Source.{Source}
use Rattle.kql_bound.specs.declared.plan.Source.TheVariants as source
use Rattle.kql_meaning.specs.declared.position.Position.{Position}
use Rattle.kql_meaning.specs.Fits.{table_columns}
use Rattle.kql_meaning.specs.Tables.{names_of}
use Rattle.kql_syntax.specs.declared.tree.Name.{Name}
use Rattle.bind_expr.specs.Names.{text_of}
use Rattle.bind_expr.specs.Outcome.{Outcome}
use Rattle.bind_expr.specs.declared.fault.BindFault.TheVariants as fault
use Rattle.bind_expr.specs.declared.scope.Const.{Const}
use Rattle.bind_expr.specs.declared.scope.Scope.{Scope}
use Rattle.bind_operators.specs.declared.bound.BoundPlan.{BoundPlan}
use Rattle.bind_operators.specs.declared.known.Known.{Known}
use Rattle.bind_operators.specs.declared.known.LetTable.{LetTable}
use Rattle.bind_operators.specs.declared.shape.Shape.{Shape}
use Rattle.bind_operators.specs.Places.{name_place}

-- Lets.

abbrev pub let_name : LetTable → List ℕ
let_name l = l.name

-- The number of the table let of a name, from 0.
unfoldable pub let_numbered : Known → List ℕ → Option ℕ
let_numbered known n = place_of let_name n known.lets

unfoldable pub let_columns : Known → ℕ → List Column
let_columns known i = option_map_or (λ (l : LetTable). l.columns) (slice_get known.lets i) []

-- Whether a constant has a name.
unfoldable pub is_constant_name : List Const → List ℕ → Bool
is_constant_name consts n = list_any (λ (c : Const). bytes_eq c.name n) consts

-- Tables.

-- Rows straight from a source, serialised or not; none of their columns is a table's own.
abbrev pub straight_from : Bool → Source → List Column → BoundPlan
straight_from serial source columns = record {
  plan = roll-Plan (record { source = source; ops = [] });
  after = record { columns = columns; serial = serial; own = [] };
}

unfoldable pub rows_of : Source → List Column → BoundPlan
rows_of source columns = straight_from false source columns

unfoldable pub serial_rows_of : Source → List Column → BoundPlan
serial_rows_of source columns = straight_from true source columns

-- Rows of a table that was handed in, all of whose columns are its own.
unfoldable pub table_rows : List ℕ → List Column → BoundPlan
table_rows n columns = record {
  plan = roll-Plan (record { source = source.Table n; ops = [] });
  after = record { columns = columns; serial = false; own = names_of columns };
}

-- The columns of a table that was handed in. A constant's name hides the table of that name.
unfoldable pub columns_handed_in : Known → List ℕ → Option (List Column)
columns_handed_in known n = if is_constant_name known.consts n then None else table_columns known.tables n

abbrev pub handed_in : List ℕ → Option (List Column) → Option BoundPlan
handed_in n None = None
handed_in n (Some columns) = Some (table_rows n columns)

abbrev pub let_or_handed_in : Known → List ℕ → Option ℕ → Option BoundPlan
let_or_handed_in known n (Some i) = Some (rows_of (source.Let i) (let_columns known i))
let_or_handed_in known n None = handed_in n (columns_handed_in known n)

-- The table of a name: that of a let, else one that was handed in.
unfoldable pub table_named : Known → List ℕ → Option BoundPlan
table_named known n = let_or_handed_in known n (let_numbered known n)

abbrev pub or_no_table : Place → Option BoundPlan → Outcome BoundPlan
or_no_table place None = Err (fault.Refused 410 place)
or_no_table place (Some rows) = Ok rows

-- A table by its name, or 410 at the name.
unfoldable pub table_bound : Known → Name → Outcome BoundPlan
table_bound known n = or_no_table (name_place n) (table_named known (text_of n))

-- Columns.

abbrev pub column_or_fault : Place → Place → Bool → Option Column → Outcome Column
column_or_fault operator place is_constant (Some c) = Ok c
column_or_fault operator place true None = Err (fault.Refused 403 operator)
column_or_fault operator place false None = Err (fault.Refused 401 place)

-- A plain column where an operator wants one: 403 at the operator where a constant alone has the name, 401 at the name where nothing has.
unfoldable pub column_wanted : Place → Known → List Column → Name → Outcome Column
column_wanted operator known columns n =
    column_or_fault operator (name_place n) (is_constant_name known.consts (text_of n)) (find (λ (c : Column). bytes_eq c.name (text_of n)) columns)

-- Scopes.

-- Where the expressions of an operator stand that reads these rows.
unfoldable pub scope_at : Known → Shape → Position → Scope
scope_at known rows position = record {
  schema = rows.columns;
  serial = rows.serial;
  position = position;
  steps = record { names = []; columns = []; defaults = [] };
  consts = known.consts;
  keys = [];
  own = rows.own;
  moment = known.moment;
}

-- Rows without columns, as a constant and `print` read.
unfoldable pub no_rows : Shape
no_rows = record { columns = []; serial = false; own = [] }

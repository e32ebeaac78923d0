-- Which types are tried for a column.
use Rattle.kql_cells.specs.declared.value.Kind.{Kind}
use Rattle.kql_cells.specs.declared.value.Kind.TheVariants as kind

-- the type that is tried after another: a long, a bool, a datetime, a timespan, and then a string
abbrev pub kind_after : Kind → Kind
kind_after kind.Long = kind.Bool
kind_after kind.Bool = kind.Moment
kind_after kind.Moment = kind.Span
kind_after kind.Span = kind.Text
kind_after kind.Text = kind.Text
kind_after kind.Dynamic = kind.Text

-- `make-series`: series over an axis, from, to and step constant.
use Rattle.std.specs.Prelude.{ℕ, false, not, List, [], ◌∷◌, ◌++◌, Option, None, Some, Ok, fold, map, pos}
use Rattle.kql_cells.specs.declared.schema.Column.{Column}
use Rattle.kql_cells.specs.declared.value.Kind.{Kind}
use Rattle.kql_cells.specs.declared.value.Kind.TheVariants as kind
use Rattle.kql_cells.specs.declared.value.Value.{Value}
use Rattle.kql_cells.specs.declared.value.Value.TheVariants as value
use Rattle.kql_lexer.specs.declared.place.Place.{Place}
use Rattle.kql_functions.specs.Kinds.{has_order}
use Rattle.kql_bound.specs.declared.literal.Lit.{Lit}
use Rattle.kql_bound.specs.declared.parts.SeriesItem.{SeriesItem}
use Rattle.kql_bound.specs.declared.parts.SeriesPlan.{SeriesPlan}
use Rattle.kql_bound.specs.declared.plan.Op.TheVariants as op
use Rattle.kql_meaning.specs.declared.position.Position.TheVariants as position
use Rattle.kql_meaning.specs.FittingExpressions.{is_aggregate_call}
use Rattle.kql_meaning.specs.FittingOperators.{bins_fit}
use Rattle.kql_meaning.specs.MakeSeries.{series_columns}
use Rattle.kql_meaning.specs.Values.{absent}
use Rattle.kql_syntax.specs.declared.query.Item.{Item}
use Rattle.kql_syntax.specs.declared.query.MakeSeries.{MakeSeries}
use Rattle.kql_syntax.specs.declared.query.Series.{Series}
use Rattle.kql_syntax.specs.declared.tree.Expr.{Expr}
use Rattle.kql_syntax.specs.declared.tree.Name.{Name}
use Rattle.bind_expr.specs.Bound.{bound_expr}
use Rattle.bind_expr.specs.Outcome.{Outcome, ◌>>=◌}
use Rattle.bind_expr.specs.declared.fault.BindFault.{BindFault}
use Rattle.bind_expr.specs.declared.typed.Typed.{Typed}
use Rattle.bind_operators.specs.declared.bound.BoundOp.{BoundOp}
use Rattle.bind_operators.specs.declared.items.NamedItems.{NamedItems}
use Rattle.bind_operators.specs.declared.known.Known.{Known}
use Rattle.bind_groups.specs.declared.part.Axis.{Axis}
use Rattle.bind_groups.specs.declared.part.NamedSeries.{NamedSeries}
use Rattle.bind_groups.specs.declared.part.SeriesPart.{SeriesPart}
use Rattle.bind_operators.specs.declared.shape.Shape.{Shape}
use Rattle.bind_operators.specs.declared.wanted.Wanted.TheVariants as wanted
use Rattle.bind_operators.specs.Answers.{answer}
use Rattle.bind_operators.specs.Faults.{fault_if, unless}
use Rattle.bind_operators.specs.Items.{given_name, names_of_items, names_or_own, number_behind, one_name, twice}
use Rattle.bind_operators.specs.Known.{column_wanted, scope_at}
use Rattle.bind_operators.specs.Places.{item_start, name_place}
use Rattle.bind_groups.specs.Summarize.{group_keys_bound}
use Rattle.bind_operators.specs.Wanted.{constant_bound}

-- Items.

-- What an empty bin gives without a default: 0 for a long, no time for a timespan, and null for a datetime.
unfoldable pub empty_bin : Kind → Value
empty_bin kind.Long = value.Long (pos 0)
empty_bin kind.Span = value.Span (pos 0)
empty_bin k = absent k

-- A default is a constant of the item's type.
unfoldable pub default_bound : Place → Known → Shape → Kind → Option Expr → Outcome Lit
default_bound operator known rows k None = Ok (record { kind = k; value = empty_bin k })
default_bound operator known rows k (Some e) = constant_bound operator (wanted.Is k) known rows e

-- An item is one call of an aggregate, and else 403 at the operator.
unfoldable pub series_call : Place → Typed → Outcome Typed
series_call operator t = unless (fault_if (not (is_aggregate_call t.expr)) 403 operator) t

abbrev pub series_part : Typed → Lit → SeriesPart
series_part t default = record { typed = t; default = default }

unfoldable pub series_part_bound : Place → Known → Shape → Series → Outcome SeriesPart
series_part_bound operator known rows s = do
  t ← bound_expr s.item.value (scope_at known rows position.Series)
  call ← series_call operator t
  default ← default_bound operator known rows call.kind s.default
  Ok (series_part call default)

-- One item more under its name.
unfoldable pub with_series : NamedSeries → Item → SeriesPart → NamedSeries
with_series done item s = record {
  items = done.items ++ record { name = one_name (names_or_own done.next (given_name item) s.typed.expr); expr = s.typed.expr; default = s.default } ∷ [];
  places = done.places ++ item_start item ∷ [];
  next = number_behind done.next (given_name item) s.typed.expr;
}

abbrev pub series_link : Outcome NamedSeries → Item → Outcome SeriesPart → Outcome NamedSeries
series_link before item next = do
  done ← before
  s ← next
  Ok (with_series done item s)

unfoldable pub no_series : NamedSeries
no_series = record { items = []; places = []; next = 1 }

unfoldable pub series_bound : Place → Known → Shape → List Series → Outcome NamedSeries
series_bound operator known rows items =
    fold (λ before (s : Series). series_link before s.item (series_part_bound operator known rows s)) (Ok no_series) items

-- The axis.

-- A column of an ordered type: 404 at its name where it is of another.
unfoldable pub axis_bound : Place → Known → Shape → Name → Outcome Column
axis_bound operator known rows n = do
  c ← column_wanted operator known rows.columns n
  unless (fault_if (not (has_order c.kind)) 404 (name_place n)) c

abbrev pub axis_over : Column → Lit → Lit → Lit → Axis
axis_over c from to step = record { name = c.name; from = from; to = to; step = step }

-- An axis with its bins, as `make_series_bound` has them one after another: the ends are of its type, and the step leads through them.
unfoldable pub bins_bound : Place → Known → Shape → Column → MakeSeries → Outcome Axis
bins_bound operator known rows axis s = do
  from ← constant_bound operator (wanted.Is axis.kind) known rows s.from
  to ← constant_bound operator (wanted.Is axis.kind) known rows s.to
  step ← constant_bound operator (wanted.StepOf axis.kind) known rows s.step
  Ok (axis_over axis from to step)

-- The operator.

abbrev pub series_plan : NamedSeries → Column → Lit → Lit → Lit → NamedItems → SeriesPlan
series_plan done axis from to step keys =
    record { items = done.items; axis = axis.name; from = from; to = to; step = step; keys = keys.items }

-- The same over an axis with its bins.
abbrev pub plan_over : NamedSeries → Axis → NamedItems → SeriesPlan
plan_over done axis keys =
    record { items = done.items; axis = axis.name; from = axis.from; to = axis.to; step = axis.step; keys = keys.items }

-- Columns are made by the items, the axis and the keys, in this order of the text.
unfoldable pub series_twice : NamedSeries → Place → List ℕ → NamedItems → List BindFault
series_twice done place axis keys =
    twice [] (done.places ++ place ∷ keys.places)
    (map (λ (i : SeriesItem). i.name ∷ []) done.items ++ (axis ∷ []) ∷ names_of_items keys.items)

-- 414 where an end or the step is null, the step is not positive, or there are more than 100,000 bins; their types are right.
unfoldable pub bin_faults : Place → Shape → SeriesPlan → List BindFault
bin_faults operator rows plan = fault_if (not (bins_fit plan rows.columns)) 414 operator

unfoldable pub series_answer : Place → Shape → List BindFault → SeriesPlan → Outcome BoundOp
series_answer operator rows faults plan =
    answer operator (faults ++ bin_faults operator rows plan) (op.MakeSeries plan) (series_columns plan rows.columns) false

unfoldable pub make_series_bound : Place → MakeSeries → Known → Shape → Outcome BoundOp
make_series_bound operator s known rows = do
  done ← series_bound operator known rows s.items
  axis ← axis_bound operator known rows s.axis
  from ← constant_bound operator (wanted.Is axis.kind) known rows s.from
  to ← constant_bound operator (wanted.Is axis.kind) known rows s.to
  step ← constant_bound operator (wanted.StepOf axis.kind) known rows s.step
  keys ← group_keys_bound known rows done.next s.keys
  series_answer operator rows (series_twice done (name_place s.axis) axis.name keys) (series_plan done axis from to step keys)

-- Sources that are no table: `range` and `print`. Both read no columns.
use Rattle.std.specs.Prelude.{ℕ, ◌+◌, not, List, [], ◌∷◌, ◌++◌, Option, None, Some, Ok, fold}
use Rattle.kql_cells.specs.declared.schema.Column.{Column}
use Rattle.kql_lexer.specs.declared.place.Place.{Place}
use Rattle.kql_bound.specs.declared.literal.Lit.{Lit}
use Rattle.kql_bound.specs.declared.plan.Source.TheVariants as source
use Rattle.kql_meaning.specs.declared.position.Position.TheVariants as position
use Rattle.kql_meaning.specs.FittingOperators.{range_fits}
use Rattle.kql_meaning.specs.Items.{items_columns}
use Rattle.kql_meaning.specs.Sources.{range_columns}
use Rattle.kql_syntax.specs.declared.query.Item.{Item}
use Rattle.kql_syntax.specs.declared.query.Range.{Range}
use Rattle.item_names.specs.ItemNames.{print_name}
use Rattle.bind_expr.specs.Names.{text_of}
use Rattle.bind_expr.specs.Outcome.{Outcome, ◌>>=◌}
use Rattle.bind_expr.specs.declared.scope.Scope.{Scope}
use Rattle.bind_expr.specs.declared.typed.Typed.{Typed}
use Rattle.bind_operators.specs.declared.bound.BoundPlan.{BoundPlan}
use Rattle.bind_operators.specs.declared.items.NamedItems.{NamedItems}
use Rattle.bind_operators.specs.declared.known.Known.{Known}
use Rattle.bind_operators.specs.declared.wanted.Wanted.TheVariants as wanted
use Rattle.bind_operators.specs.Answers.{width_faults}
use Rattle.bind_operators.specs.Faults.{fault_if, unless}
use Rattle.bind_operators.specs.Items.{given_name, item_in, no_items, twice_items, with_names}
use Rattle.bind_operators.specs.Places.{item_start}
use Rattle.bind_operators.specs.Known.{no_rows, rows_of, scope_at, serial_rows_of}
use Rattle.bind_operators.specs.Wanted.{constant_bound}

-- Range.

-- 414 where an end or the step is null, the step is not positive, or there are more than 1,000,000 rows.
unfoldable pub ranged : Place → List ℕ → Lit → Lit → Lit → Outcome BoundPlan
ranged operator column from to step =
    unless (fault_if (not (range_fits from to step)) 414 operator)
    (serial_rows_of (source.Range column from to step) (range_columns column from))

-- The ends have one type, of longs, datetimes or timespans, and the step leads from one to the other.
unfoldable pub range_bound : Place → Range → Known → Outcome BoundPlan
range_bound operator r known = do
  from ← constant_bound operator wanted.Ordered known no_rows r.from
  to ← constant_bound operator (wanted.Is from.kind) known no_rows r.to
  step ← constant_bound operator (wanted.StepOf from.kind) known no_rows r.step
  ranged operator (text_of r.column) from to step

-- Print.

-- The name that an item is given, and else that of its number, from 0.
abbrev pub print_names : ℕ → Option (List ℕ) → List (List ℕ)
print_names n None = print_name n ∷ []
print_names n (Some given) = given ∷ []

unfoldable pub with_print_item : NamedItems → Item → Typed → NamedItems
with_print_item done item t =
    with_names done (item_start item) (print_names done.next (given_name item)) t.expr (done.next + 1)

abbrev pub print_link : Outcome NamedItems → Item → Outcome Typed → Outcome NamedItems
print_link before item next = do
  done ← before
  t ← next
  Ok (with_print_item done item t)

unfoldable pub print_items : Scope → List Item → Outcome NamedItems
print_items scope items = fold (λ before (item : Item). print_link before item (item_in scope item)) (Ok (no_items 0)) items

abbrev pub print_answer : Place → NamedItems → List Column → Outcome BoundPlan
print_answer operator done columns =
    unless (twice_items done ++ width_faults operator columns) (rows_of (source.Print done.items) columns)

unfoldable pub printed : Place → NamedItems → Outcome BoundPlan
printed operator done = print_answer operator done (items_columns done.items [])

unfoldable pub print_bound : Place → List Item → Known → Outcome BoundPlan
print_bound operator items known = print_items (scope_at known no_rows position.Plain) items >>= printed operator

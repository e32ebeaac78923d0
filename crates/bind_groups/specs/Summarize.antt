-- `summarize` in both forms, and `distinct`, which is `summarize` by its columns without items.
use Rattle.std.specs.Prelude.{ℕ, Bool, false, ◌&&◌, List, [], ◌∷◌, ◌++◌, Ok, Err, is_some, map, option_to_list}
use Rattle.std.specs.List.{flat_map, list_any}
use Rattle.kql_cells.specs.declared.schema.Column.{Column}
use Rattle.kql_lexer.specs.declared.place.Place.{Place}
use Rattle.kql_functions.specs.Kinds.{is_dynamic}
use Rattle.kql_bound.specs.declared.parts.BItem.{BItem}
use Rattle.kql_bound.specs.declared.parts.GroupPlan.{GroupPlan}
use Rattle.kql_bound.specs.declared.plan.Op.TheVariants as op
use Rattle.kql_meaning.specs.declared.position.Position.TheVariants as position
use Rattle.kql_meaning.specs.FittingExpressions.{column_of}
use Rattle.kql_meaning.specs.Summarize.{group_columns}
use Rattle.kql_syntax.specs.declared.query.Distinct.{Distinct}
use Rattle.kql_syntax.specs.declared.query.Distinct.TheVariants as distinct
use Rattle.kql_syntax.specs.declared.query.Groups.{Groups}
use Rattle.kql_syntax.specs.declared.query.Groups.TheVariants as groups
use Rattle.kql_syntax.specs.declared.query.Item.{Item}
use Rattle.kql_syntax.specs.declared.query.Summarize.{Summarize}
use Rattle.kql_syntax.specs.declared.tree.Name.{Name}
use Rattle.bind_expr.specs.Bound.{bound_expr}
use Rattle.bind_expr.specs.GroupForms.{has_bad_count, has_bare_column, has_several_results}
use Rattle.bind_expr.specs.Outcome.{Outcome, ◌>>=◌}
use Rattle.bind_expr.specs.declared.fault.BindFault.{BindFault}
use Rattle.bind_expr.specs.declared.scope.Scope.{Scope}
use Rattle.bind_expr.specs.declared.typed.Typed.{Typed}
use Rattle.bind_operators.specs.declared.bound.BoundOp.{BoundOp}
use Rattle.bind_operators.specs.declared.known.Known.{Known}
use Rattle.bind_operators.specs.declared.items.NamedItems.{NamedItems}
use Rattle.bind_operators.specs.declared.shape.Shape.{Shape}
use Rattle.bind_operators.specs.declared.wanted.Wanted.TheVariants as wanted
use Rattle.bind_operators.specs.Answers.{answer}
use Rattle.bind_operators.specs.Faults.{each_bound, fault_if, unless}
use Rattle.bind_operators.specs.Items.{column_item, items_from, names_of_items, names_twice, twice}
use Rattle.bind_operators.specs.Known.{column_wanted, scope_at}
use Rattle.bind_operators.specs.Places.{expr_inside, name_place}
use Rattle.bind_operators.specs.Wanted.{typed_bound}

-- Keys.

abbrev pub group_key : Scope → Item → Outcome Typed
group_key scope item = typed_bound wanted.Key item.value scope

-- Keys behind a number.
unfoldable pub group_keys_bound : Known → Shape → ℕ → List Item → Outcome NamedItems
group_keys_bound known rows n keys = items_from (group_key (scope_at known rows position.Plain)) n keys

-- The column that a key is, where it is one alone: a `*` in an aggregate leaves it out.
abbrev pub column_alone : Outcome Typed → List (List ℕ)
column_alone (Ok t) = option_to_list (column_of t.expr)
column_alone (Err f) = []

unfoldable pub key_columns : Scope → List Item → List (List ℕ)
key_columns scope keys = flat_map (λ (item : Item). column_alone (bound_expr item.value scope)) keys

-- Items.

abbrev pub grouped : List (List ℕ) → Scope → Scope
grouped keys scope = record scope { keys = keys }

-- Where an item stands: where aggregates may, and `*` leaves out the keys.
unfoldable pub group_scope : Known → Shape → List Item → Scope
group_scope known rows keys = grouped (key_columns (scope_at known rows position.Plain) keys) (scope_at known rows position.Group)

-- 403 at the operator where a column stands outside an aggregate.
abbrev pub formed_item : Place → Typed → Outcome Typed
formed_item operator t = unless (fault_if (has_bare_column t.expr) 403 operator) t

-- Whether several columns are given one name.
abbrev pub shares_name : Item → Typed → Bool
shares_name item t = is_some item.name && has_several_results t.expr

-- 403 at the function where a call with several result columns is given a name.
abbrev pub named_item : Item → Typed → Outcome Typed
named_item item t = unless (fault_if (shares_name item t) 403 (expr_inside item.value)) t

-- What is asked of an item's value.
abbrev pub asked_item : Place → Item → Typed → Outcome Typed
asked_item operator item t = do
  formed ← formed_item operator t
  named_item item formed

-- An item: its own faults, and then these.
unfoldable pub group_item : Place → Scope → Item → Outcome Typed
group_item operator scope item = do
  t ← bound_expr item.value scope
  asked_item operator item t

unfoldable pub group_items_bound : Place → Known → Shape → List Item → List Item → Outcome NamedItems
group_items_bound operator known rows items keys = items_from (group_item operator (group_scope known rows keys)) 1 items

-- The operator.

abbrev pub group_plan : NamedItems → NamedItems → GroupPlan
group_plan items keys = record { items = items.items; keys = keys.items }

-- 411 at the later of two in the text, and then 414.
unfoldable pub group_faults : Place → NamedItems → NamedItems → List BindFault
group_faults operator items keys =
    twice [] (items.places ++ keys.places) (names_of_items items.items ++ names_of_items keys.items)
    ++ fault_if (list_any (λ (b : BItem). has_bad_count b.expr) items.items) 414 operator

abbrev pub group_answer : Place → Shape → List BindFault → GroupPlan → Outcome BoundOp
group_answer operator rows faults plan = answer operator faults (op.Summarize plan) (group_columns plan rows.columns) false

unfoldable pub summarized : Place → Shape → NamedItems → NamedItems → Outcome BoundOp
summarized operator rows items keys = group_answer operator rows (group_faults operator items keys) (group_plan items keys)

-- Items and keys share their numbers, in the order of the text.
unfoldable pub groups_bound : Place → List Item → List Item → Known → Shape → Outcome BoundOp
groups_bound operator items keys known rows = do
  done ← group_items_bound operator known rows items keys
  by ← group_keys_bound known rows done.next keys
  summarized operator rows done by

-- Hints are read and ignored.
abbrev pub summarize_groups : Place → Groups → Known → Shape → Outcome BoundOp
summarize_groups operator (groups.Aggregates items keys) known rows = groups_bound operator items keys known rows
summarize_groups operator (groups.Keys keys) known rows = groups_bound operator [] keys known rows

unfoldable pub summarize_bound : Place → Summarize → Known → Shape → Outcome BoundOp
summarize_bound operator s known rows = summarize_groups operator s.groups known rows

-- Distinct.

unfoldable pub distinct_answer : Place → Shape → List BindFault → List Column → Outcome BoundOp
distinct_answer operator rows faults columns = group_answer operator rows faults (record { items = []; keys = map column_item columns })

-- A key column: 404 at its name where it is dynamic.
unfoldable pub key_column : Place → Column → Outcome Column
key_column place c = unless (fault_if (is_dynamic c.kind) 404 place) c

unfoldable pub distinct_column : Place → Known → Shape → Name → Outcome Column
distinct_column operator known rows n = do
  c ← column_wanted operator known rows.columns n
  key_column (name_place n) c

unfoldable pub distinct_bound : Place → Distinct → Known → Shape → Outcome BoundOp
distinct_bound operator (distinct.Star star) known rows = do
  columns ← each_bound (key_column star) rows.columns
  distinct_answer operator rows [] columns
distinct_bound operator (distinct.Columns names) known rows = do
  columns ← each_bound (distinct_column operator known rows) names
  distinct_answer operator rows (names_twice [] names) columns

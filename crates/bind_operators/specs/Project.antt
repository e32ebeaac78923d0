-- `project`, and its three kin, which are `project` of the columns that remain.
use Rattle.std.specs.Prelude.{ℕ, ◌||◌, List, [], ◌∷◌, ◌++◌, Option, None, Some, bytes_eq, filter, find, map}
use Rattle.kql_cells.specs.declared.schema.Column.{Column}
use Rattle.kql_lexer.specs.declared.place.Place.{Place}
use Rattle.kql_bound.specs.declared.parts.BItem.{BItem}
use Rattle.kql_bound.specs.declared.plan.Op.TheVariants as op
use Rattle.kql_meaning.specs.declared.position.Position.TheVariants as position
use Rattle.kql_meaning.specs.Items.{items_columns, without}
use Rattle.kql_meaning.specs.Tables.{is_name_among, names_of}
use Rattle.kql_syntax.specs.declared.query.Item.{Item}
use Rattle.kql_syntax.specs.declared.tree.Name.{Name}
use Rattle.bind_expr.specs.Names.{text_of}
use Rattle.bind_expr.specs.Outcome.{Outcome, ◌>>=◌}
use Rattle.bind_expr.specs.declared.fault.BindFault.{BindFault}
use Rattle.bind_operators.specs.declared.bound.BoundOp.{BoundOp}
use Rattle.bind_operators.specs.declared.items.NamedItems.{NamedItems}
use Rattle.bind_operators.specs.declared.known.Known.{Known}
use Rattle.bind_operators.specs.declared.shape.Shape.{Shape}
use Rattle.bind_operators.specs.Answers.{answer}
use Rattle.bind_operators.specs.Faults.{each_bound, fault_if}
use Rattle.bind_operators.specs.Items.{column_as, column_item, items_bound, twice_items}
use Rattle.bind_operators.specs.Known.{column_wanted, scope_at}
use Rattle.bind_operators.specs.Places.{name_place}

unfoldable pub project_answer : Place → Shape → List BindFault → List BItem → Outcome BoundOp
project_answer operator rows faults items = answer operator faults (op.Project items) (items_columns items rows.columns) rows.serial

unfoldable pub projected : Place → Shape → NamedItems → Outcome BoundOp
projected operator rows done = project_answer operator rows (twice_items done) done.items

unfoldable pub project_bound : Place → List Item → Known → Shape → Outcome BoundOp
project_bound operator items known rows = items_bound (scope_at known rows position.Window) items >>= projected operator rows

-- Some of the columns, in their order.
unfoldable pub chosen : Place → Shape → List Column → Outcome BoundOp
chosen operator rows columns = project_answer operator rows [] (map column_item columns)

-- Each of these names is a column's.
unfoldable pub columns_wanted : Place → Known → Shape → List Name → Outcome (List Column)
columns_wanted operator known rows names = each_bound (column_wanted operator known rows.columns) names

unfoldable pub project_away_bound : Place → List Name → Known → Shape → Outcome BoundOp
project_away_bound operator names known rows = do
  away ← columns_wanted operator known rows names
  chosen operator rows (without (names_of away) rows.columns)

-- The columns that have one of these names.
unfoldable pub columns_in : List (List ℕ) → List Column → List Column
columns_in names columns = filter (λ (c : Column). is_name_among names c.name) columns

unfoldable pub project_keep_bound : Place → List Name → Known → Shape → Outcome BoundOp
project_keep_bound operator names known rows = do
  kept ← columns_wanted operator known rows names
  chosen operator rows (columns_in (names_of kept) rows.columns)

-- New names, each with the old one.
abbrev pub Renames : Type 0
Renames = List (Name × Name)

abbrev pub old_name : Name × Name → List ℕ
old_name r = text_of r.1

abbrev pub name_after : Column → Option (Name × Name) → List ℕ
name_after c None = c.name
name_after c (Some r) = text_of r.0

-- A column under its new name, where it gets one.
unfoldable pub renamed_item : Renames → Column → BItem
renamed_item renames c = column_as (name_after c (find (λ (r : Name × Name). bytes_eq (old_name r) c.name) renames)) c.name

-- 411 at each new name that stands already, or whose old one was renamed before: `standing` are the names that stand, and `renamed` the
-- old ones that were renamed.
unfoldable pub rename_faults : List (List ℕ) → List (List ℕ) → Renames → List BindFault
rename_faults standing renamed [] = []
rename_faults standing renamed (r ∷ rs) =
    fault_if (is_name_among renamed (old_name r) || is_name_among standing (text_of r.0)) 411 (name_place r.0)
    ++ rename_faults (standing ++ text_of r.0 ∷ []) (renamed ++ old_name r ∷ []) rs

unfoldable pub renamed_columns : Place → Renames → Shape → Outcome BoundOp
renamed_columns operator renames rows =
    let kept : List Column = without (map old_name renames) rows.columns in
    project_answer operator rows (rename_faults (names_of kept) [] renames) (map (renamed_item renames) rows.columns)

unfoldable pub project_rename_bound : Place → Renames → Known → Shape → Outcome BoundOp
project_rename_bound operator renames known rows = do
  olds ← columns_wanted operator known rows (map (λ (r : Name × Name). r.1) renames)
  renamed_columns operator renames rows

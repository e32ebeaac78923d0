-- Views: the groups of the rows that were taken, without the rows.
use Rattle.std.specs.Prelude.{◌≡◌, ℕ, ℤ, ◌+◌, ◌^◌, ◌<◌, ◌&&◌, Bool, true, List, Option, None, Some, IsTrue, is_some, length}
use Rattle.std.specs.List.{list_all}
use Rattle.kql_cells.specs.Table.{Grid}
use Rattle.kql_cells.specs.declared.schema.Column.{Column}
use Rattle.kql_cells.specs.declared.value.Value.{Value}
use Rattle.kql_ticks.specs.Ranges.{is_span}
use Rattle.kql_scalar_fns.specs.Arguments.{argument}
use Rattle.kql_bound.specs.declared.parts.GroupPlan.{GroupPlan}
use Rattle.kql_meaning.specs.FittingOperators.{answer_if, summarize_fits}
use Rattle.kql_meaning.specs.Summarize.{group_columns}
use Rattle.kql_meaning.specs.Values.{number_of}
use Rattle.kql_fit_laws.specs.LawsOfRows.{IsTable, IsTableOf}
use Rattle.kql_scalar.specs.Rows.{rows}
use Rattle.summarize_pieces.specs.Calls.{calls_of}
use Rattle.summarize_pieces.specs.Joined.{joined_groups}
use Rattle.summarize_pieces.specs.Pieces.{AreGroupsOf, Grouped, args_of, groups_in}

-- What a view is to contracts: the plan of its `summarize`, the columns of the tables that it takes, the groups of the rows that it took, and how
-- many these are. `stored` tells whether each number that the plan's calls read has 64 bits. A table stores such numbers alone, so it is true of
-- every view that a program holds.
pub record Viewed : Type 0 where
  pub plan : GroupPlan
  pub columns : List Column
  pub groups : Grouped
  pub fed : ℕ
  pub stored : Bool

-- Whether a plan is one of a `summarize` over these columns.
abbrev pub PlanFits : GroupPlan → List Column → Type 0
PlanFits plan columns = IsTrue (is_some (answer_if (summarize_fits plan columns) (group_columns plan columns)))

-- The table of these rows.
abbrev pub table_of : List Column → List (List Value) → Grid
table_of columns lines = record { columns = columns; lines = lines }

-- A view stands for rows of a table of its columns where its groups are the groups of these rows, and it counts so many.
pub record StandsFor (v : Viewed) (lines : List (List Value)) : Type 0 where
  pub fits : PlanFits v.plan v.columns
  pub table : IsTable (table_of v.columns lines)
  pub groups : AreGroupsOf v.plan (table_of v.columns lines) 0 (length lines) v.groups
  pub count : v.fed ≡ length lines

-- Each view stands for some rows, fewer than a table may have.
pub record IsView (v : Viewed) : Type 0 where
  pub lines : List (List Value)
  pub stands : StandsFor v lines
  pub few : v.fed < 2 ^ 63

-- How a view grows.

-- It takes tables of its columns.
abbrev pub can_take : Viewed → Grid → Type 0
can_take v t = IsTableOf v.columns t

abbrev pub row_count : Viewed → ℕ
row_count v = v.fed

abbrev pub is_stored : Option ℤ → Bool
is_stored None = true
is_stored (Some n) = is_span n

-- Whether each number that is the first argument of a call, at each row, has 64 bits.
unfoldable pub are_stored : GroupPlan → Grid → Bool
are_stored g t = list_all (λ c. list_all (λ i. is_stored (number_of (argument (args_of c t i) 0))) (rows 0 (length t.lines))) (calls_of g.items)

-- The groups of a table's rows are joined to its own.
unfoldable pub grown : Viewed → Grid → Viewed
grown v t = record {
  plan = v.plan;
  columns = v.columns;
  groups = joined_groups v.groups (groups_in v.plan t 0 (length t.lines));
  fed = v.fed + length t.lines;
  stored = v.stored && are_stored v.plan t;
}

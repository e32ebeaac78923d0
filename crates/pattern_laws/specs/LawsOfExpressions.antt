-- A lifted expression, over a table with added columns, has the value that the expression has by what is told.
use Rattle.std.specs.Prelude.{◌≡◌, ◌<◌, ℕ, false, List, Some, Contains, IsTrue, length}
use Rattle.kql_cells.specs.Table.{Grid}
use Rattle.kql_cells.specs.declared.schema.Column.{Column}
use Rattle.kql_cells.specs.declared.value.Kind.TheVariants as kind
use Rattle.kql_functions.specs.Kinds.{pattern_kind}
use Rattle.kql_bound.specs.declared.expr.BExpr.{BExpr}
use Rattle.kql_meaning.specs.Expressions.{column_kind, kind_of, val}
use Rattle.kql_meaning.specs.FittingExpressions.{expr_fits, scope_of}
use Rattle.kql_meaning.specs.Readings.{Records}
use Rattle.kql_meaning.specs.declared.position.Position.TheVariants as position
use Rattle.kql_meaning.specs.Tables.{cell, has_column}
use Rattle.pattern_lift.specs.declared.calls.PatternCall.{PatternCall}
use Rattle.pattern_lift.specs.Calls.{calls, calls_are_lent, is_among}
use Rattle.pattern_lift.specs.Derived.{name_of_call}
use Rattle.pattern_lift.specs.Lifted.{lifted}
use Rattle.pattern_lift.specs.Marks.{begins_with}
use Rattle.pattern_laws.specs.Liftable.{is_readable}
use Rattle.pattern_laws.specs.Meaning.{Told, told_reading, told_val}
use Rattle.pattern_laws.specs.Tables.{call_answer}

-- A table u has the rows of a table t, with the same cells in all columns whose names do not begin with the marks.
pub record IsBeside (marks : List ℕ) (t u : Grid) : Type 0 where
  pub rows : length u.lines ≡ length t.lines
  pub kinds : (n : List ℕ) → begins_with marks n ≡ false → column_kind n u.columns ≡ column_kind n t.columns
  pub cells : (n : List ℕ) → begins_with marks n ≡ false → (i : ℕ) → i < length t.lines → cell u i n ≡ cell t i n

-- It has a column with the answers of a call, which is one of a string column.
pub record HasAnswers (told : Told) (marks : List ℕ) (t u : Grid) (c : PatternCall) : Type 0 where
  pub text : column_kind c.column t.columns ≡ Some kind.Text
  pub type : column_kind (name_of_call marks c) u.columns ≡ Some (pattern_kind c.func.group)
  pub cells : (i : ℕ) → i < length t.lines → cell u i (name_of_call marks c) ≡ call_answer told t i c

-- The type of a lifted expression, and its value at each row.
abbrev pub LiftedReads : Type 0
LiftedReads = (told : Told) (marks : List ℕ) (lent : List (List ℕ)) (t u : Grid) (e : BExpr) → IsBeside marks t u → IsTrue (calls_are_lent lent e) → IsTrue (is_readable marks e) → ((c : PatternCall) → Contains (calls e) c → IsTrue (is_among lent c.column) → HasAnswers told marks t u c) → (kind_of (lifted marks e) u.columns ≡ (told_reading told e).kind t.columns) × ((i : ℕ) → i < length t.lines → (s : Records) → val (lifted marks e) u i s ≡ told_val told e t i s)

-- An expression that fits where window functions may stand, over columns whose names do not begin with the marks, can be lifted.
abbrev pub ReadableWhereFits : Type 0
ReadableWhereFits = (marks : List ℕ) (columns : List Column) (e : BExpr) → ((n : List ℕ) → IsTrue (has_column n columns) → begins_with marks n ≡ false) → IsTrue (expr_fits e (scope_of columns) position.Window) → IsTrue (is_readable marks e)

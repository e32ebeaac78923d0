-- What a program with pattern calls means, where it is told what each call answers: `where` and `extend`, in which they may stand,
-- read the answers in the place of the calls, and all else is as without calls.
use Rattle.std.specs.Prelude.{ℕ, List, [], ◌∷◌, ◌++◌, Option, filter, fold, map}
use Rattle.std.specs.List.{flat_map}
use Rattle.kql_cells.specs.Catalogues.{Named}
use Rattle.kql_cells.specs.Table.{Grid, gathered}
use Rattle.kql_cells.specs.declared.value.Value.{Value}
use Rattle.kql_cells.specs.declared.value.Value.TheVariants as value
use Rattle.kql_functions.specs.declared.func.Func.{Func}
use Rattle.kql_functions.specs.declared.func.Func.TheVariants as func
use Rattle.kql_functions.specs.declared.func.PatternFunc.{PatternFunc}
use Rattle.kql_bound.specs.declared.expr.BExpr.{BExpr, fold-BExpr, out-BExpr}
use Rattle.kql_bound.specs.declared.expr.BExpr.TheOpen.{BExpr-F}
use Rattle.kql_bound.specs.declared.parts.BItem.{BItem}
use Rattle.kql_bound.specs.declared.plan.Op.{Op, fold-Op}
use Rattle.kql_bound.specs.declared.plan.Op.TheOpen.{Op-F}
use Rattle.kql_bound.specs.declared.plan.Plan.{Plan, fold-Plan}
use Rattle.kql_bound.specs.declared.plan.Program.{Program}
use Rattle.kql_meaning.specs.Expressions.{call_kind, reading_step}
use Rattle.kql_meaning.specs.Extend.{extend_columns}
use Rattle.kql_meaning.specs.Items.{cells_in, items_names, without}
use Rattle.kql_meaning.specs.Plans.{Gives, Makes, World, op_step, plan_step}
use Rattle.kql_meaning.specs.Readings.{Reading, Records, kinds_of, values_at}
use Rattle.kql_meaning.specs.Results.{results_step}
use Rattle.kql_meaning.specs.Tables.{places}
use Rattle.kql_meaning.specs.Values.{holds}

-- What is told of patterns: what a call answers by its group, none for `matches regex`, by the pattern, and by the text that is
-- searched.
abbrev pub Told : Type 0
Told = Option ℕ → List ℕ → List ℕ → Value

-- The text that is searched; what is no text reads as the empty one.
abbrev pub text_shown : Value → List ℕ
text_shown (value.Text t) = t
text_shown _ = []

-- What a call answers for the value of its column.
abbrev pub answer_to : Told → PatternFunc → List ℕ → Value → Value
answer_to told f pattern v = told f.group pattern (text_shown v)

unfoldable pub answered : Told → PatternFunc → List Value → Value
answered told f (v ∷ value.Text p ∷ []) = answer_to told f p v
answered told f _ = value.Null

-- Expressions: a pattern call is one case more.
abbrev pub call_reading : Told → Func → List Reading → Reading
call_reading told (func.Pattern f) args = record { kind = λ columns. call_kind (func.Pattern f) (kinds_of args columns); at = λ t i s. answered told f (values_at args t i s) }
call_reading told f args = reading_step (BExpr-F.Call f args)

abbrev pub told_step : Told → BExpr-F Reading → Reading
told_step told (BExpr-F.Call f args) = call_reading told f args
told_step told e = reading_step e

unfoldable pub told_reading : Told → BExpr → Reading
told_reading told = fold-BExpr Reading (told_step told)

unfoldable pub told_val : Told → BExpr → Grid → ℕ → Records → Value
told_val told e t i s = (told_reading told e).at t i s

unfoldable pub told_results : Told → BExpr → Grid → ℕ → Records → List Value
told_results told e t i s = results_step (out-BExpr e) (told_val told e t i s) t s

unfoldable pub told_values : Told → List BItem → Grid → ℕ → List Value
told_values told items t i = flat_map (λ (b : BItem). told_results told b.expr t i []) items

-- Operators.
unfoldable pub told_where : Told → BExpr → Grid → Grid
told_where told predicate t = gathered t (filter (λ i. holds (told_val told predicate t i [])) (places t))

unfoldable pub told_extend : Told → List BItem → Grid → Grid
told_extend told items t = record {
  columns = extend_columns items t.columns;
  lines = map (λ i. cells_in (without (items_names items) t.columns) t i ++ told_values told items t i) (places t);
}

abbrev pub told_op_step : Told → Op-F Makes Gives → World → Grid → Grid
told_op_step told (Op-F.Where e) w t = told_where told e t
told_op_step told (Op-F.Extend items) w t = told_extend told items t
told_op_step told o w t = op_step o w t

unfoldable pub told_op : Told → Op → World → Grid → Grid
told_op told = fold-Op Makes Gives (told_op_step told) plan_step

unfoldable pub told_plan : Told → Plan → World → Grid
told_plan told = fold-Plan Makes Gives (told_op_step told) plan_step

-- Programs.
unfoldable pub told_lets : Told → List Plan → List Named → List Grid
told_lets told lets tables = fold (λ done p. done ++ told_plan told p (record { tables = tables; lets = done }) ∷ []) [] lets

unfoldable pub told_means : Told → Program → List Named → Grid
told_means told p catalogue = told_plan told p.main (record { tables = catalogue; lets = told_lets told p.lets catalogue })

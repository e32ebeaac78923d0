-- Operators that read one row at a time take each row by itself, one after another too.
use Rattle.std.proofs.Common.{◌≡◌, Bool, true, false, List, [], ◌∷◌, ◌++◌, refl, ap, ap₂, sym, ◌∙◌}
use Rattle.std.proofs.lemmas.Bool.{and_parts}
use Rattle.kql_cells.specs.Table.{Grid}
use Rattle.kql_cells.specs.declared.schema.Column.{Column}
use Rattle.kql_bound.specs.declared.expr.BExpr.{BExpr}
use Rattle.kql_bound.specs.declared.parts.BItem.{BItem}
use Rattle.kql_bound.specs.declared.parts.Expand.{Expand}
use Rattle.kql_bound.specs.declared.parts.ParsePlan.{ParsePlan}
use Rattle.kql_bound.specs.declared.plan.Op.{Op, out-Op}
use Rattle.kql_bound.specs.declared.plan.Op.TheFolds.{map-Op}
use Rattle.kql_bound.specs.declared.plan.Op.TheOpen.{Op-F}
use Rattle.kql_bound.specs.declared.plan.Plan.{Plan}
use Rattle.kql_meaning.specs.Extend.{extend_columns, extend_table}
use Rattle.kql_meaning.specs.Items.{items_columns}
use Rattle.kql_meaning.specs.LawsOfRows.{ExpandTakesEachRow, ExtendTakesEachRow, ParseTakesEachRow, ProjectTakesEachRow, WhereTakesEachRow}
use Rattle.kql_meaning.specs.MvExpand.{expand_columns, expand_table}
use Rattle.kql_meaning.specs.Parse.{parse_columns, parse_table}
use Rattle.kql_meaning.specs.Plans.{Gives, Makes, World, one_after_another, op_means, op_step, plan_means}
use Rattle.kql_meaning.specs.Project.{project_table}
use Rattle.kql_meaning.specs.RowByRow.{TakesEachRow, are_plain, are_plain_parts, grid_of, is_plain}
use Rattle.kql_meaning.specs.Where.{where_table}
use Rattle.kql_meaning.proofs.PlanLaws.{op_means-out}
use Rattle.phase_laws.specs.LawsOfRuns.{ColumnsOfRun, RunTakesEachRow}
use Rattle.phase_laws.specs.Runs.{are_by_row, is_by_row, made_of}
use Rattle.phase_laws.proofs.ByRowLaws.{marked}

-- An operator that takes each row by itself, and whose columns are made of the columns alone.
pub record IsByRow (f : Grid → Grid) : Type 0 where
  pub rows : TakesEachRow f
  pub columns : (t u : Grid) → t.columns ≡ u.columns → (f t).columns ≡ (f u).columns

same : IsByRow (λ t. t)
same = record { rows = λ columns xs ys. refl; columns = λ t u e. e }

both : (f g : Grid → Grid) → IsByRow f → IsByRow g → IsByRow (λ t. g (f t))
both f g a b = record {
  rows = λ columns xs ys.
      let first = f (grid_of columns xs) in
      let second = f (grid_of columns ys) in
      let whole : f (grid_of columns (xs ++ ys)) ≡ grid_of first.columns (first.lines ++ second.lines) =
      ap₂ grid_of (a.columns (grid_of columns (xs ++ ys)) (grid_of columns xs) refl) (a.rows columns xs ys) in
      let last : grid_of first.columns second.lines ≡ second = ap (λ (cs : List Column). grid_of cs second.lines) (a.columns (grid_of columns xs) (grid_of columns ys) refl) in
      ap (λ (t : Grid). (g t).lines) whole ∙ (b.rows first.columns first.lines second.lines ∙ ap (λ (t : Grid). (g first).lines ++ (g t).lines) last);
  columns = λ t u e. b.columns (f t) (f u) (a.columns t u e);
}

along : (f g : Grid → Grid) → ((t : Grid) → f t ≡ g t) → IsByRow g → IsByRow f
along f g e b = record {
  rows = λ columns xs ys. ap (λ (t : Grid). t.lines) (e (grid_of columns (xs ++ ys)))
      ∙ (b.rows columns xs ys ∙ sym (ap₂ (λ (t u : Grid). t.lines ++ u.lines) (e (grid_of columns xs)) (e (grid_of columns ys))));
  columns = λ t u s. ap (λ (v : Grid). v.columns) (e t) ∙ (b.columns t u s ∙ sym (ap (λ (v : Grid). v.columns) (e u)));
}

-- The operators.

where_by_row : WhereTakesEachRow → (e : BExpr) → is_plain e ≡ true → IsByRow (where_table e)
unfolding where_table
where_by_row law e r = record { rows = law e r; columns = λ t u s. s }

extend_by_row : ExtendTakesEachRow → (items : List BItem) → are_plain items ≡ true → IsByRow (extend_table items)
unfolding extend_table
extend_by_row law items r = record { rows = law items r; columns = λ t u s. ap (extend_columns items) s }

project_by_row : ProjectTakesEachRow → (items : List BItem) → are_plain items ≡ true → IsByRow (project_table items)
unfolding project_table
project_by_row law items r = record { rows = law items r; columns = λ t u s. ap (items_columns items) s }

expand_by_row : ExpandTakesEachRow → (x : Expand) → are_plain_parts x.items ≡ true → IsByRow (expand_table x)
unfolding expand_table
expand_by_row law x r = record { rows = law x r; columns = λ t u s. ap (expand_columns x) s }

parse_by_row : ParseTakesEachRow → (p : ParsePlan) → is_plain p.text ≡ true → IsByRow (parse_table p)
unfolding parse_table
parse_by_row law p r = record { rows = law p r; columns = λ t u s. ap (parse_columns p) s }

-- What an operator means, and whether it reads one row at a time.

means : (o : Op) (y : Op-F Op Plan) → out-Op o ≡ y → (w : World) (t : Grid) → op_means o w t ≡ op_step (map-Op Op Plan Makes Gives op_means plan_means y) w t
means o y is w t = op_means-out o w t ∙ ap (λ (z : Op-F Op Plan). op_step (map-Op Op Plan Makes Gives op_means plan_means z) w t) is

never : {f : Grid → Grid} (b : Bool) → b ≡ false → b ≡ true → IsByRow f
never b n r = absurd cc

module _ (kept : WhereTakesEachRow) (extended : ExtendTakesEachRow) (projected : ProjectTakesEachRow) (expanded : ExpandTakesEachRow) (parsed : ParseTakesEachRow) where
  one : (o : Op) (y : Op-F Op Plan) → out-Op o ≡ y → is_by_row o ≡ true → (w : World) → IsByRow (op_means o w)
  one o (Op-F.Where e) is r w = along (op_means o w) (where_table e) (means o (Op-F.Where e) is w) (where_by_row kept e (sym (marked o (Op-F.Where e) is) ∙ r))
  one o (Op-F.Extend items) is r w = along (op_means o w) (extend_table items) (means o (Op-F.Extend items) is w) (extend_by_row extended items (sym (marked o (Op-F.Extend items) is) ∙ r))
  one o (Op-F.Project items) is r w = along (op_means o w) (project_table items) (means o (Op-F.Project items) is w) (project_by_row projected items (sym (marked o (Op-F.Project items) is) ∙ r))
  one o (Op-F.Take n) is r w = never (is_by_row o) (marked o (Op-F.Take n) is) r
  one o Op-F.Count is r w = never (is_by_row o) (marked o Op-F.Count is) r
  one o Op-F.Serialize is r w = along (op_means o w) (λ t. t) (means o Op-F.Serialize is w) same
  one o (Op-F.Sort keys) is r w = never (is_by_row o) (marked o (Op-F.Sort keys) is) r
  one o (Op-F.Top n keys) is r w = never (is_by_row o) (marked o (Op-F.Top n keys) is) r
  one o (Op-F.Summarize g) is r w = never (is_by_row o) (marked o (Op-F.Summarize g) is) r
  one o (Op-F.MakeSeries s) is r w = never (is_by_row o) (marked o (Op-F.MakeSeries s) is) r
  one o (Op-F.MvExpand x) is r w = along (op_means o w) (expand_table x) (means o (Op-F.MvExpand x) is w) (expand_by_row expanded x (sym (marked o (Op-F.MvExpand x) is) ∙ r))
  one o (Op-F.Parse p) is r w = along (op_means o w) (parse_table p) (means o (Op-F.Parse p) is w) (parse_by_row parsed p (sym (marked o (Op-F.Parse p) is) ∙ r))
  one o (Op-F.Join j right) is r w = never (is_by_row o) (marked o (Op-F.Join j right) is) r
  one o (Op-F.Union inner others) is r w = never (is_by_row o) (marked o (Op-F.Union inner others) is) r
  one o (Op-F.Scan s) is r w = never (is_by_row o) (marked o (Op-F.Scan s) is) r
  one o (Op-F.Partition column ops) is r w = never (is_by_row o) (marked o (Op-F.Partition column ops) is) r

  -- One after another.
  pub run_by_row : (ops : List Op) (w : World) → are_by_row ops ≡ true → IsByRow (made_of ops w)
  unfolding one_after_another
  run_by_row [] w r = same
  run_by_row (o ∷ os) w r =
      let p = and_parts (is_by_row o) (are_by_row os) r in
      both (op_means o w) (made_of os w) (one o (out-Op o) refl p.0 w) (run_by_row os w p.1)

  pub run_takes_each_row : RunTakesEachRow
  run_takes_each_row ops w r = (run_by_row ops w r).rows

  pub columns_of_run : ColumnsOfRun
  columns_of_run ops w t u r = (run_by_row ops w r).columns t u

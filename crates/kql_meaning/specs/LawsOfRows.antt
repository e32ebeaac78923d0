-- What holds row by row: values of plain expressions, and the operators that read one row at a time with them.
use Rattle.std.specs.Prelude.{◌≡◌, ◌<◌, ℕ, List, All, [], filter, length, slice_index_or, IsTrue}
use Rattle.kql_cells.specs.Seen.{row_at}
use Rattle.kql_cells.specs.Table.{Grid, gathered}
use Rattle.kql_bound.specs.declared.expr.BExpr.{BExpr}
use Rattle.kql_bound.specs.declared.parts.BItem.{BItem}
use Rattle.kql_bound.specs.declared.parts.Expand.{Expand}
use Rattle.kql_bound.specs.declared.parts.ParsePlan.{ParsePlan}
use Rattle.kql_meaning.specs.declared.position.Position.TheVariants as position
use Rattle.kql_meaning.specs.Expressions.{val}
use Rattle.kql_meaning.specs.Extend.{extend_table}
use Rattle.kql_meaning.specs.FittingExpressions.{Scope, expr_fits}
use Rattle.kql_meaning.specs.MvExpand.{expand_table}
use Rattle.kql_meaning.specs.Parse.{parse_table}
use Rattle.kql_meaning.specs.Project.{project_table}
use Rattle.kql_meaning.specs.Readings.{Records}
use Rattle.kql_meaning.specs.RowByRow.{TakesEachRow, are_plain, are_plain_parts, is_plain}
use Rattle.kql_meaning.specs.Values.{holds}
use Rattle.kql_meaning.specs.Where.{where_table}

-- An expression that fits where neither window functions nor aggregates may stand is plain.
abbrev pub PlainWhereFits : Type 0
PlainWhereFits = (e : BExpr) (scope : Scope) → IsTrue (expr_fits e scope position.Plain) → IsTrue (is_plain e)

-- A plain expression reads its row alone: at equal rows of tables of the same columns it has the same value, wherever they stand.
abbrev pub PlainReadsItsRow : Type 0
PlainReadsItsRow = (e : BExpr) (t u : Grid) (i j : ℕ) (s : Records) → IsTrue (is_plain e) → t.columns ≡ u.columns → row_at t.lines i ≡ row_at u.lines j → val e t i s ≡ val e u j s

-- At row k of gathered rows a plain expression has the value that it has at that row's place.
abbrev pub PlainOfGathered : Type 0
PlainOfGathered = (e : BExpr) (t : Grid) (rows : List ℕ) (k : ℕ) (s : Records) → IsTrue (is_plain e) → k < length rows → val e (gathered t rows) k s ≡ val e t (slice_index_or rows k 0) s

-- `where` with a plain predicate, over gathered rows, gathers those at whose places the predicate is true.
abbrev pub WhereOfGathered : Type 0
WhereOfGathered = (e : BExpr) (t : Grid) (rows : List ℕ) → IsTrue (is_plain e) → where_table e (gathered t rows) ≡ gathered t (filter (λ i. holds (val e t i [])) rows)

-- `extend`, `project` and `parse` with plain expressions, over gathered rows, give the rows at these places of what they give over the table.
abbrev pub ExtendOfGathered : Type 0
ExtendOfGathered = (items : List BItem) (t : Grid) (rows : List ℕ) → IsTrue (are_plain items) → All (λ i. i < length t.lines) rows → extend_table items (gathered t rows) ≡ gathered (extend_table items t) rows

abbrev pub ProjectOfGathered : Type 0
ProjectOfGathered = (items : List BItem) (t : Grid) (rows : List ℕ) → IsTrue (are_plain items) → All (λ i. i < length t.lines) rows → project_table items (gathered t rows) ≡ gathered (project_table items t) rows

abbrev pub ParseOfGathered : Type 0
ParseOfGathered = (p : ParsePlan) (t : Grid) (rows : List ℕ) → IsTrue (is_plain p.text) → All (λ i. i < length t.lines) rows → parse_table p (gathered t rows) ≡ gathered (parse_table p t) rows

-- With plain expressions all of these, and `mv-expand`, take each row by itself.
abbrev pub WhereTakesEachRow : Type 0
WhereTakesEachRow = (e : BExpr) → IsTrue (is_plain e) → TakesEachRow (where_table e)

abbrev pub ExtendTakesEachRow : Type 0
ExtendTakesEachRow = (items : List BItem) → IsTrue (are_plain items) → TakesEachRow (extend_table items)

abbrev pub ProjectTakesEachRow : Type 0
ProjectTakesEachRow = (items : List BItem) → IsTrue (are_plain items) → TakesEachRow (project_table items)

abbrev pub ParseTakesEachRow : Type 0
ParseTakesEachRow = (p : ParsePlan) → IsTrue (is_plain p.text) → TakesEachRow (parse_table p)

abbrev pub ExpandTakesEachRow : Type 0
ExpandTakesEachRow = (x : Expand) → IsTrue (are_plain_parts x.items) → TakesEachRow (expand_table x)

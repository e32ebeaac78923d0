-- Where an operator fits the columns of a table, it makes a table of the columns that it has, and the rows fit these.
use Rattle.std.specs.Prelude.{◌≡◌, ℕ, Bool, List, Some, Contains}
use Rattle.kql_cells.specs.Named.{HasDistinctNames, column_name}
use Rattle.kql_cells.specs.Table.{Grid, IsGrid}
use Rattle.kql_cells.specs.declared.schema.Column.{Column}
use Rattle.kql_bound.specs.declared.expr.BExpr.{BExpr}
use Rattle.kql_bound.specs.declared.parts.BKey.{BKey}
use Rattle.kql_bound.specs.declared.parts.JoinPlan.{JoinPlan}
use Rattle.kql_bound.specs.declared.plan.Op.{Op}
use Rattle.kql_bound.specs.declared.plan.Op.TheVariants as op
use Rattle.kql_bound.specs.declared.plan.Plan.{Plan}
use Rattle.kql_meaning.specs.Fits.{Known, op_columns, plan_columns}
use Rattle.kql_meaning.specs.Plans.{World, op_means, plan_means}

-- A table: no two columns have one name, and each row has a value for each column, which fits it.
abbrev pub IsTable : Grid → Type 0
IsTable t = HasDistinctNames column_name t.columns × IsGrid t

-- A table with these columns.
abbrev pub IsTableOf : List Column → Grid → Type 0
IsTableOf columns t = (t.columns ≡ columns) × IsTable t

-- What an operator that fits a table makes of it is a table of the columns that it has there.
abbrev pub OpKeeps : Known → World → Op → Type 0
OpKeeps k w o = (inside : Bool) (t : Grid) (columns : List Column) → IsTable t → op_columns o k inside t.columns ≡ Some columns → IsTableOf columns (op_means o w t)

-- The same of a plan.
abbrev pub PlanKeeps : Known → World → Plan → Type 0
PlanKeeps k w p = (columns : List Column) → plan_columns p k ≡ Some columns → IsTableOf columns (plan_means p w)

-- Operators that keep or leave out rows, and the count.

abbrev pub WhereKeeps : Type 0
WhereKeeps = (k : Known) (w : World) (e : BExpr) → OpKeeps k w (op.Where e)

abbrev pub TakeKeeps : Type 0
TakeKeeps = (k : Known) (w : World) (n : ℕ) → OpKeeps k w (op.Take n)

abbrev pub SortKeeps : Type 0
SortKeeps = (k : Known) (w : World) (keys : List BKey) → OpKeeps k w (op.Sort keys)

abbrev pub TopKeeps : Type 0
TopKeeps = (k : Known) (w : World) (n : ℕ) (keys : List BKey) → OpKeeps k w (op.Top n keys)

abbrev pub SerializeKeeps : Type 0
SerializeKeeps = (k : Known) (w : World) → OpKeeps k w op.Serialize

abbrev pub CountKeeps : Type 0
CountKeeps = (k : Known) (w : World) → OpKeeps k w op.Count

-- Operators with plans and operators in them, where those do.

abbrev pub JoinKeeps : Type 0
JoinKeeps = (k : Known) (w : World) (j : JoinPlan) (right : Plan) → PlanKeeps k w right → OpKeeps k w (op.Join j right)

abbrev pub UnionKeeps : Type 0
UnionKeeps = (k : Known) (w : World) (inner : Bool) (others : List Plan) → ((p : Plan) → Contains others p → PlanKeeps k w p) → OpKeeps k w (op.Union inner others)

abbrev pub PartitionKeeps : Type 0
PartitionKeeps = (k : Known) (w : World) (key : List ℕ) (ops : List Op) → ((o : Op) → Contains ops o → OpKeeps k w o) → OpKeeps k w (op.Partition key ops)

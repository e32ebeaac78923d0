-- `partition`: a key column, and operators over the rows of each key, which are serialised where those before it are. Hints are read and
-- ignored.
use Rattle.std.specs.Prelude.{Bool, true, false, List}
use Rattle.kql_cells.specs.declared.schema.Column.{Column}
use Rattle.kql_lexer.specs.declared.place.Place.{Place}
use Rattle.kql_bound.specs.declared.plan.Op.TheVariants as op
use Rattle.kql_syntax.specs.declared.tree.Name.{Name}
use Rattle.bind_expr.specs.Outcome.{Outcome, ◌>>=◌}
use Rattle.bind_operators.specs.declared.bound.BoundOp.{BoundOp}
use Rattle.bind_query.specs.declared.bound.BoundOps.{BoundOps}
use Rattle.bind_operators.specs.declared.known.Known.{Known}
use Rattle.bind_operators.specs.declared.shape.Shape.{Shape}
use Rattle.bind_operators.specs.Answers.{made}
use Rattle.bind_operators.specs.Faults.{fault_if, unless}
use Rattle.bind_query.specs.Pipes.{BindsOp, ops_over}
use Rattle.bind_groups.specs.Summarize.{distinct_column}

-- Its columns are those of the subquery, which has asked for their number itself.
unfoldable pub partitioned : Place → Bool → Column → BoundOps → Outcome BoundOp
partitioned operator inside key done =
    unless (fault_if inside 416 operator) (made (op.Partition key.name done.ops) done.after.columns false)

-- The same of a key and operators that may be refused.
unfoldable pub partitions : Place → Bool → Outcome Column → Outcome BoundOps → Outcome BoundOp
partitions operator inside column ops = do
  key ← column
  done ← ops
  partitioned operator inside key done

unfoldable pub partition_bound : Place → Name → List BindsOp → Known → Bool → Shape → Outcome BoundOp
partition_bound operator column ops known inside rows = do
  key ← distinct_column operator known rows column
  done ← ops_over ops known true rows
  partitioned operator inside key done

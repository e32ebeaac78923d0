-- Operators and pipes, by cases on the tree.
use Rattle.std.specs.Prelude.{Bool, true, false, List, Ok, fold}
use Rattle.kql_lexer.specs.declared.place.Place.{Place}
use Rattle.kql_syntax.specs.declared.query.ColumnOp.{ColumnOp}
use Rattle.kql_syntax.specs.declared.query.ColumnOp.TheVariants as column
use Rattle.kql_syntax.specs.declared.query.GroupOp.{GroupOp}
use Rattle.kql_syntax.specs.declared.query.GroupOp.TheVariants as group
use Rattle.kql_syntax.specs.declared.query.Op.{Op, fold-Op}
use Rattle.kql_syntax.specs.declared.query.Join.{Join, fold-Join}
use Rattle.kql_syntax.specs.declared.query.Op.TheOpen.{Join-F, Op-F, Partition-F, Pipe-F, Source-F, TableArg-F, TableOp-F, Union-F}
use Rattle.kql_syntax.specs.declared.query.Partition.{Partition, fold-Partition}
use Rattle.kql_syntax.specs.declared.query.Pipe.{Pipe, fold-Pipe}
use Rattle.kql_syntax.specs.declared.query.RowOp.{RowOp}
use Rattle.kql_syntax.specs.declared.query.RowOp.TheVariants as row
use Rattle.kql_syntax.specs.declared.query.Source.{Source, fold-Source}
use Rattle.kql_syntax.specs.declared.query.TableArg.{TableArg, fold-TableArg}
use Rattle.kql_syntax.specs.declared.query.TableOp.{TableOp, fold-TableOp}
use Rattle.kql_syntax.specs.declared.query.Union.{Union, fold-Union}
use Rattle.bind_expr.specs.Outcome.{Outcome}
use Rattle.bind_operators.specs.declared.bound.BoundOp.{BoundOp}
use Rattle.bind_operators.specs.declared.bound.BoundPlan.{BoundPlan}
use Rattle.bind_query.specs.declared.bound.BoundOps.{BoundOps}
use Rattle.bind_operators.specs.declared.known.Known.{Known}
use Rattle.bind_operators.specs.declared.shape.Shape.{Shape}
use Rattle.bind_operators.specs.Answers.{apart}
use Rattle.bind_operators.specs.Extend.{extend_bound, serialize_bound}
use Rattle.bind_query.specs.Join.{join_bound}
use Rattle.bind_operators.specs.Known.{table_bound}
use Rattle.bind_groups.specs.MakeSeries.{make_series_bound}
use Rattle.bind_groups.specs.MvExpand.{mv_expand_bound}
use Rattle.bind_groups.specs.Parse.{parse_bound}
use Rattle.bind_query.specs.Partition.{partition_bound}
use Rattle.bind_query.specs.Pipes.{BindsArg, BindsOp, BindsPlan, UnionParts, next_op, no_ops, piped}
use Rattle.bind_operators.specs.Places.{name_place}
use Rattle.bind_operators.specs.Project.{project_away_bound, project_bound, project_keep_bound, project_rename_bound}
use Rattle.bind_query.specs.Scan.{scan_bound}
use Rattle.bind_operators.specs.Sort.{sort_bound, top_bound}
use Rattle.bind_operators.specs.Sources.{print_bound, range_bound}
use Rattle.bind_groups.specs.Summarize.{distinct_bound, summarize_bound}
use Rattle.bind_operators.specs.TakeAndCount.{counted, take_bound}
use Rattle.bind_query.specs.Union.{is_inner, union_bound, union_source_bound}
use Rattle.bind_operators.specs.Where.{where_bound}

-- Operators without tables in them. A pattern prefix goes on over `where` and `extend` alone: all others see rows that are no table's own.

unfoldable pub column_op_bound : ColumnOp → Known → Shape → Outcome BoundOp
column_op_bound (column.Where operator e) known rows = where_bound e known rows
column_op_bound (column.Extend operator items) known rows = extend_bound operator items known rows
column_op_bound (column.Project operator items) known rows = project_bound operator items known (apart rows)
column_op_bound (column.Serialize operator items) known rows = serialize_bound operator items known rows
column_op_bound (column.ProjectAway operator names) known rows = project_away_bound operator names known rows
column_op_bound (column.ProjectKeep operator names) known rows = project_keep_bound operator names known rows
column_op_bound (column.ProjectRename operator renames) known rows = project_rename_bound operator renames known rows

unfoldable pub row_op_bound : RowOp → Known → Shape → Outcome BoundOp
row_op_bound (row.Take operator e) known rows = take_bound operator e known rows
row_op_bound (row.Limit operator e) known rows = take_bound operator e known rows
row_op_bound (row.Count operator) known rows = Ok counted
row_op_bound (row.Sort operator keys) known rows = sort_bound keys known rows
row_op_bound (row.Order operator keys) known rows = sort_bound keys known rows
row_op_bound (row.Top operator t) known rows = top_bound operator t.0 t.1 known rows
row_op_bound (row.Distinct operator d) known rows = distinct_bound operator d known rows

unfoldable pub group_op_bound : GroupOp → Known → Shape → Outcome BoundOp
group_op_bound (group.Summarize operator s) known rows = summarize_bound operator s known rows
group_op_bound (group.MakeSeries operator s) known rows = make_series_bound operator s known rows
group_op_bound (group.MvExpand operator form items) known rows = mv_expand_bound operator form items known rows
group_op_bound (group.Parse operator form e pattern) known rows = parse_bound operator form e pattern known rows

-- Operators and pipes, from what the operators and pipes in them are bound to.

-- A join at its operator's place, a lookup or none; and a partition at its operator's.
abbrev pub BindsJoin : Type 0
BindsJoin = Place → Bool → BindsOp

abbrev pub BindsPartition : Type 0
BindsPartition = Place → BindsOp

abbrev pub op_step : Op-F BindsOp BindsPlan BindsArg BindsOp BindsJoin BindsPartition BindsPlan UnionParts → BindsOp
op_step (Op-F.Columns o) known inside rows = column_op_bound o known rows
op_step (Op-F.Rows o) known inside rows = row_op_bound o known (apart rows)
op_step (Op-F.Groups o) known inside rows = group_op_bound o known (apart rows)
op_step (Op-F.Tables o) known inside rows = o known inside (apart rows)

abbrev pub table_op_step : TableOp-F BindsOp BindsPlan BindsArg BindsOp BindsJoin BindsPartition BindsPlan UnionParts → BindsOp
table_op_step (TableOp-F.Join operator j) known inside rows = j operator false known inside rows
table_op_step (TableOp-F.Lookup operator j) known inside rows = j operator true known inside rows
table_op_step (TableOp-F.«TableOp::Union» operator u) known inside rows = union_bound operator u known inside rows
table_op_step (TableOp-F.Scan operator s) known inside rows = scan_bound operator s known rows
table_op_step (TableOp-F.Partition operator p) known inside rows = p operator known inside rows

abbrev pub join_step : Join-F BindsOp BindsPlan BindsArg BindsOp BindsJoin BindsPartition BindsPlan UnionParts → BindsJoin
join_step j operator lookup known inside rows = join_bound operator lookup j.kind j.on known inside rows (j.table.1 known inside)

abbrev pub partition_step : Partition-F BindsOp BindsPlan BindsArg BindsOp BindsJoin BindsPartition BindsPlan UnionParts → BindsPartition
partition_step p operator known inside rows = partition_bound operator p.column p.ops known inside rows

abbrev pub union_step : Union-F BindsOp BindsPlan BindsArg BindsOp BindsJoin BindsPartition BindsPlan UnionParts → UnionParts
union_step u = (is_inner u.kind, u.tables)

abbrev pub table_arg_step : TableArg-F BindsOp BindsPlan BindsArg BindsOp BindsJoin BindsPartition BindsPlan UnionParts → BindsArg
table_arg_step (TableArg-F.«TableArg::Table» n) = (name_place n, λ known inside. table_bound known n)
table_arg_step (TableArg-F.Pipe place p) = (place, p)

abbrev pub source_step : Source-F BindsOp BindsPlan BindsArg BindsOp BindsJoin BindsPartition BindsPlan UnionParts → BindsPlan
source_step (Source-F.«Source::Table» n) known inside = table_bound known n
source_step (Source-F.Range operator r) known inside = range_bound operator r known
source_step (Source-F.Print operator items) known inside = print_bound operator items known
source_step (Source-F.«Source::Union» operator u) known inside = union_source_bound operator u known inside

abbrev pub pipe_step : Pipe-F BindsOp BindsPlan BindsArg BindsOp BindsJoin BindsPartition BindsPlan UnionParts → BindsPlan
pipe_step p known inside = piped (p.source known inside) p.ops known inside

-- An operator over the rows before it, in a subquery of `partition` or not.
unfoldable pub op_bound : Op → BindsOp
op_bound = fold-Op BindsOp BindsPlan BindsArg BindsOp BindsJoin BindsPartition BindsPlan UnionParts op_step source_step table_arg_step table_op_step join_step partition_step pipe_step union_step

-- A pipe.
unfoldable pub pipe_bound : Pipe → BindsPlan
pipe_bound = fold-Pipe BindsOp BindsPlan BindsArg BindsOp BindsJoin BindsPartition BindsPlan UnionParts op_step source_step table_arg_step table_op_step join_step partition_step pipe_step union_step

-- The parts of pipes.

unfoldable pub source_bound : Source → BindsPlan
source_bound = fold-Source BindsOp BindsPlan BindsArg BindsOp BindsJoin BindsPartition BindsPlan UnionParts op_step source_step table_arg_step table_op_step join_step partition_step pipe_step union_step

unfoldable pub arg_read : TableArg → BindsArg
arg_read = fold-TableArg BindsOp BindsPlan BindsArg BindsOp BindsJoin BindsPartition BindsPlan UnionParts op_step source_step table_arg_step table_op_step join_step partition_step pipe_step union_step

unfoldable pub table_op_bound : TableOp → BindsOp
table_op_bound = fold-TableOp BindsOp BindsPlan BindsArg BindsOp BindsJoin BindsPartition BindsPlan UnionParts op_step source_step table_arg_step table_op_step join_step partition_step pipe_step union_step

unfoldable pub join_read : Join → BindsJoin
join_read = fold-Join BindsOp BindsPlan BindsArg BindsOp BindsJoin BindsPartition BindsPlan UnionParts op_step source_step table_arg_step table_op_step join_step partition_step pipe_step union_step

unfoldable pub partition_read : Partition → BindsPartition
partition_read = fold-Partition BindsOp BindsPlan BindsArg BindsOp BindsJoin BindsPartition BindsPlan UnionParts op_step source_step table_arg_step table_op_step join_step partition_step pipe_step union_step

unfoldable pub union_read : Union → UnionParts
union_read = fold-Union BindsOp BindsPlan BindsArg BindsOp BindsJoin BindsPartition BindsPlan UnionParts op_step source_step table_arg_step table_op_step join_step partition_step pipe_step union_step

unfoldable pub arg_place : TableArg → Place
arg_place a = (arg_read a).0

unfoldable pub arg_bound : Known → Bool → TableArg → Outcome BoundPlan
arg_bound known inside a = (arg_read a).1 known inside

-- Operators one after another.
unfoldable pub ops_bound : List Op → Known → Bool → Shape → Outcome BoundOps
ops_bound ops known inside rows = fold (λ before (op : Op). next_op (op_bound op) known inside before) (Ok (no_ops rows)) ops

-- Queries in which each `parse` has a pattern that is not empty, as each has that is read from a text.
use Rattle.std.specs.Prelude.{Bool, true, false, ◌&&◌, List, [], ◌∷◌}
use Rattle.std.specs.List.{list_all}
use Rattle.kql_syntax.specs.declared.query.GroupOp.{GroupOp}
use Rattle.kql_syntax.specs.declared.query.GroupOp.TheVariants as group
use Rattle.kql_syntax.specs.declared.query.Join.{Join, fold-Join}
use Rattle.kql_syntax.specs.declared.query.Let.{Let}
use Rattle.kql_syntax.specs.declared.query.LetBody.{LetBody}
use Rattle.kql_syntax.specs.declared.query.LetBody.TheVariants as body
use Rattle.kql_syntax.specs.declared.query.Op.{Op, fold-Op}
use Rattle.kql_syntax.specs.declared.query.Op.TheOpen.{Join-F, Op-F, Partition-F, Pipe-F, Source-F, TableArg-F, TableOp-F, Union-F}
use Rattle.kql_syntax.specs.declared.query.Partition.{Partition, fold-Partition}
use Rattle.kql_syntax.specs.declared.query.Pipe.{Pipe, fold-Pipe}
use Rattle.kql_syntax.specs.declared.query.Query.{Query}
use Rattle.kql_syntax.specs.declared.query.Source.{Source, fold-Source}
use Rattle.kql_syntax.specs.declared.query.TableArg.{TableArg, fold-TableArg}
use Rattle.kql_syntax.specs.declared.query.TableOp.{TableOp, fold-TableOp}
use Rattle.kql_syntax.specs.declared.query.Union.{Union, fold-Union}

abbrev pub has_items : {A : Type 0} → List A → Bool
has_items [] = false
has_items (x ∷ xs) = true

abbrev pub has_pattern : GroupOp → Bool
has_pattern (group.Summarize operator s) = true
has_pattern (group.MakeSeries operator s) = true
has_pattern (group.MvExpand operator form items) = true
has_pattern (group.Parse operator form e pattern) = has_items pattern

abbrev pub all_have : List Bool → Bool
all_have parts = list_all (λ b. b) parts

abbrev pub op_patterns_step : Op-F Bool Bool Bool Bool Bool Bool Bool Bool → Bool
op_patterns_step (Op-F.Columns o) = true
op_patterns_step (Op-F.Rows o) = true
op_patterns_step (Op-F.Groups o) = has_pattern o
op_patterns_step (Op-F.Tables o) = o

abbrev pub table_op_patterns_step : TableOp-F Bool Bool Bool Bool Bool Bool Bool Bool → Bool
table_op_patterns_step (TableOp-F.Join operator j) = j
table_op_patterns_step (TableOp-F.Lookup operator j) = j
table_op_patterns_step (TableOp-F.«TableOp::Union» operator u) = u
table_op_patterns_step (TableOp-F.Scan operator s) = true
table_op_patterns_step (TableOp-F.Partition operator p) = p

abbrev pub join_patterns_step : Join-F Bool Bool Bool Bool Bool Bool Bool Bool → Bool
join_patterns_step j = j.table

abbrev pub partition_patterns_step : Partition-F Bool Bool Bool Bool Bool Bool Bool Bool → Bool
partition_patterns_step p = all_have p.ops

abbrev pub union_patterns_step : Union-F Bool Bool Bool Bool Bool Bool Bool Bool → Bool
union_patterns_step u = all_have u.tables

abbrev pub arg_patterns_step : TableArg-F Bool Bool Bool Bool Bool Bool Bool Bool → Bool
arg_patterns_step (TableArg-F.«TableArg::Table» n) = true
arg_patterns_step (TableArg-F.Pipe place p) = p

abbrev pub source_patterns_step : Source-F Bool Bool Bool Bool Bool Bool Bool Bool → Bool
source_patterns_step (Source-F.«Source::Table» n) = true
source_patterns_step (Source-F.Range operator r) = true
source_patterns_step (Source-F.Print operator items) = true
source_patterns_step (Source-F.«Source::Union» operator u) = u

abbrev pub pipe_patterns_step : Pipe-F Bool Bool Bool Bool Bool Bool Bool Bool → Bool
pipe_patterns_step p = p.source && all_have p.ops

-- Whether each `parse` of a pipe has a pattern, and of each part of one.
unfoldable pub pipe_patterns : Pipe → Bool
pipe_patterns = fold-Pipe Bool Bool Bool Bool Bool Bool Bool Bool op_patterns_step source_patterns_step arg_patterns_step table_op_patterns_step join_patterns_step partition_patterns_step pipe_patterns_step union_patterns_step

unfoldable pub op_patterns : Op → Bool
op_patterns = fold-Op Bool Bool Bool Bool Bool Bool Bool Bool op_patterns_step source_patterns_step arg_patterns_step table_op_patterns_step join_patterns_step partition_patterns_step pipe_patterns_step union_patterns_step

unfoldable pub source_patterns : Source → Bool
source_patterns = fold-Source Bool Bool Bool Bool Bool Bool Bool Bool op_patterns_step source_patterns_step arg_patterns_step table_op_patterns_step join_patterns_step partition_patterns_step pipe_patterns_step union_patterns_step

unfoldable pub arg_patterns : TableArg → Bool
arg_patterns = fold-TableArg Bool Bool Bool Bool Bool Bool Bool Bool op_patterns_step source_patterns_step arg_patterns_step table_op_patterns_step join_patterns_step partition_patterns_step pipe_patterns_step union_patterns_step

unfoldable pub table_op_patterns : TableOp → Bool
table_op_patterns = fold-TableOp Bool Bool Bool Bool Bool Bool Bool Bool op_patterns_step source_patterns_step arg_patterns_step table_op_patterns_step join_patterns_step partition_patterns_step pipe_patterns_step union_patterns_step

unfoldable pub join_patterns : Join → Bool
join_patterns = fold-Join Bool Bool Bool Bool Bool Bool Bool Bool op_patterns_step source_patterns_step arg_patterns_step table_op_patterns_step join_patterns_step partition_patterns_step pipe_patterns_step union_patterns_step

unfoldable pub partition_patterns : Partition → Bool
partition_patterns = fold-Partition Bool Bool Bool Bool Bool Bool Bool Bool op_patterns_step source_patterns_step arg_patterns_step table_op_patterns_step join_patterns_step partition_patterns_step pipe_patterns_step union_patterns_step

unfoldable pub union_patterns : Union → Bool
union_patterns = fold-Union Bool Bool Bool Bool Bool Bool Bool Bool op_patterns_step source_patterns_step arg_patterns_step table_op_patterns_step join_patterns_step partition_patterns_step pipe_patterns_step union_patterns_step

abbrev pub body_patterns : LetBody → Bool
body_patterns (body.Pipe p) = pipe_patterns p
body_patterns (body.Expr e) = true

abbrev pub let_patterns : Let → Bool
let_patterns l = body_patterns l.body

-- Whether each `parse` of a query has a pattern.
unfoldable pub has_patterns : Query → Bool
has_patterns q = list_all let_patterns q.lets && pipe_patterns q.main

-- The operators of a query's tree, in the order of its text: each operator of each pipe, and the sources `range`, `print` and
-- `union`. An operator stands before those of the pipes in it.
use Rattle.std.specs.Prelude.{ℕ, List, [], ◌∷◌, ◌++◌, length, map}
use Rattle.kql_lexer.specs.declared.place.Place.{Place}
use Rattle.kql_syntax.specs.declared.query.ColumnOp.{ColumnOp}
use Rattle.kql_syntax.specs.declared.query.ColumnOp.TheVariants as column
use Rattle.kql_syntax.specs.declared.query.RowOp.{RowOp}
use Rattle.kql_syntax.specs.declared.query.RowOp.TheVariants as row
use Rattle.kql_syntax.specs.declared.query.GroupOp.{GroupOp}
use Rattle.kql_syntax.specs.declared.query.GroupOp.TheVariants as group
use Rattle.kql_syntax.specs.declared.query.Op.TheOpen.{Op-F, Source-F, TableArg-F, TableOp-F}
use Rattle.kql_syntax.specs.declared.query.Join.{Join, Join-F, fold-Join}
use Rattle.kql_syntax.specs.declared.query.Op.{Op, fold-Op}
use Rattle.kql_syntax.specs.declared.query.Partition.{Partition, Partition-F, fold-Partition}
use Rattle.kql_syntax.specs.declared.query.Pipe.{Pipe, Pipe-F, fold-Pipe}
use Rattle.kql_syntax.specs.declared.query.Source.{Source, fold-Source}
use Rattle.kql_syntax.specs.declared.query.TableArg.{TableArg, fold-TableArg}
use Rattle.kql_syntax.specs.declared.query.TableOp.{TableOp, fold-TableOp}
use Rattle.kql_syntax.specs.declared.query.Union.{Union, Union-F, fold-Union}
use Rattle.kql_syntax.specs.declared.query.Let.{Let}
use Rattle.kql_syntax.specs.declared.query.LetBody.{LetBody}
use Rattle.kql_syntax.specs.declared.query.LetBody.TheVariants as letbody
use Rattle.kql_syntax.specs.declared.query.Query.{Query}

abbrev pub Places : Type 0
Places = List Place

-- lists one after another
abbrev pub joined : List Places → Places
joined [] = []
joined (ps ∷ more) = ps ++ joined more

-- the place of an operator's name
abbrev pub column_place : ColumnOp → Place
column_place (column.Where p e) = p
column_place (column.Extend p items) = p
column_place (column.Project p items) = p
column_place (column.Serialize p items) = p
column_place (column.ProjectAway p names) = p
column_place (column.ProjectKeep p names) = p
column_place (column.ProjectRename p pairs) = p

abbrev pub row_place : RowOp → Place
row_place (row.Take p e) = p
row_place (row.Limit p e) = p
row_place (row.Count p) = p
row_place (row.Sort p keys) = p
row_place (row.Order p keys) = p
row_place (row.Top p by) = p
row_place (row.Distinct p columns) = p

abbrev pub group_place : GroupOp → Place
group_place (group.Summarize p s) = p
group_place (group.MakeSeries p s) = p
group_place (group.MvExpand p kind items) = p
group_place (group.Parse p kind e pattern) = p

-- what stands in each part, from what stands in the parts of it
abbrev pub in_join : Join-F Places Places Places Places Places Places Places Places → Places
in_join j = j.table

abbrev pub in_op : Op-F Places Places Places Places Places Places Places Places → Places
in_op (Op-F.Columns o) = column_place o ∷ []
in_op (Op-F.Rows o) = row_place o ∷ []
in_op (Op-F.Groups o) = group_place o ∷ []
in_op (Op-F.Tables o) = o

abbrev pub in_partition : Partition-F Places Places Places Places Places Places Places Places → Places
in_partition p = joined p.ops

abbrev pub in_pipe : Pipe-F Places Places Places Places Places Places Places Places → Places
in_pipe p = p.source ++ joined p.ops

abbrev pub in_source : Source-F Places Places Places Places Places Places Places Places → Places
in_source (Source-F.«Source::Table» n) = []
in_source (Source-F.Range p r) = p ∷ []
in_source (Source-F.Print p items) = p ∷ []
in_source (Source-F.«Source::Union» p u) = p ∷ u

abbrev pub in_table_arg : TableArg-F Places Places Places Places Places Places Places Places → Places
in_table_arg (TableArg-F.«TableArg::Table» n) = []
in_table_arg (TableArg-F.Pipe p inner) = inner

abbrev pub in_table_op : TableOp-F Places Places Places Places Places Places Places Places → Places
in_table_op (TableOp-F.Join p j) = p ∷ j
in_table_op (TableOp-F.Lookup p j) = p ∷ j
in_table_op (TableOp-F.«TableOp::Union» p u) = p ∷ u
in_table_op (TableOp-F.Scan p s) = p ∷ []
in_table_op (TableOp-F.Partition p inner) = p ∷ inner

abbrev pub in_union : Union-F Places Places Places Places Places Places Places Places → Places
in_union u = joined u.tables

unfoldable pub of_join : Join → Places
of_join = fold-Join Places Places Places Places Places Places Places Places in_op in_source in_table_arg in_table_op in_join in_partition in_pipe in_union

unfoldable pub of_op : Op → Places
of_op = fold-Op Places Places Places Places Places Places Places Places in_op in_source in_table_arg in_table_op in_join in_partition in_pipe in_union

unfoldable pub of_partition : Partition → Places
of_partition = fold-Partition Places Places Places Places Places Places Places Places in_op in_source in_table_arg in_table_op in_join in_partition in_pipe in_union

unfoldable pub of_pipe : Pipe → Places
of_pipe = fold-Pipe Places Places Places Places Places Places Places Places in_op in_source in_table_arg in_table_op in_join in_partition in_pipe in_union

unfoldable pub of_source : Source → Places
of_source = fold-Source Places Places Places Places Places Places Places Places in_op in_source in_table_arg in_table_op in_join in_partition in_pipe in_union

unfoldable pub of_table_arg : TableArg → Places
of_table_arg = fold-TableArg Places Places Places Places Places Places Places Places in_op in_source in_table_arg in_table_op in_join in_partition in_pipe in_union

unfoldable pub of_table_op : TableOp → Places
of_table_op = fold-TableOp Places Places Places Places Places Places Places Places in_op in_source in_table_arg in_table_op in_join in_partition in_pipe in_union

unfoldable pub of_union : Union → Places
of_union = fold-Union Places Places Places Places Places Places Places Places in_op in_source in_table_arg in_table_op in_join in_partition in_pipe in_union

-- those in the body of a let statement; an expression has none
abbrev pub of_body : LetBody → Places
of_body (letbody.Pipe p) = of_pipe p
of_body (letbody.Expr e) = []

abbrev pub of_let : Let → Places
of_let l = of_body l.body

-- the places of the names of a query's operators
unfoldable pub operators : Query → Places
operators q = joined (map of_let q.lets) ++ of_pipe q.main

abbrev pub operator_count : Query → ℕ
operator_count q = length (operators q)

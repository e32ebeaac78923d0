-- Whether each `parse` of a part has a pattern, for each of the parts.
use Rattle.std.proofs.Common.{◌≡◌, Bool, true, ◌&&◌, List, map, sym, ap, ◌∙◌}
use Rattle.std.specs.Prelude.{Option}
use Rattle.kql_lexer.specs.declared.place.Place.{Place}
use Rattle.kql_syntax.specs.declared.tree.Name.{Name}
use Rattle.kql_syntax.specs.declared.query.ColumnOp.{ColumnOp}
use Rattle.kql_syntax.specs.declared.query.RowOp.{RowOp}
use Rattle.kql_syntax.specs.declared.query.GroupOp.{GroupOp}
use Rattle.kql_syntax.specs.declared.query.Hint.{Hint}
use Rattle.kql_syntax.specs.declared.query.Item.{Item}
use Rattle.kql_syntax.specs.declared.query.JoinSign.{JoinSign}
use Rattle.kql_syntax.specs.declared.query.On.{On}
use Rattle.kql_syntax.specs.declared.query.Range.{Range}
use Rattle.kql_syntax.specs.declared.query.Scan.{Scan}
use Rattle.kql_syntax.specs.declared.query.UnionKind.{UnionKind}
use Rattle.kql_syntax.specs.declared.query.Op.TheOpen.{Op-F, Source-F, TableArg-F, TableOp-F}
use Rattle.kql_syntax.specs.declared.query.Join.{Join, roll-Join, fold-roll-Join}
use Rattle.kql_syntax.specs.declared.query.Op.{Op, fold-roll-Op}
use Rattle.kql_syntax.specs.declared.query.Op.TheVariants as op
use Rattle.kql_syntax.specs.declared.query.Partition.{Partition, roll-Partition, fold-roll-Partition}
use Rattle.kql_syntax.specs.declared.query.Pipe.{Pipe, roll-Pipe, fold-roll-Pipe}
use Rattle.kql_syntax.specs.declared.query.Source.{Source, fold-roll-Source}
use Rattle.kql_syntax.specs.declared.query.Source.TheVariants as source
use Rattle.kql_syntax.specs.declared.query.TableArg.{TableArg, fold-roll-TableArg}
use Rattle.kql_syntax.specs.declared.query.TableArg.TheVariants as tablearg
use Rattle.kql_syntax.specs.declared.query.TableOp.{TableOp, fold-roll-TableOp}
use Rattle.kql_syntax.specs.declared.query.TableOp.TheVariants as table
use Rattle.kql_syntax.specs.declared.query.Union.{Union, roll-Union, fold-roll-Union}
use Rattle.kql_parser_laws.specs.Patterns.{all_have, arg_patterns, arg_patterns_step, has_pattern, join_patterns, join_patterns_step, op_patterns, op_patterns_step, partition_patterns, partition_patterns_step, pipe_patterns, pipe_patterns_step, source_patterns, source_patterns_step, table_op_patterns, table_op_patterns_step, union_patterns, union_patterns_step}

pub join_is : (hints : List Hint) (kind : Option (JoinSign × List Hint)) (table : TableArg) (keys : List On) → join_patterns (roll-Join (record { hints = hints; kind = kind; table = table; «on» = keys })) ≡ arg_patterns table
unfolding pipe_patterns op_patterns source_patterns arg_patterns table_op_patterns join_patterns partition_patterns union_patterns
join_is hints kind table keys = fold-roll-Join Bool Bool Bool Bool Bool Bool Bool Bool op_patterns_step source_patterns_step arg_patterns_step table_op_patterns_step join_patterns_step partition_patterns_step pipe_patterns_step union_patterns_step (record { hints = hints; kind = kind; table = table; «on» = keys })

pub partition_is : (hints : List Hint) (column : Name) (ops : List Op) → partition_patterns (roll-Partition (record { hints = hints; column = column; ops = ops })) ≡ all_have (map op_patterns ops)
unfolding pipe_patterns op_patterns source_patterns arg_patterns table_op_patterns join_patterns partition_patterns union_patterns
partition_is hints column ops = fold-roll-Partition Bool Bool Bool Bool Bool Bool Bool Bool op_patterns_step source_patterns_step arg_patterns_step table_op_patterns_step join_patterns_step partition_patterns_step pipe_patterns_step union_patterns_step (record { hints = hints; column = column; ops = ops })

pub pipe_is : (src : Source) (ops : List Op) → pipe_patterns (roll-Pipe (record { source = src; ops = ops })) ≡ (source_patterns src && all_have (map op_patterns ops))
unfolding pipe_patterns op_patterns source_patterns arg_patterns table_op_patterns join_patterns partition_patterns union_patterns
pipe_is src ops = fold-roll-Pipe Bool Bool Bool Bool Bool Bool Bool Bool op_patterns_step source_patterns_step arg_patterns_step table_op_patterns_step join_patterns_step partition_patterns_step pipe_patterns_step union_patterns_step (record { source = src; ops = ops })

pub union_is : (kind : Option UnionKind) (tables : List TableArg) → union_patterns (roll-Union (record { kind = kind; tables = tables })) ≡ all_have (map arg_patterns tables)
unfolding pipe_patterns op_patterns source_patterns arg_patterns table_op_patterns join_patterns partition_patterns union_patterns
union_is kind tables = fold-roll-Union Bool Bool Bool Bool Bool Bool Bool Bool op_patterns_step source_patterns_step arg_patterns_step table_op_patterns_step join_patterns_step partition_patterns_step pipe_patterns_step union_patterns_step (record { kind = kind; tables = tables })

pub columns_is : (o : ColumnOp) → op_patterns (op.Columns o) ≡ true
unfolding pipe_patterns op_patterns source_patterns arg_patterns table_op_patterns join_patterns partition_patterns union_patterns
columns_is o = ap op_patterns (sym (op.rolls-Columns o)) ∙ fold-roll-Op Bool Bool Bool Bool Bool Bool Bool Bool op_patterns_step source_patterns_step arg_patterns_step table_op_patterns_step join_patterns_step partition_patterns_step pipe_patterns_step union_patterns_step (Op-F.Columns o)

pub rows_is : (o : RowOp) → op_patterns (op.Rows o) ≡ true
unfolding pipe_patterns op_patterns source_patterns arg_patterns table_op_patterns join_patterns partition_patterns union_patterns
rows_is o = ap op_patterns (sym (op.rolls-Rows o)) ∙ fold-roll-Op Bool Bool Bool Bool Bool Bool Bool Bool op_patterns_step source_patterns_step arg_patterns_step table_op_patterns_step join_patterns_step partition_patterns_step pipe_patterns_step union_patterns_step (Op-F.Rows o)

pub groups_is : (o : GroupOp) → op_patterns (op.Groups o) ≡ has_pattern o
unfolding pipe_patterns op_patterns source_patterns arg_patterns table_op_patterns join_patterns partition_patterns union_patterns
groups_is o = ap op_patterns (sym (op.rolls-Groups o)) ∙ fold-roll-Op Bool Bool Bool Bool Bool Bool Bool Bool op_patterns_step source_patterns_step arg_patterns_step table_op_patterns_step join_patterns_step partition_patterns_step pipe_patterns_step union_patterns_step (Op-F.Groups o)

pub tables_is : (o : TableOp) → op_patterns (op.Tables o) ≡ table_op_patterns o
unfolding pipe_patterns op_patterns source_patterns arg_patterns table_op_patterns join_patterns partition_patterns union_patterns
tables_is o = ap op_patterns (sym (op.rolls-Tables o)) ∙ fold-roll-Op Bool Bool Bool Bool Bool Bool Bool Bool op_patterns_step source_patterns_step arg_patterns_step table_op_patterns_step join_patterns_step partition_patterns_step pipe_patterns_step union_patterns_step (Op-F.Tables o)

pub source_table_is : (n : Name) → source_patterns (source.Table n) ≡ true
unfolding pipe_patterns op_patterns source_patterns arg_patterns table_op_patterns join_patterns partition_patterns union_patterns
source_table_is n = ap source_patterns (sym (source.rolls-Table n)) ∙ fold-roll-Source Bool Bool Bool Bool Bool Bool Bool Bool op_patterns_step source_patterns_step arg_patterns_step table_op_patterns_step join_patterns_step partition_patterns_step pipe_patterns_step union_patterns_step (Source-F.«Source::Table» n)

pub range_is : (p : Place) (r : Range) → source_patterns (source.Range p r) ≡ true
unfolding pipe_patterns op_patterns source_patterns arg_patterns table_op_patterns join_patterns partition_patterns union_patterns
range_is p r = ap source_patterns (sym (source.rolls-Range p r)) ∙ fold-roll-Source Bool Bool Bool Bool Bool Bool Bool Bool op_patterns_step source_patterns_step arg_patterns_step table_op_patterns_step join_patterns_step partition_patterns_step pipe_patterns_step union_patterns_step (Source-F.Range p r)

pub print_is : (p : Place) (items : List Item) → source_patterns (source.Print p items) ≡ true
unfolding pipe_patterns op_patterns source_patterns arg_patterns table_op_patterns join_patterns partition_patterns union_patterns
print_is p items = ap source_patterns (sym (source.rolls-Print p items)) ∙ fold-roll-Source Bool Bool Bool Bool Bool Bool Bool Bool op_patterns_step source_patterns_step arg_patterns_step table_op_patterns_step join_patterns_step partition_patterns_step pipe_patterns_step union_patterns_step (Source-F.Print p items)

pub source_union_is : (p : Place) (u : Union) → source_patterns (source.Union p u) ≡ union_patterns u
unfolding pipe_patterns op_patterns source_patterns arg_patterns table_op_patterns join_patterns partition_patterns union_patterns
source_union_is p u = ap source_patterns (sym (source.rolls-Union p u)) ∙ fold-roll-Source Bool Bool Bool Bool Bool Bool Bool Bool op_patterns_step source_patterns_step arg_patterns_step table_op_patterns_step join_patterns_step partition_patterns_step pipe_patterns_step union_patterns_step (Source-F.«Source::Union» p u)

pub table_is : (n : Name) → arg_patterns (tablearg.Table n) ≡ true
unfolding pipe_patterns op_patterns source_patterns arg_patterns table_op_patterns join_patterns partition_patterns union_patterns
table_is n = ap arg_patterns (sym (tablearg.rolls-Table n)) ∙ fold-roll-TableArg Bool Bool Bool Bool Bool Bool Bool Bool op_patterns_step source_patterns_step arg_patterns_step table_op_patterns_step join_patterns_step partition_patterns_step pipe_patterns_step union_patterns_step (TableArg-F.«TableArg::Table» n)

pub inner_is : (p : Place) (inner : Pipe) → arg_patterns (tablearg.Pipe p inner) ≡ pipe_patterns inner
unfolding pipe_patterns op_patterns source_patterns arg_patterns table_op_patterns join_patterns partition_patterns union_patterns
inner_is p inner = ap arg_patterns (sym (tablearg.rolls-Pipe p inner)) ∙ fold-roll-TableArg Bool Bool Bool Bool Bool Bool Bool Bool op_patterns_step source_patterns_step arg_patterns_step table_op_patterns_step join_patterns_step partition_patterns_step pipe_patterns_step union_patterns_step (TableArg-F.Pipe p inner)

pub join_op_is : (p : Place) (j : Join) → table_op_patterns (table.Join p j) ≡ join_patterns j
unfolding pipe_patterns op_patterns source_patterns arg_patterns table_op_patterns join_patterns partition_patterns union_patterns
join_op_is p j = ap table_op_patterns (sym (table.rolls-Join p j)) ∙ fold-roll-TableOp Bool Bool Bool Bool Bool Bool Bool Bool op_patterns_step source_patterns_step arg_patterns_step table_op_patterns_step join_patterns_step partition_patterns_step pipe_patterns_step union_patterns_step (TableOp-F.Join p j)

pub lookup_op_is : (p : Place) (j : Join) → table_op_patterns (table.Lookup p j) ≡ join_patterns j
unfolding pipe_patterns op_patterns source_patterns arg_patterns table_op_patterns join_patterns partition_patterns union_patterns
lookup_op_is p j = ap table_op_patterns (sym (table.rolls-Lookup p j)) ∙ fold-roll-TableOp Bool Bool Bool Bool Bool Bool Bool Bool op_patterns_step source_patterns_step arg_patterns_step table_op_patterns_step join_patterns_step partition_patterns_step pipe_patterns_step union_patterns_step (TableOp-F.Lookup p j)

pub union_op_is : (p : Place) (u : Union) → table_op_patterns (table.Union p u) ≡ union_patterns u
unfolding pipe_patterns op_patterns source_patterns arg_patterns table_op_patterns join_patterns partition_patterns union_patterns
union_op_is p u = ap table_op_patterns (sym (table.rolls-Union p u)) ∙ fold-roll-TableOp Bool Bool Bool Bool Bool Bool Bool Bool op_patterns_step source_patterns_step arg_patterns_step table_op_patterns_step join_patterns_step partition_patterns_step pipe_patterns_step union_patterns_step (TableOp-F.«TableOp::Union» p u)

pub scan_op_is : (p : Place) (x : Scan) → table_op_patterns (table.Scan p x) ≡ true
unfolding pipe_patterns op_patterns source_patterns arg_patterns table_op_patterns join_patterns partition_patterns union_patterns
scan_op_is p x = ap table_op_patterns (sym (table.rolls-Scan p x)) ∙ fold-roll-TableOp Bool Bool Bool Bool Bool Bool Bool Bool op_patterns_step source_patterns_step arg_patterns_step table_op_patterns_step join_patterns_step partition_patterns_step pipe_patterns_step union_patterns_step (TableOp-F.Scan p x)

pub partition_op_is : (p : Place) (x : Partition) → table_op_patterns (table.Partition p x) ≡ partition_patterns x
unfolding pipe_patterns op_patterns source_patterns arg_patterns table_op_patterns join_patterns partition_patterns union_patterns
partition_op_is p x = ap table_op_patterns (sym (table.rolls-Partition p x)) ∙ fold-roll-TableOp Bool Bool Bool Bool Bool Bool Bool Bool op_patterns_step source_patterns_step arg_patterns_step table_op_patterns_step join_patterns_step partition_patterns_step pipe_patterns_step union_patterns_step (TableOp-F.Partition p x)

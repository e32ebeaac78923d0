-- What the operators of a tree are, for each of its parts.
use Rattle.std.proofs.Common.{◌≡◌, List, [], ◌∷◌, ◌++◌, map, refl, sym, ap, ◌∙◌}
use Rattle.std.specs.Prelude.{Option, Some, None}
use Rattle.kql_lexer.specs.declared.place.Place.{Place}
use Rattle.kql_syntax.specs.declared.tree.Expr.{Expr}
use Rattle.kql_syntax.specs.declared.tree.Name.{Name}
use Rattle.kql_syntax.specs.declared.query.ColumnOp.{ColumnOp}
use Rattle.kql_syntax.specs.declared.query.RowOp.{RowOp}
use Rattle.kql_syntax.specs.declared.query.GroupOp.{GroupOp}
use Rattle.kql_syntax.specs.declared.query.Hint.{Hint}
use Rattle.kql_syntax.specs.declared.query.Item.{Item}
use Rattle.kql_syntax.specs.declared.query.JoinSign.{JoinSign}
use Rattle.kql_syntax.specs.declared.query.On.{On}
use Rattle.kql_syntax.specs.declared.query.Range.{Range}
use Rattle.kql_syntax.specs.declared.query.Scan.{Scan}
use Rattle.kql_syntax.specs.declared.query.UnionKind.{UnionKind}
use Rattle.kql_syntax.specs.declared.query.Op.TheOpen.{Op-F, Source-F, TableArg-F, TableOp-F}
use Rattle.kql_syntax.specs.declared.query.Join.{Join, roll-Join, fold-roll-Join}
use Rattle.kql_syntax.specs.declared.query.Op.{Op, fold-roll-Op}
use Rattle.kql_syntax.specs.declared.query.Op.TheVariants as op
use Rattle.kql_syntax.specs.declared.query.Partition.{Partition, roll-Partition, fold-roll-Partition}
use Rattle.kql_syntax.specs.declared.query.Pipe.{Pipe, roll-Pipe, fold-roll-Pipe}
use Rattle.kql_syntax.specs.declared.query.Source.{Source, fold-roll-Source}
use Rattle.kql_syntax.specs.declared.query.Source.TheVariants as source
use Rattle.kql_syntax.specs.declared.query.TableArg.{TableArg, fold-roll-TableArg}
use Rattle.kql_syntax.specs.declared.query.TableArg.TheVariants as tablearg
use Rattle.kql_syntax.specs.declared.query.TableOp.{TableOp, fold-roll-TableOp}
use Rattle.kql_syntax.specs.declared.query.TableOp.TheVariants as table
use Rattle.kql_syntax.specs.declared.query.Union.{Union, roll-Union, fold-roll-Union}
use Rattle.kql_parser.specs.Alone.{name_alone}
use Rattle.kql_parser.specs.Query.{body_of, table_or}
use Rattle.kql_parser_laws.specs.OfTree.{Places, joined, column_place, row_place, group_place, in_join, in_op, in_partition, in_pipe, in_source, in_table_arg, in_table_op, in_union, of_join, of_op, of_partition, of_pipe, of_source, of_table_arg, of_table_op, of_union, of_body}

pub join_is : (hints : List Hint) (kind : Option (JoinSign × List Hint)) (table : TableArg) (keys : List On) → of_join (roll-Join (record { hints = hints; kind = kind; table = table; «on» = keys })) ≡ of_table_arg table
unfolding of_join of_op of_partition of_pipe of_source of_table_arg of_table_op of_union
join_is hints kind table keys = fold-roll-Join Places Places Places Places Places Places Places Places in_op in_source in_table_arg in_table_op in_join in_partition in_pipe in_union (record { hints = hints; kind = kind; table = table; «on» = keys })

pub partition_is : (hints : List Hint) (column : Name) (ops : List Op) → of_partition (roll-Partition (record { hints = hints; column = column; ops = ops })) ≡ joined (map of_op ops)
unfolding of_join of_op of_partition of_pipe of_source of_table_arg of_table_op of_union
partition_is hints column ops = fold-roll-Partition Places Places Places Places Places Places Places Places in_op in_source in_table_arg in_table_op in_join in_partition in_pipe in_union (record { hints = hints; column = column; ops = ops })

pub pipe_is : (src : Source) (ops : List Op) → of_pipe (roll-Pipe (record { source = src; ops = ops })) ≡ of_source src ++ joined (map of_op ops)
unfolding of_join of_op of_partition of_pipe of_source of_table_arg of_table_op of_union
pipe_is src ops = fold-roll-Pipe Places Places Places Places Places Places Places Places in_op in_source in_table_arg in_table_op in_join in_partition in_pipe in_union (record { source = src; ops = ops })

pub union_is : (kind : Option UnionKind) (tables : List TableArg) → of_union (roll-Union (record { kind = kind; tables = tables })) ≡ joined (map of_table_arg tables)
unfolding of_join of_op of_partition of_pipe of_source of_table_arg of_table_op of_union
union_is kind tables = fold-roll-Union Places Places Places Places Places Places Places Places in_op in_source in_table_arg in_table_op in_join in_partition in_pipe in_union (record { kind = kind; tables = tables })

pub columns_is : (o : ColumnOp) → of_op (op.Columns o) ≡ column_place o ∷ []
unfolding of_join of_op of_partition of_pipe of_source of_table_arg of_table_op of_union
columns_is o = ap of_op (sym (op.rolls-Columns o)) ∙ fold-roll-Op Places Places Places Places Places Places Places Places in_op in_source in_table_arg in_table_op in_join in_partition in_pipe in_union (Op-F.Columns o)

pub rows_is : (o : RowOp) → of_op (op.Rows o) ≡ row_place o ∷ []
unfolding of_join of_op of_partition of_pipe of_source of_table_arg of_table_op of_union
rows_is o = ap of_op (sym (op.rolls-Rows o)) ∙ fold-roll-Op Places Places Places Places Places Places Places Places in_op in_source in_table_arg in_table_op in_join in_partition in_pipe in_union (Op-F.Rows o)

pub groups_is : (o : GroupOp) → of_op (op.Groups o) ≡ group_place o ∷ []
unfolding of_join of_op of_partition of_pipe of_source of_table_arg of_table_op of_union
groups_is o = ap of_op (sym (op.rolls-Groups o)) ∙ fold-roll-Op Places Places Places Places Places Places Places Places in_op in_source in_table_arg in_table_op in_join in_partition in_pipe in_union (Op-F.Groups o)

pub tables_is : (o : TableOp) → of_op (op.Tables o) ≡ of_table_op o
unfolding of_join of_op of_partition of_pipe of_source of_table_arg of_table_op of_union
tables_is o = ap of_op (sym (op.rolls-Tables o)) ∙ fold-roll-Op Places Places Places Places Places Places Places Places in_op in_source in_table_arg in_table_op in_join in_partition in_pipe in_union (Op-F.Tables o)

pub source_table_is : (n : Name) → of_source (source.Table n) ≡ []
unfolding of_join of_op of_partition of_pipe of_source of_table_arg of_table_op of_union
source_table_is n = ap of_source (sym (source.rolls-Table n)) ∙ fold-roll-Source Places Places Places Places Places Places Places Places in_op in_source in_table_arg in_table_op in_join in_partition in_pipe in_union (Source-F.«Source::Table» n)

pub range_is : (p : Place) (r : Range) → of_source (source.Range p r) ≡ p ∷ []
unfolding of_join of_op of_partition of_pipe of_source of_table_arg of_table_op of_union
range_is p r = ap of_source (sym (source.rolls-Range p r)) ∙ fold-roll-Source Places Places Places Places Places Places Places Places in_op in_source in_table_arg in_table_op in_join in_partition in_pipe in_union (Source-F.Range p r)

pub print_is : (p : Place) (items : List Item) → of_source (source.Print p items) ≡ p ∷ []
unfolding of_join of_op of_partition of_pipe of_source of_table_arg of_table_op of_union
print_is p items = ap of_source (sym (source.rolls-Print p items)) ∙ fold-roll-Source Places Places Places Places Places Places Places Places in_op in_source in_table_arg in_table_op in_join in_partition in_pipe in_union (Source-F.Print p items)

pub source_union_is : (p : Place) (u : Union) → of_source (source.Union p u) ≡ p ∷ of_union u
unfolding of_join of_op of_partition of_pipe of_source of_table_arg of_table_op of_union
source_union_is p u = ap of_source (sym (source.rolls-Union p u)) ∙ fold-roll-Source Places Places Places Places Places Places Places Places in_op in_source in_table_arg in_table_op in_join in_partition in_pipe in_union (Source-F.«Source::Union» p u)

pub table_is : (n : Name) → of_table_arg (tablearg.Table n) ≡ []
unfolding of_join of_op of_partition of_pipe of_source of_table_arg of_table_op of_union
table_is n = ap of_table_arg (sym (tablearg.rolls-Table n)) ∙ fold-roll-TableArg Places Places Places Places Places Places Places Places in_op in_source in_table_arg in_table_op in_join in_partition in_pipe in_union (TableArg-F.«TableArg::Table» n)

pub inner_is : (p : Place) (inner : Pipe) → of_table_arg (tablearg.Pipe p inner) ≡ of_pipe inner
unfolding of_join of_op of_partition of_pipe of_source of_table_arg of_table_op of_union
inner_is p inner = ap of_table_arg (sym (tablearg.rolls-Pipe p inner)) ∙ fold-roll-TableArg Places Places Places Places Places Places Places Places in_op in_source in_table_arg in_table_op in_join in_partition in_pipe in_union (TableArg-F.Pipe p inner)

pub join_op_is : (p : Place) (j : Join) → of_table_op (table.Join p j) ≡ p ∷ of_join j
unfolding of_join of_op of_partition of_pipe of_source of_table_arg of_table_op of_union
join_op_is p j = ap of_table_op (sym (table.rolls-Join p j)) ∙ fold-roll-TableOp Places Places Places Places Places Places Places Places in_op in_source in_table_arg in_table_op in_join in_partition in_pipe in_union (TableOp-F.Join p j)

pub lookup_op_is : (p : Place) (j : Join) → of_table_op (table.Lookup p j) ≡ p ∷ of_join j
unfolding of_join of_op of_partition of_pipe of_source of_table_arg of_table_op of_union
lookup_op_is p j = ap of_table_op (sym (table.rolls-Lookup p j)) ∙ fold-roll-TableOp Places Places Places Places Places Places Places Places in_op in_source in_table_arg in_table_op in_join in_partition in_pipe in_union (TableOp-F.Lookup p j)

pub union_op_is : (p : Place) (u : Union) → of_table_op (table.Union p u) ≡ p ∷ of_union u
unfolding of_join of_op of_partition of_pipe of_source of_table_arg of_table_op of_union
union_op_is p u = ap of_table_op (sym (table.rolls-Union p u)) ∙ fold-roll-TableOp Places Places Places Places Places Places Places Places in_op in_source in_table_arg in_table_op in_join in_partition in_pipe in_union (TableOp-F.«TableOp::Union» p u)

pub scan_op_is : (p : Place) (x : Scan) → of_table_op (table.Scan p x) ≡ p ∷ []
unfolding of_join of_op of_partition of_pipe of_source of_table_arg of_table_op of_union
scan_op_is p x = ap of_table_op (sym (table.rolls-Scan p x)) ∙ fold-roll-TableOp Places Places Places Places Places Places Places Places in_op in_source in_table_arg in_table_op in_join in_partition in_pipe in_union (TableOp-F.Scan p x)

pub partition_op_is : (p : Place) (x : Partition) → of_table_op (table.Partition p x) ≡ p ∷ of_partition x
unfolding of_join of_op of_partition of_pipe of_source of_table_arg of_table_op of_union
partition_op_is p x = ap of_table_op (sym (table.rolls-Partition p x)) ∙ fold-roll-TableOp Places Places Places Places Places Places Places Places in_op in_source in_table_arg in_table_op in_join in_partition in_pipe in_union (TableOp-F.Partition p x)

-- an expression as the body of a let statement has no operator
table_or_is : (e : Expr) (o : Option Name) → of_body (table_or e o) ≡ []
table_or_is e None = refl
table_or_is e (Some n) = pipe_is (source.Table n) [] ∙ ap (λ (ps : Places). ps ++ []) (source_table_is n)

pub body_is : (e : Expr) → of_body (body_of e) ≡ []
body_is e = table_or_is e (name_alone e)

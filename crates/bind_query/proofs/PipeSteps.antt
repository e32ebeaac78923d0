-- The equations of pipes, one for each variant of their parts, and what each part answers.
use Rattle.std.proofs.Common.{◌≡◌, ◌<◌, ◌≤◌, ◌+◌, ◌-◌, ◌++◌, ℕ, List, [], ◌∷◌, drop, take, map, get_or, length, refl, sym, ap, ◌∙◌, subst, arith}
use Rattle.std.specs.Prelude.{Bool, true, false, Ok, Err, fold}
use Rattle.std.proofs.lemmas.List.{take_all}
use Rattle.std.proofs.lemmas.List.Sums.{fold_more}
use Rattle.kql_cells.specs.declared.schema.Column.{Column}
use Rattle.kql_lexer.specs.declared.place.Place.{Place}
use Rattle.kql_syntax.specs.declared.query.ColumnOp.{ColumnOp}
use Rattle.kql_syntax.specs.declared.query.GroupOp.{GroupOp}
use Rattle.kql_syntax.specs.declared.query.Item.{Item}
use Rattle.kql_syntax.specs.declared.query.Join.{Join, fold_out-Join, out-Join}
use Rattle.kql_syntax.specs.declared.query.On.{On}
use Rattle.kql_syntax.specs.declared.query.Op.{Op, fold-roll-Op}
use Rattle.kql_syntax.specs.declared.query.Op.TheOpen.{Op-F, Source-F, TableArg-F, TableOp-F}
use Rattle.kql_syntax.specs.declared.query.Op.TheVariants as OpV
use Rattle.kql_syntax.specs.declared.query.Partition.{Partition, fold_out-Partition, out-Partition}
use Rattle.kql_syntax.specs.declared.query.Pipe.{Pipe, fold_out-Pipe, out-Pipe}
use Rattle.kql_syntax.specs.declared.query.Range.{Range}
use Rattle.kql_syntax.specs.declared.query.RowOp.{RowOp}
use Rattle.kql_syntax.specs.declared.query.Scan.{Scan}
use Rattle.kql_syntax.specs.declared.query.Source.{fold-roll-Source}
use Rattle.kql_syntax.specs.declared.query.Source.TheVariants as SourceV
use Rattle.kql_syntax.specs.declared.query.TableArg.{TableArg, fold-roll-TableArg}
use Rattle.kql_syntax.specs.declared.query.TableArg.TheVariants as ArgV
use Rattle.kql_syntax.specs.declared.query.TableOp.{TableOp, fold-roll-TableOp}
use Rattle.kql_syntax.specs.declared.query.TableOp.TheVariants as TableV
use Rattle.kql_syntax.specs.declared.query.Union.{Union, fold_out-Union, out-Union}
use Rattle.kql_syntax.specs.declared.tree.Name.{Name}
use Rattle.bind_expr.specs.Outcome.{Answers, Outcome, ◌>>=◌}
use Rattle.bind_expr.specs.declared.fault.BindFault.{BindFault}
use Rattle.bind_expr.specs.declared.fault.BindFault.TheVariants as fault
use Rattle.bind_expr.proofs.AnswerFacts.{answers-along, answers-refused, answers-same, goes_along, goes_on, goes_under}
use Rattle.bind_groups.specs.Summarize.{distinct_column}
use Rattle.bind_operators.specs.declared.bound.BoundOp.{BoundOp}
use Rattle.bind_operators.specs.declared.bound.BoundPlan.{BoundPlan}
use Rattle.bind_operators.specs.declared.known.Known.{Known}
use Rattle.bind_operators.specs.declared.shape.Shape.{Shape}
use Rattle.bind_operators.specs.Answers.{apart}
use Rattle.bind_operators.specs.Faults.{each_bound}
use Rattle.bind_operators.specs.Known.{table_bound}
use Rattle.bind_operators.specs.Places.{name_place}
use Rattle.bind_operators.specs.Sources.{print_bound, range_bound}
use Rattle.bind_operators.proofs.AnswerSteps.{passes_on}
use Rattle.bind_query.specs.declared.bound.BoundOps.{BoundOps}
use Rattle.bind_query.specs.Join.{join_bound}
use Rattle.bind_query.specs.Operators.{BindsJoin, BindsPartition, arg_bound, arg_place, arg_read, column_op_bound, group_op_bound, join_read, join_step, op_bound, op_step, ops_bound, partition_read, partition_step, pipe_bound, pipe_step, row_op_bound, source_bound, source_step, table_arg_step, table_op_bound, table_op_step, union_read, union_step}
use Rattle.bind_query.specs.Partition.{partition_bound, partitioned, partitions}
use Rattle.bind_query.specs.Pipes.{BindsArg, BindsOp, BindsPlan, UnionParts, next_op, no_ops, op_added, ops_added, ops_over, piped, with_ops}
use Rattle.bind_query.specs.Scan.{scan_bound}
use Rattle.bind_query.specs.Union.{is_inner, places_of, tables_bound, union_bound, union_source_bound, united, united_behind, unites, unites_behind}

-- Lists of parts.

-- A fold over what is made of each part.
fold-map : {X Y Z : Type 0} (f : Z → Y → Z) (g : X → Y) (z : Z) (xs : List X) → fold f z (map g xs) ≡ fold (λ a x. f a (g x)) z xs
fold-map f g z [] = refl
fold-map f g z (x ∷ xs) = fold-map f g (f z (g x)) xs

-- What stands behind the first of a list.
behind-first : {X : Type 0} (xs : List X) → take (length xs - 1) (drop 1 xs) ≡ drop 1 xs
behind-first [] = refl
behind-first (x ∷ xs) = let less : length (x ∷ xs) - 1 ≡ length xs = omega arith in rw less (take_all (length xs) xs (omega arith))

-- Operators.

pub op-Columns : (o : ColumnOp) (known : Known) (inside : Bool) (rows : Shape) → op_bound (OpV.Columns o) known inside rows ≡ column_op_bound o known rows
unfolding op_bound source_bound arg_read table_op_bound join_read partition_read pipe_bound union_read
op-Columns o known inside rows = ap (λ (f : BindsOp). f known inside rows) (ap op_bound (sym (OpV.rolls-Columns o)) ∙ fold-roll-Op BindsOp BindsPlan BindsArg BindsOp BindsJoin BindsPartition BindsPlan UnionParts op_step source_step table_arg_step table_op_step join_step partition_step pipe_step union_step (Op-F.Columns o))

pub op-Rows : (o : RowOp) (known : Known) (inside : Bool) (rows : Shape) → op_bound (OpV.Rows o) known inside rows ≡ row_op_bound o known (apart rows)
unfolding op_bound source_bound arg_read table_op_bound join_read partition_read pipe_bound union_read
op-Rows o known inside rows = ap (λ (f : BindsOp). f known inside rows) (ap op_bound (sym (OpV.rolls-Rows o)) ∙ fold-roll-Op BindsOp BindsPlan BindsArg BindsOp BindsJoin BindsPartition BindsPlan UnionParts op_step source_step table_arg_step table_op_step join_step partition_step pipe_step union_step (Op-F.Rows o))

pub op-Groups : (o : GroupOp) (known : Known) (inside : Bool) (rows : Shape) → op_bound (OpV.Groups o) known inside rows ≡ group_op_bound o known (apart rows)
unfolding op_bound source_bound arg_read table_op_bound join_read partition_read pipe_bound union_read
op-Groups o known inside rows = ap (λ (f : BindsOp). f known inside rows) (ap op_bound (sym (OpV.rolls-Groups o)) ∙ fold-roll-Op BindsOp BindsPlan BindsArg BindsOp BindsJoin BindsPartition BindsPlan UnionParts op_step source_step table_arg_step table_op_step join_step partition_step pipe_step union_step (Op-F.Groups o))

pub op-Tables : (o : TableOp) (known : Known) (inside : Bool) (rows : Shape) → op_bound (OpV.Tables o) known inside rows ≡ table_op_bound o known inside (apart rows)
unfolding op_bound source_bound arg_read table_op_bound join_read partition_read pipe_bound union_read
op-Tables o known inside rows = ap (λ (f : BindsOp). f known inside rows) (ap op_bound (sym (OpV.rolls-Tables o)) ∙ fold-roll-Op BindsOp BindsPlan BindsArg BindsOp BindsJoin BindsPartition BindsPlan UnionParts op_step source_step table_arg_step table_op_step join_step partition_step pipe_step union_step (Op-F.Tables o))

pub ruleset op_steps = (op-Columns, op-Rows, op-Groups, op-Tables)

pub table-Join : (operator : Place) (j : Join) (known : Known) (inside : Bool) (rows : Shape) → table_op_bound (TableV.Join operator j) known inside rows ≡ join_read j operator false known inside rows
unfolding op_bound source_bound arg_read table_op_bound join_read partition_read pipe_bound union_read
table-Join operator j known inside rows = ap (λ (f : BindsOp). f known inside rows) (ap table_op_bound (sym (TableV.rolls-Join operator j)) ∙ fold-roll-TableOp BindsOp BindsPlan BindsArg BindsOp BindsJoin BindsPartition BindsPlan UnionParts op_step source_step table_arg_step table_op_step join_step partition_step pipe_step union_step (TableOp-F.Join operator j))

pub table-Lookup : (operator : Place) (j : Join) (known : Known) (inside : Bool) (rows : Shape) → table_op_bound (TableV.Lookup operator j) known inside rows ≡ join_read j operator true known inside rows
unfolding op_bound source_bound arg_read table_op_bound join_read partition_read pipe_bound union_read
table-Lookup operator j known inside rows = ap (λ (f : BindsOp). f known inside rows) (ap table_op_bound (sym (TableV.rolls-Lookup operator j)) ∙ fold-roll-TableOp BindsOp BindsPlan BindsArg BindsOp BindsJoin BindsPartition BindsPlan UnionParts op_step source_step table_arg_step table_op_step join_step partition_step pipe_step union_step (TableOp-F.Lookup operator j))

pub table-Union : (operator : Place) (u : Union) (known : Known) (inside : Bool) (rows : Shape) → table_op_bound (TableV.Union operator u) known inside rows ≡ union_bound operator (union_read u) known inside rows
unfolding op_bound source_bound arg_read table_op_bound join_read partition_read pipe_bound union_read
table-Union operator u known inside rows = ap (λ (f : BindsOp). f known inside rows) (ap table_op_bound (sym (TableV.rolls-Union operator u)) ∙ fold-roll-TableOp BindsOp BindsPlan BindsArg BindsOp BindsJoin BindsPartition BindsPlan UnionParts op_step source_step table_arg_step table_op_step join_step partition_step pipe_step union_step (TableOp-F.«TableOp::Union» operator u))

pub table-Scan : (operator : Place) (s : Scan) (known : Known) (inside : Bool) (rows : Shape) → table_op_bound (TableV.Scan operator s) known inside rows ≡ scan_bound operator s known rows
unfolding op_bound source_bound arg_read table_op_bound join_read partition_read pipe_bound union_read
table-Scan operator s known inside rows = ap (λ (f : BindsOp). f known inside rows) (ap table_op_bound (sym (TableV.rolls-Scan operator s)) ∙ fold-roll-TableOp BindsOp BindsPlan BindsArg BindsOp BindsJoin BindsPartition BindsPlan UnionParts op_step source_step table_arg_step table_op_step join_step partition_step pipe_step union_step (TableOp-F.Scan operator s))

pub table-Partition : (operator : Place) (p : Partition) (known : Known) (inside : Bool) (rows : Shape) → table_op_bound (TableV.Partition operator p) known inside rows ≡ partition_read p operator known inside rows
unfolding op_bound source_bound arg_read table_op_bound join_read partition_read pipe_bound union_read
table-Partition operator p known inside rows = ap (λ (f : BindsOp). f known inside rows) (ap table_op_bound (sym (TableV.rolls-Partition operator p)) ∙ fold-roll-TableOp BindsOp BindsPlan BindsArg BindsOp BindsJoin BindsPartition BindsPlan UnionParts op_step source_step table_arg_step table_op_step join_step partition_step pipe_step union_step (TableOp-F.Partition operator p))

pub ruleset table_op_steps = (table-Join, table-Lookup, table-Union, table-Scan, table-Partition)

-- Sources.

pub source-Table : (n : Name) (known : Known) (inside : Bool) → source_bound (SourceV.Table n) known inside ≡ table_bound known n
unfolding op_bound source_bound arg_read table_op_bound join_read partition_read pipe_bound union_read
source-Table n known inside = ap (λ (f : BindsPlan). f known inside) (ap source_bound (sym (SourceV.rolls-Table n)) ∙ fold-roll-Source BindsOp BindsPlan BindsArg BindsOp BindsJoin BindsPartition BindsPlan UnionParts op_step source_step table_arg_step table_op_step join_step partition_step pipe_step union_step (Source-F.«Source::Table» n))

pub source-Range : (operator : Place) (r : Range) (known : Known) (inside : Bool) → source_bound (SourceV.Range operator r) known inside ≡ range_bound operator r known
unfolding op_bound source_bound arg_read table_op_bound join_read partition_read pipe_bound union_read
source-Range operator r known inside = ap (λ (f : BindsPlan). f known inside) (ap source_bound (sym (SourceV.rolls-Range operator r)) ∙ fold-roll-Source BindsOp BindsPlan BindsArg BindsOp BindsJoin BindsPartition BindsPlan UnionParts op_step source_step table_arg_step table_op_step join_step partition_step pipe_step union_step (Source-F.Range operator r))

pub source-Print : (operator : Place) (items : List Item) (known : Known) (inside : Bool) → source_bound (SourceV.Print operator items) known inside ≡ print_bound operator items known
unfolding op_bound source_bound arg_read table_op_bound join_read partition_read pipe_bound union_read
source-Print operator items known inside = ap (λ (f : BindsPlan). f known inside) (ap source_bound (sym (SourceV.rolls-Print operator items)) ∙ fold-roll-Source BindsOp BindsPlan BindsArg BindsOp BindsJoin BindsPartition BindsPlan UnionParts op_step source_step table_arg_step table_op_step join_step partition_step pipe_step union_step (Source-F.Print operator items))

pub source-Union : (operator : Place) (u : Union) (known : Known) (inside : Bool) → source_bound (SourceV.Union operator u) known inside ≡ union_source_bound operator (union_read u) known inside
unfolding op_bound source_bound arg_read table_op_bound join_read partition_read pipe_bound union_read
source-Union operator u known inside = ap (λ (f : BindsPlan). f known inside) (ap source_bound (sym (SourceV.rolls-Union operator u)) ∙ fold-roll-Source BindsOp BindsPlan BindsArg BindsOp BindsJoin BindsPartition BindsPlan UnionParts op_step source_step table_arg_step table_op_step join_step partition_step pipe_step union_step (Source-F.«Source::Union» operator u))

pub ruleset source_steps = (source-Table, source-Range, source-Print, source-Union)

-- Table arguments.

read-Table : (n : Name) → arg_read (ArgV.Table n) ≡ (name_place n, λ known inside. table_bound known n)
unfolding op_bound source_bound arg_read table_op_bound join_read partition_read pipe_bound union_read
read-Table n = ap arg_read (sym (ArgV.rolls-Table n)) ∙ fold-roll-TableArg BindsOp BindsPlan BindsArg BindsOp BindsJoin BindsPartition BindsPlan UnionParts op_step source_step table_arg_step table_op_step join_step partition_step pipe_step union_step (TableArg-F.«TableArg::Table» n)

read-Pipe : (place : Place) (p : Pipe) → arg_read (ArgV.Pipe place p) ≡ (place, pipe_bound p)
unfolding op_bound source_bound arg_read table_op_bound join_read partition_read pipe_bound union_read
read-Pipe place p = ap arg_read (sym (ArgV.rolls-Pipe place p)) ∙ fold-roll-TableArg BindsOp BindsPlan BindsArg BindsOp BindsJoin BindsPartition BindsPlan UnionParts op_step source_step table_arg_step table_op_step join_step partition_step pipe_step union_step (TableArg-F.Pipe place p)

pub arg-Table : (known : Known) (inside : Bool) (n : Name) → arg_bound known inside (ArgV.Table n) ≡ table_bound known n
unfolding arg_bound
arg-Table known inside n = ap (λ (a : BindsArg). a.1 known inside) (read-Table n)

pub arg-Pipe : (known : Known) (inside : Bool) (place : Place) (p : Pipe) → arg_bound known inside (ArgV.Pipe place p) ≡ pipe_bound p known inside
unfolding arg_bound
arg-Pipe known inside place p = ap (λ (a : BindsArg). a.1 known inside) (read-Pipe place p)

pub place-Table : (n : Name) → arg_place (ArgV.Table n) ≡ name_place n
unfolding arg_place
place-Table n = ap (λ (a : BindsArg). a.0) (read-Table n)

pub place-Pipe : (place : Place) (p : Pipe) → arg_place (ArgV.Pipe place p) ≡ place
unfolding arg_place
place-Pipe place p = ap (λ (a : BindsArg). a.0) (read-Pipe place p)

pub ruleset arg_steps = (arg-Table, arg-Pipe)

pub ruleset place_steps = (place-Table, place-Pipe)

-- Operators one after another.

ops-read : (ops : List Op) (known : Known) (inside : Bool) (rows : Shape) → ops_over (map op_bound ops) known inside rows ≡ ops_bound ops known inside rows
unfolding ops_over ops_bound
ops-read ops known inside rows = fold-map (λ before (op : BindsOp). next_op op known inside before) op_bound (Ok (no_ops rows)) ops

pub ops-start : (known : Known) (inside : Bool) (rows : Shape) (done : BoundOps) → done ≡ no_ops rows → Answers (Ok done) (ops_bound [] known inside rows)
unfolding ops_bound
ops-start known inside rows done is = record { holds = ap (λ d. Ok d) (sym is) }

pub ops-turn : (ops : List Op) (known : Known) (inside : Bool) (rows : Shape) (i : ℕ) (d : Op) (before result : Outcome BoundOps) → i < length ops → Answers before (ops_bound (take i ops) known inside rows) → Answers result (next_op (op_bound (get_or ops i d)) known inside before) → Answers result (ops_bound (take (i + 1) ops) known inside rows)
unfolding ops_bound next_op
ops-turn ops known inside rows i d before result l a h =
    let first : Outcome BoundOps = ops_bound (take i ops) known inside rows in
    let one = goes_along (λ b. next_op (op_bound (get_or ops i d)) known inside b) refl before first result a h in
    answers-along result (next_op (op_bound (get_or ops i d)) known inside first) (ops_bound (take (i + 1) ops) known inside rows) one
    (sym (fold_more (λ before (op : Op). next_op (op_bound op) known inside before) (Ok (no_ops rows)) ops i d l))

pub ruleset ops_steps = (ops-start, ops-turn)

pub next-added : (op : BindsOp) (known : Known) (inside : Bool) (before : Outcome BoundOps) (done : BoundOps) (next : Outcome BoundOp) (result : Outcome BoundOps) → before ≡ Ok done → Answers next (op known inside done.after) → Answers result (op_added done.ops next) → Answers result (next_op op known inside before)
unfolding next_op op_added
next-added op known inside before done next result is a h =
    rw is (goes_on next (op known inside done.after) (λ b. Ok (record { ops = done.ops ++ b.op ∷ []; after = b.after })) result a h)

pub next-fault : (op : BindsOp) (known : Known) (inside : Bool) (before : Outcome BoundOps) (f : BindFault) → before ≡ Err f → Answers (Err f) (next_op op known inside before)
unfolding next_op
next-fault op known inside before f is = rw is (answers-same {X = BoundOps} (Err f) (Err f) refl)

pub ruleset next_steps = (next-added, next-fault)

-- Pipes.

pipe-is : (p : Pipe) (known : Known) (inside : Bool) → pipe_bound p known inside ≡ piped (source_bound (out-Pipe p).source known inside) (map op_bound (out-Pipe p).ops) known inside
unfolding op_bound source_bound arg_read table_op_bound join_read partition_read pipe_bound union_read
pipe-is p known inside = ap (λ (f : BindsPlan). f known inside) (fold_out-Pipe BindsOp BindsPlan BindsArg BindsOp BindsJoin BindsPartition BindsPlan UnionParts op_step source_step table_arg_step table_op_step join_step partition_step pipe_step union_step p)

-- A source that stands, and the operators behind it.
piped-through : (source : BoundPlan) (ops : List Op) (known : Known) (inside : Bool) (behind : Outcome BoundOps) (result : Outcome BoundPlan) → Answers behind (ops_bound ops known inside source.after) → Answers result (ops_added source.plan behind) → Answers result (piped (Ok source) (map op_bound ops) known inside)
unfolding piped ops_added with_ops
piped-through source ops known inside behind result a h =
    let there : Answers behind (ops_over (map op_bound ops) known inside source.after) = answers-along behind (ops_bound ops known inside source.after) (ops_over (map op_bound ops) known inside source.after) a (sym (ops-read ops known inside source.after)) in
    goes_on behind (ops_over (map op_bound ops) known inside source.after) (λ (done : BoundOps). Ok (with_ops source done)) result there h

pub pipe-answers : (p : Pipe) (known : Known) (inside : Bool) (r : Outcome BoundPlan) (source : BoundPlan) (ops : List Op) (behind : Outcome BoundOps) (result : Outcome BoundPlan) → r ≡ Ok source → ops ≡ (out-Pipe p).ops → Answers r (source_bound (out-Pipe p).source known inside) → Answers behind (ops_bound ops known inside source.after) → Answers result (ops_added source.plan behind) → Answers result (pipe_bound p known inside)
pipe-answers p known inside r source ops behind result is same a b h =
    let there : Answers (Ok source) (source_bound (out-Pipe p).source known inside) = subst (λ s. Answers s (source_bound (out-Pipe p).source known inside)) is a in
    answers-along result (piped (Ok source) (map op_bound ops) known inside) (pipe_bound p known inside) (piped-through source ops known inside behind result b h)
    (ap (λ (s : Outcome BoundPlan). piped s (map op_bound ops) known inside) (sym (there.holds))
    ∙ (ap (λ (os : List Op). piped (source_bound (out-Pipe p).source known inside) (map op_bound os) known inside) same
    ∙ sym (pipe-is p known inside)))

pub pipe-fault : (p : Pipe) (known : Known) (inside : Bool) (r : Outcome BoundPlan) (f : BindFault) → r ≡ Err f → Answers r (source_bound (out-Pipe p).source known inside) → Answers (Err f) (pipe_bound p known inside)
unfolding piped
pipe-fault p known inside r f is a =
    answers-along (Err f) (piped (source_bound (out-Pipe p).source known inside) (map op_bound (out-Pipe p).ops) known inside) (pipe_bound p known inside)
    (passes_on r (source_bound (out-Pipe p).source known inside) f (λ (s : BoundPlan). ops_over (map op_bound (out-Pipe p).ops) known inside s.after >>= λ done. Ok (with_ops s done)) is a)
    (sym (pipe-is p known inside))

pub ruleset pipe_steps = (pipe-answers, pipe-fault)

-- Joins.

join-is : (j : Join) (operator : Place) (lookup : Bool) (known : Known) (inside : Bool) (rows : Shape) → join_read j operator lookup known inside rows ≡ join_bound operator lookup (out-Join j).kind (out-Join j).on known inside rows (arg_bound known inside (out-Join j).table)
unfolding op_bound source_bound arg_read table_op_bound join_read partition_read pipe_bound union_read arg_bound
join-is j operator lookup known inside rows = ap (λ (f : BindsJoin). f operator lookup known inside rows) (fold_out-Join BindsOp BindsPlan BindsArg BindsOp BindsJoin BindsPartition BindsPlan UnionParts op_step source_step table_arg_step table_op_step join_step partition_step pipe_step union_step j)

pub join-answers : (j : Join) (operator : Place) (lookup : Bool) (keys : List On) (known : Known) (inside : Bool) (rows : Shape) (right : Outcome BoundPlan) (result : Outcome BoundOp) → keys ≡ (out-Join j).on → Answers right (arg_bound known inside (out-Join j).table) → Answers result (join_bound operator lookup (out-Join j).kind keys known inside rows right) → Answers result (join_read j operator lookup known inside rows)
unfolding join_bound
join-answers j operator lookup keys known inside rows right result same a h =
    let d : Outcome BoundPlan = arg_bound known inside (out-Join j).table in
    answers-along result (join_bound operator lookup (out-Join j).kind keys known inside rows d) (join_read j operator lookup known inside rows)
    (goes_along (λ r. join_bound operator lookup (out-Join j).kind keys known inside rows r) refl right d result a h)
    (ap (λ (ks : List On). join_bound operator lookup (out-Join j).kind ks known inside rows d) same ∙ sym (join-is j operator lookup known inside rows))

pub ruleset join_steps = (join-answers)

-- Unions.

union-is : (u : Union) → union_read u ≡ (is_inner (out-Union u).kind, map arg_read (out-Union u).tables)
unfolding op_bound source_bound arg_read table_op_bound join_read partition_read pipe_bound union_read
union-is u = fold_out-Union BindsOp BindsPlan BindsArg BindsOp BindsJoin BindsPartition BindsPlan UnionParts op_step source_step table_arg_step table_op_step join_step partition_step pipe_step union_step u

tables-read : (tables : List TableArg) (known : Known) (inside : Bool) → tables_bound (map arg_read tables) known inside ≡ each_bound (arg_bound known inside) tables
unfolding tables_bound each_bound arg_bound
tables-read tables known inside = fold-map (λ before (t : BindsArg). before >>= λ xs. t.1 known inside >>= λ x. Ok (xs ++ x ∷ [])) arg_read (Ok []) tables

places-read : (tables : List TableArg) → places_of (map arg_read tables) ≡ map arg_place tables
unfolding arg_place
places-read [] = refl
places-read (t ∷ ts) = ap (λ ps. (arg_read t).0 ∷ ps) (places-read ts)

pub union-answers : (u : Union) (operator : Place) (known : Known) (inside inner : Bool) (rows : Shape) (tables : List TableArg) (others : Outcome (List BoundPlan)) (result : Outcome BoundOp) → tables ≡ (out-Union u).tables → inner ≡ is_inner (out-Union u).kind → Answers others (each_bound (arg_bound known inside) tables) → Answers result (unites operator inside inner rows (map arg_place tables) others) → Answers result (union_bound operator (union_read u) known inside rows)
unfolding unites union_bound
union-answers u operator known inside inner rows tables others result same kind a h =
    let one = goes_on others (each_bound (arg_bound known inside) tables) (λ os. united operator inside inner rows (map arg_place tables) os) result a h in
    answers-along result (unites operator inside inner rows (map arg_place tables) (each_bound (arg_bound known inside) tables)) (union_bound operator (union_read u) known inside rows) one
    (ap (λ (os : Outcome (List BoundPlan)). unites operator inside inner rows (map arg_place tables) os) (sym (tables-read tables known inside))
    ∙ (ap (λ (ps : List Place). unites operator inside inner rows ps (tables_bound (map arg_read tables) known inside)) (sym (places-read tables))
    ∙ (ap (λ (b : Bool). union_bound operator (b, map arg_read tables) known inside rows) kind
    ∙ (ap (λ (ts : List TableArg). union_bound operator (is_inner (out-Union u).kind, map arg_read ts) known inside rows) same
    ∙ ap (λ (parts : UnionParts). union_bound operator parts known inside rows) (sym (union-is u))))))

pub ruleset union_steps = (union-answers)

no-tables : (operator : Place) (inner : Bool) (tables : List TableArg) (known : Known) (inside : Bool) → length tables ≡ 0 → union_source_bound operator (inner, map arg_read tables) known inside ≡ Err (fault.Refused 419 operator)
unfolding union_source_bound
no-tables operator inner [] known inside e = refl
no-tables operator inner (t ∷ ts) known inside e = absurd (omega (arith, e))

pub union-source-none : (u : Union) (operator : Place) (known : Known) (inside : Bool) (tables : List TableArg) → tables ≡ (out-Union u).tables → length tables ≡ 0 → Answers (Err (fault.Refused 419 operator)) (union_source_bound operator (union_read u) known inside)
union-source-none u operator known inside tables same none =
    answers-refused (union_source_bound operator (union_read u) known inside) 419 operator
    (ap (λ (parts : UnionParts). union_source_bound operator parts known inside) (union-is u)
    ∙ no-tables operator (is_inner (out-Union u).kind) (out-Union u).tables known inside (ap (λ (ts : List TableArg). length ts) (sym same) ∙ none))

some-tables : (operator : Place) (inner : Bool) (tables : List TableArg) (t : TableArg) (known : Known) (inside : Bool) (first : Outcome BoundPlan) (others : Outcome (List BoundPlan)) (result : Outcome BoundPlan) → 1 ≤ length tables → t ≡ get_or tables 0 t → Answers first (arg_bound known inside t) → Answers others (each_bound (arg_bound known inside) (drop 1 tables)) → Answers result (unites_behind operator inside inner (map arg_place (drop 1 tables)) first others) → Answers result (union_source_bound operator (inner, map arg_read tables) known inside)
unfolding union_source_bound unites_behind united_behind arg_bound
some-tables operator inner [] t known inside first others result long head a b h = absurd (omega (arith, long))
some-tables operator inner (x ∷ xs) t known inside first others result long head a b h =
    let k : BoundPlan → List BoundPlan → Outcome BoundPlan = λ f os. united_behind operator inside inner (map arg_place xs) f os in
    let d : Outcome BoundPlan = arg_bound known inside x in
    let ds : Outcome (List BoundPlan) = each_bound (arg_bound known inside) xs in
    let here : Answers first d = subst (λ (y : TableArg). Answers first (arg_bound known inside y)) head a in
    let one = goes_on first d (λ f. others >>= λ os. k f os) result here h in
    let two = goes_under d others ds k result b one in
    answers-along result (unites_behind operator inside inner (map arg_place xs) d ds) (union_source_bound operator (inner, map arg_read (x ∷ xs)) known inside) two
    (ap (λ (os : Outcome (List BoundPlan)). unites_behind operator inside inner (map arg_place xs) d os) (sym (tables-read xs known inside))
    ∙ ap (λ (ps : List Place). unites_behind operator inside inner ps d (tables_bound (map arg_read xs) known inside)) (sym (places-read xs)))

pub union-source-some : (u : Union) (operator : Place) (known : Known) (inside inner : Bool) (tables : List TableArg) (t : TableArg) (first : Outcome BoundPlan) (others : Outcome (List BoundPlan)) (result : Outcome BoundPlan) → tables ≡ (out-Union u).tables → 1 ≤ length tables → t ≡ get_or tables 0 t → inner ≡ is_inner (out-Union u).kind → Answers first (arg_bound known inside t) → Answers others (each_bound (arg_bound known inside) (take (length tables - 1) (drop 1 tables))) → Answers result (unites_behind operator inside inner (map arg_place (take (length tables - 1) (drop 1 tables))) first others) → Answers result (union_source_bound operator (union_read u) known inside)
union-source-some u operator known inside inner tables t first others result same long head kind a b h =
    let behind : Answers others (each_bound (arg_bound known inside) (drop 1 tables)) = subst (λ (ts : List TableArg). Answers others (each_bound (arg_bound known inside) ts)) (behind-first tables) b in
    let whole : Answers result (unites_behind operator inside inner (map arg_place (drop 1 tables)) first others) = subst (λ (ts : List TableArg). Answers result (unites_behind operator inside inner (map arg_place ts) first others)) (behind-first tables) h in
    answers-along result (union_source_bound operator (inner, map arg_read tables) known inside) (union_source_bound operator (union_read u) known inside)
    (some-tables operator inner tables t known inside first others result long head a behind whole)
    (ap (λ (b : Bool). union_source_bound operator (b, map arg_read tables) known inside) kind
    ∙ (ap (λ (ts : List TableArg). union_source_bound operator (is_inner (out-Union u).kind, map arg_read ts) known inside) same
    ∙ ap (λ (parts : UnionParts). union_source_bound operator parts known inside) (sym (union-is u))))

pub ruleset union_source_steps = (union-source-none, union-source-some)

-- Partitions.

partition-is : (p : Partition) (operator : Place) (known : Known) (inside : Bool) (rows : Shape) → partition_read p operator known inside rows ≡ partition_bound operator (out-Partition p).column (map op_bound (out-Partition p).ops) known inside rows
unfolding op_bound source_bound arg_read table_op_bound join_read partition_read pipe_bound union_read
partition-is p operator known inside rows = ap (λ (f : BindsPartition). f operator known inside rows) (fold_out-Partition BindsOp BindsPlan BindsArg BindsOp BindsJoin BindsPartition BindsPlan UnionParts op_step source_step table_arg_step table_op_step join_step partition_step pipe_step union_step p)

pub partition-answers : (p : Partition) (operator : Place) (known : Known) (inside : Bool) (rows : Shape) (ops : List Op) (key : Outcome Column) (done : Outcome BoundOps) (result : Outcome BoundOp) → ops ≡ (out-Partition p).ops → Answers key (distinct_column operator known rows (out-Partition p).column) → Answers done (ops_bound ops known true rows) → Answers result (partitions operator inside key done) → Answers result (partition_read p operator known inside rows)
unfolding partitions partition_bound
partition-answers p operator known inside rows ops key done result same a b h =
    let k : Column → BoundOps → Outcome BoundOp = λ c d. partitioned operator inside c d in
    let column : Outcome Column = distinct_column operator known rows (out-Partition p).column in
    let all : Outcome BoundOps = ops_bound ops known true rows in
    let one = goes_on key column (λ c. done >>= λ d. k c d) result a h in
    let two = goes_under column done all k result b one in
    answers-along result (partitions operator inside column all) (partition_read p operator known inside rows) two
    (ap (λ (os : Outcome BoundOps). partitions operator inside column os) (sym (ops-read ops known true rows))
    ∙ (ap (λ (os : List Op). partitions operator inside column (ops_over (map op_bound os) known true rows)) same
    ∙ sym (partition-is p operator known inside rows)))

pub ruleset partition_steps = (partition-answers)

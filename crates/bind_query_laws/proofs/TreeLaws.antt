-- Every operator and every pipe of a query is bound to what is sound: by induction over the syntax tree.
use Rattle.std.proofs.Common.{◌≡◌, List, [], ◌∷◌, refl, sym, ◌∙◌, subst, map}
use Rattle.std.specs.Prelude.{Bool, true, false, Option}
use Rattle.std.specs.List.{AllByRecursion}
use Rattle.std.proofs.lemmas.Bool.{and_parts}
use Rattle.kql_lexer.specs.declared.place.Place.{Place}
use Rattle.kql_meaning.specs.FittingOperators.{is_empty}
use Rattle.kql_syntax.specs.declared.query.ColumnOp.{ColumnOp}
use Rattle.kql_syntax.specs.declared.query.ColumnOp.TheVariants as column
use Rattle.kql_syntax.specs.declared.query.Distinct.{Distinct}
use Rattle.kql_syntax.specs.declared.query.Expand.{Expand}
use Rattle.kql_syntax.specs.declared.query.ExpandKind.{ExpandKind}
use Rattle.kql_syntax.specs.declared.query.GroupOp.{GroupOp}
use Rattle.kql_syntax.specs.declared.query.GroupOp.TheVariants as group
use Rattle.kql_syntax.specs.declared.query.Hint.{Hint}
use Rattle.kql_syntax.specs.declared.query.Join.{Join, fold-roll-Join, map-Join, roll-Join}
use Rattle.kql_syntax.specs.declared.query.JoinSign.{JoinSign}
use Rattle.kql_syntax.specs.declared.query.MakeSeries.{MakeSeries}
use Rattle.kql_syntax.specs.declared.query.On.{On}
use Rattle.kql_syntax.specs.declared.query.Op.{Op, fold-roll-Op, map-Op, roll-Op}
use Rattle.kql_syntax.specs.declared.query.Op.TheOpen.{Join-F, Op-F, Partition-F, Pipe-F, Source-F, TableArg-F, TableOp-F, Union-F}
use Rattle.kql_syntax.specs.declared.query.ParseKind.{ParseKind}
use Rattle.kql_syntax.specs.declared.query.Partition.{Partition, fold-roll-Partition, map-Partition, roll-Partition}
use Rattle.kql_syntax.specs.declared.query.Pat.{Pat}
use Rattle.kql_syntax.specs.declared.query.Pipe.{Pipe, fold-roll-Pipe, ind-Pipe, map-Pipe, roll-Pipe}
use Rattle.kql_syntax.specs.declared.query.RowOp.{RowOp}
use Rattle.kql_syntax.specs.declared.query.RowOp.TheVariants as row
use Rattle.kql_syntax.specs.declared.query.Scan.{Scan}
use Rattle.kql_syntax.specs.declared.query.Source.{Source, fold-roll-Source, map-Source, roll-Source}
use Rattle.kql_syntax.specs.declared.query.Summarize.{Summarize}
use Rattle.kql_syntax.specs.declared.query.TableArg.{TableArg, fold-roll-TableArg, map-TableArg, roll-TableArg}
use Rattle.kql_syntax.specs.declared.query.TableOp.{TableOp, fold-roll-TableOp, map-TableOp, roll-TableOp}
use Rattle.kql_syntax.specs.declared.query.Union.{Union, fold-roll-Union, map-Union, roll-Union}
use Rattle.kql_syntax.specs.declared.tree.Expr.{Expr}
use Rattle.kql_syntax.specs.declared.tree.Name.{Name}
use Rattle.bind_groups.specs.MakeSeries.{make_series_bound}
use Rattle.bind_groups.specs.MvExpand.{mv_expand_bound}
use Rattle.bind_groups.specs.Parse.{parse_bound}
use Rattle.bind_groups.specs.Summarize.{distinct_bound, summarize_bound}
use Rattle.bind_query.specs.Join.{join_bound}
use Rattle.bind_query.specs.Operators.{BindsJoin, BindsPartition, arg_read, column_op_bound, group_op_bound, join_read, join_step, op_bound, op_step, partition_read, partition_step, pipe_bound, pipe_step, row_op_bound, source_bound, source_step, table_arg_step, table_op_bound, table_op_step, union_read, union_step}
use Rattle.bind_query.specs.Partition.{partition_bound}
use Rattle.bind_query.specs.Pipes.{BindsArg, BindsOp, BindsPlan, UnionParts}
use Rattle.bind_query.specs.Scan.{scan_bound}
use Rattle.bind_query.specs.Union.{union_bound, union_source_bound}
use Rattle.kql_parser_laws.specs.Patterns.{all_have, arg_patterns, arg_patterns_step, has_items, has_pattern, join_patterns, join_patterns_step, op_patterns, op_patterns_step, partition_patterns, partition_patterns_step, pipe_patterns, pipe_patterns_step, source_patterns, source_patterns_step, table_op_patterns, table_op_patterns_step, union_patterns, union_patterns_step}
use Rattle.bind_query_laws.proofs.Frame.{not-true}
use Rattle.bind_query_laws.proofs.ExtendLaws.{extend_sound, serialize_sound}
use Rattle.bind_query_laws.proofs.PipeLaws.{SoundOp, SoundPlan, piped_sound}
use Rattle.bind_query_laws.proofs.ProjectLaws.{project_away_sound, project_keep_sound, project_rename_sound, project_sound}
use Rattle.bind_query_laws.proofs.SortLaws.{sort_sound, top_sound}
use Rattle.bind_query_laws.proofs.SourceLaws.{print_sound, range_sound, table_sound}
use Rattle.bind_query_laws.proofs.TakeAndCountLaws.{count_sound, take_sound}
use Rattle.bind_query_laws.proofs.WhereLaws.{where_sound}
use Rattle.bind_operators.specs.Answers.{apart}
use Rattle.bind_operators.specs.declared.bound.BoundOp.{BoundOp}
use Rattle.bind_operators.specs.declared.known.Known.{Known}
use Rattle.bind_operators.specs.declared.shape.Shape.{Shape}
use Rattle.bind_query_laws.specs.Sound.{IsSoundOp}

-- The operators over groups, and those over tables, are sound.
pub record SoundOthers : Type 0 where
  pub distinct : (operator : Place) (d : Distinct) → SoundOp (λ known inside rows. distinct_bound operator d known rows)
  pub summarize : (operator : Place) (s : Summarize) → SoundOp (λ known inside rows. summarize_bound operator s known rows)
  pub make_series : (operator : Place) (s : MakeSeries) → SoundOp (λ known inside rows. make_series_bound operator s known rows)
  pub mv_expand : (operator : Place) (form : Option ExpandKind) (items : List Expand) → SoundOp (λ known inside rows. mv_expand_bound operator form items known rows)
  pub parse : (operator : Place) (form : Option ParseKind) (e : Expr) (pattern : List Pat) → is_empty pattern ≡ false → SoundOp (λ known inside rows. parse_bound operator form e pattern known rows)
  pub scan : (operator : Place) (s : Scan) → SoundOp (λ known inside rows. scan_bound operator s known rows)
  pub join : (operator : Place) (lookup : Bool) (kind : Option (JoinSign × List Hint)) (on : List On) (right : BindsPlan) → SoundPlan right → SoundOp (λ known inside rows. join_bound operator lookup kind on known inside rows (right known inside))
  pub union : (operator : Place) (u : UnionParts) → AllByRecursion (λ (a : BindsArg). SoundPlan a.1) u.1 → SoundOp (union_bound operator u)
  pub union_source : (operator : Place) (u : UnionParts) → AllByRecursion (λ (a : BindsArg). SoundPlan a.1) u.1 → SoundPlan (union_source_bound operator u)
  pub partition : (operator : Place) (column : Name) (ops : List BindsOp) → AllByRecursion SoundOp ops → SoundOp (partition_bound operator column ops)

-- Rows behind the end of a pattern prefix have the columns of those before.
of-apart : (known : Known) (inside : Bool) (rows : Shape) (b : BoundOp) → IsSoundOp known inside (apart rows) b → IsSoundOp known inside rows b
unfolding apart
of-apart known inside rows b h = record { fits = h.fits; columns = h.columns }

apart-sound : (bind : BindsOp) → SoundOp bind → SoundOp (λ known inside rows. bind known inside (apart rows))
unfolding apart
apart-sound bind h known inside rows b sound names is = of-apart known inside rows b (h known inside (apart rows) b sound names is)

-- Operators without tables in them.

column-op : (o : ColumnOp) → SoundOp (λ known inside rows. column_op_bound o known rows)
unfolding column_op_bound apart
column-op (column.Where operator e) known inside rows b sound names is = where_sound e known rows b sound names is inside
column-op (column.Extend operator items) known inside rows b sound names is = extend_sound operator items known rows b sound names is inside
column-op (column.Project operator items) known inside rows b sound names is = of-apart known inside rows b (project_sound operator items known (apart rows) b sound names is inside)
column-op (column.Serialize operator items) known inside rows b sound names is = serialize_sound operator items known rows b sound names is inside
column-op (column.ProjectAway operator ns) known inside rows b sound names is = project_away_sound operator ns known rows b sound names is inside
column-op (column.ProjectKeep operator ns) known inside rows b sound names is = project_keep_sound operator ns known rows b sound names is inside
column-op (column.ProjectRename operator renames) known inside rows b sound names is = project_rename_sound operator renames known rows b sound names is inside

row-op : SoundOthers → (o : RowOp) → SoundOp (λ known inside rows. row_op_bound o known rows)
unfolding row_op_bound
row-op others (row.Take operator e) known inside rows b sound names is = take_sound operator e known rows b sound names is inside
row-op others (row.Limit operator e) known inside rows b sound names is = take_sound operator e known rows b sound names is inside
row-op others (row.Count operator) known inside rows b sound names is = count_sound known rows b sound names is inside
row-op others (row.Sort operator keys) known inside rows b sound names is = sort_sound keys known rows b sound names is inside
row-op others (row.Order operator keys) known inside rows b sound names is = sort_sound keys known rows b sound names is inside
row-op others (row.Top operator t) known inside rows b sound names is = top_sound operator t.0 t.1 known rows b sound names is inside
row-op others (row.Distinct operator d) known inside rows b sound names is = others.distinct operator d known inside rows b sound names is

not-empty : (pattern : List Pat) → has_items pattern ≡ true → is_empty pattern ≡ false
unfolding is_empty
not-empty [] some = absurd cc
not-empty (p ∷ ps) some = refl

group-op : SoundOthers → (o : GroupOp) → has_pattern o ≡ true → SoundOp (λ known inside rows. group_op_bound o known rows)
unfolding group_op_bound
group-op others (group.Summarize operator s) some known inside rows b sound names is = others.summarize operator s known inside rows b sound names is
group-op others (group.MakeSeries operator s) some known inside rows b sound names is = others.make_series operator s known inside rows b sound names is
group-op others (group.MvExpand operator form items) some known inside rows b sound names is = others.mv_expand operator form items known inside rows b sound names is
group-op others (group.Parse operator form e pattern) some known inside rows b sound names is = others.parse operator form e pattern (not-empty pattern some) known inside rows b sound names is

-- What is said of each type of the tree.

abbrev HoldsOp : Op → Type 0
HoldsOp x = op_patterns x ≡ true → SoundOp (op_bound x)

abbrev HoldsSource : Source → Type 0
HoldsSource x = source_patterns x ≡ true → SoundPlan (source_bound x)

abbrev HoldsTableArg : TableArg → Type 0
HoldsTableArg x = arg_patterns x ≡ true → SoundPlan (arg_read x).1

abbrev HoldsTableOp : TableOp → Type 0
HoldsTableOp x = table_op_patterns x ≡ true → SoundOp (table_op_bound x)

abbrev HoldsJoin : Join → Type 0
HoldsJoin x = join_patterns x ≡ true → (operator : Place) (lookup : Bool) → SoundOp (join_read x operator lookup)

abbrev HoldsPartition : Partition → Type 0
HoldsPartition x = partition_patterns x ≡ true → (operator : Place) → SoundOp (partition_read x operator)

abbrev HoldsPipe : Pipe → Type 0
HoldsPipe x = pipe_patterns x ≡ true → SoundPlan (pipe_bound x)

abbrev HoldsUnion : Union → Type 0
HoldsUnion x = union_patterns x ≡ true → AllByRecursion (λ (a : BindsArg). SoundPlan a.1) (union_read x).1

abbrev GivenOp : Type 0
GivenOp = (x : Op) × HoldsOp x

bare_op : GivenOp → Op
bare_op g = g.0

abbrev GivenSource : Type 0
GivenSource = (x : Source) × HoldsSource x

bare_source : GivenSource → Source
bare_source g = g.0

abbrev GivenTableArg : Type 0
GivenTableArg = (x : TableArg) × HoldsTableArg x

bare_arg : GivenTableArg → TableArg
bare_arg g = g.0

abbrev GivenTableOp : Type 0
GivenTableOp = (x : TableOp) × HoldsTableOp x

bare_table_op : GivenTableOp → TableOp
bare_table_op g = g.0

abbrev GivenJoin : Type 0
GivenJoin = (x : Join) × HoldsJoin x

bare_join : GivenJoin → Join
bare_join g = g.0

abbrev GivenPartition : Type 0
GivenPartition = (x : Partition) × HoldsPartition x

bare_partition : GivenPartition → Partition
bare_partition g = g.0

abbrev GivenPipe : Type 0
GivenPipe = (x : Pipe) × HoldsPipe x

bare_pipe : GivenPipe → Pipe
bare_pipe g = g.0

abbrev GivenUnion : Type 0
GivenUnion = (x : Union) × HoldsUnion x

bare_union : GivenUnion → Union
bare_union g = g.0

-- Parts one after another.

each-op : (gs : List GivenOp) → all_have (map op_patterns (map bare_op gs)) ≡ true → AllByRecursion SoundOp (map op_bound (map bare_op gs))
unfolding bare_op
each-op [] h = tt
each-op (g ∷ gs) h = let parts = and_parts (op_patterns g.0) (all_have (map op_patterns (map bare_op gs))) h in (g.1 parts.0, each-op gs parts.1)

each-arg : (gs : List GivenTableArg) → all_have (map arg_patterns (map bare_arg gs)) ≡ true → AllByRecursion (λ (a : BindsArg). SoundPlan a.1) (map arg_read (map bare_arg gs))
unfolding bare_arg
each-arg [] h = tt
each-arg (g ∷ gs) h = let parts = and_parts (arg_patterns g.0) (all_have (map arg_patterns (map bare_arg gs))) h in (g.1 parts.0, each-arg gs parts.1)

-- Each type, where its parts are sound.

of-op : SoundOthers → (y : Op-F GivenOp GivenSource GivenTableArg GivenTableOp GivenJoin GivenPartition GivenPipe GivenUnion) → HoldsOp (roll-Op (map-Op GivenOp GivenSource GivenTableArg GivenTableOp GivenJoin GivenPartition GivenPipe GivenUnion Op Source TableArg TableOp Join Partition Pipe Union bare_op bare_source bare_arg bare_table_op bare_join bare_partition bare_pipe bare_union y))
unfolding op_patterns source_patterns arg_patterns table_op_patterns join_patterns partition_patterns pipe_patterns union_patterns op_bound source_bound arg_read table_op_bound join_read partition_read pipe_bound union_read bare_op bare_source bare_arg bare_table_op bare_join bare_partition bare_pipe bare_union
of-op others (Op-F.Columns o) h = subst SoundOp (sym (fold-roll-Op BindsOp BindsPlan BindsArg BindsOp BindsJoin BindsPartition BindsPlan UnionParts op_step source_step table_arg_step table_op_step join_step partition_step pipe_step union_step (Op-F.Columns o))) (column-op o)
of-op others (Op-F.Rows o) h = subst SoundOp (sym (fold-roll-Op BindsOp BindsPlan BindsArg BindsOp BindsJoin BindsPartition BindsPlan UnionParts op_step source_step table_arg_step table_op_step join_step partition_step pipe_step union_step (Op-F.Rows o))) (apart-sound (λ known inside rows. row_op_bound o known rows) (row-op others o))
of-op others (Op-F.Groups o) h = subst SoundOp (sym (fold-roll-Op BindsOp BindsPlan BindsArg BindsOp BindsJoin BindsPartition BindsPlan UnionParts op_step source_step table_arg_step table_op_step join_step partition_step pipe_step union_step (Op-F.Groups o))) (apart-sound (λ known inside rows. group_op_bound o known rows) (group-op others o (sym (fold-roll-Op Bool Bool Bool Bool Bool Bool Bool Bool op_patterns_step source_patterns_step arg_patterns_step table_op_patterns_step join_patterns_step partition_patterns_step pipe_patterns_step union_patterns_step (Op-F.Groups o)) ∙ h)))
of-op others (Op-F.Tables o) h = subst SoundOp (sym (fold-roll-Op BindsOp BindsPlan BindsArg BindsOp BindsJoin BindsPartition BindsPlan UnionParts op_step source_step table_arg_step table_op_step join_step partition_step pipe_step union_step (Op-F.Tables o.0))) (apart-sound (table_op_bound o.0) (o.1 (sym (fold-roll-Op Bool Bool Bool Bool Bool Bool Bool Bool op_patterns_step source_patterns_step arg_patterns_step table_op_patterns_step join_patterns_step partition_patterns_step pipe_patterns_step union_patterns_step (Op-F.Tables o.0)) ∙ h)))

of-source : SoundOthers → (y : Source-F GivenOp GivenSource GivenTableArg GivenTableOp GivenJoin GivenPartition GivenPipe GivenUnion) → HoldsSource (roll-Source (map-Source GivenOp GivenSource GivenTableArg GivenTableOp GivenJoin GivenPartition GivenPipe GivenUnion Op Source TableArg TableOp Join Partition Pipe Union bare_op bare_source bare_arg bare_table_op bare_join bare_partition bare_pipe bare_union y))
unfolding op_patterns source_patterns arg_patterns table_op_patterns join_patterns partition_patterns pipe_patterns union_patterns op_bound source_bound arg_read table_op_bound join_read partition_read pipe_bound union_read bare_op bare_source bare_arg bare_table_op bare_join bare_partition bare_pipe bare_union
of-source others (Source-F.«Source::Table» n) h = subst SoundPlan (sym (fold-roll-Source BindsOp BindsPlan BindsArg BindsOp BindsJoin BindsPartition BindsPlan UnionParts op_step source_step table_arg_step table_op_step join_step partition_step pipe_step union_step (Source-F.«Source::Table» n))) (λ known inside p sound is. table_sound n known p sound is)
of-source others (Source-F.Range operator r) h = subst SoundPlan (sym (fold-roll-Source BindsOp BindsPlan BindsArg BindsOp BindsJoin BindsPartition BindsPlan UnionParts op_step source_step table_arg_step table_op_step join_step partition_step pipe_step union_step (Source-F.Range operator r))) (λ known inside p sound is. range_sound operator r known p sound is)
of-source others (Source-F.Print operator items) h = subst SoundPlan (sym (fold-roll-Source BindsOp BindsPlan BindsArg BindsOp BindsJoin BindsPartition BindsPlan UnionParts op_step source_step table_arg_step table_op_step join_step partition_step pipe_step union_step (Source-F.Print operator items))) (λ known inside p sound is. print_sound operator items known p sound is)
of-source others (Source-F.«Source::Union» operator u) h = subst SoundPlan (sym (fold-roll-Source BindsOp BindsPlan BindsArg BindsOp BindsJoin BindsPartition BindsPlan UnionParts op_step source_step table_arg_step table_op_step join_step partition_step pipe_step union_step (Source-F.«Source::Union» operator u.0))) (others.union_source operator (union_read u.0) (u.1 (sym (fold-roll-Source Bool Bool Bool Bool Bool Bool Bool Bool op_patterns_step source_patterns_step arg_patterns_step table_op_patterns_step join_patterns_step partition_patterns_step pipe_patterns_step union_patterns_step (Source-F.«Source::Union» operator u.0)) ∙ h)))

of-arg : SoundOthers → (y : TableArg-F GivenOp GivenSource GivenTableArg GivenTableOp GivenJoin GivenPartition GivenPipe GivenUnion) → HoldsTableArg (roll-TableArg (map-TableArg GivenOp GivenSource GivenTableArg GivenTableOp GivenJoin GivenPartition GivenPipe GivenUnion Op Source TableArg TableOp Join Partition Pipe Union bare_op bare_source bare_arg bare_table_op bare_join bare_partition bare_pipe bare_union y))
unfolding op_patterns source_patterns arg_patterns table_op_patterns join_patterns partition_patterns pipe_patterns union_patterns op_bound source_bound arg_read table_op_bound join_read partition_read pipe_bound union_read bare_op bare_source bare_arg bare_table_op bare_join bare_partition bare_pipe bare_union
of-arg others (TableArg-F.«TableArg::Table» n) h = subst (λ (a : BindsArg). SoundPlan a.1) (sym (fold-roll-TableArg BindsOp BindsPlan BindsArg BindsOp BindsJoin BindsPartition BindsPlan UnionParts op_step source_step table_arg_step table_op_step join_step partition_step pipe_step union_step (TableArg-F.«TableArg::Table» n))) (λ known inside p sound is. table_sound n known p sound is)
of-arg others (TableArg-F.Pipe place p) h = subst (λ (a : BindsArg). SoundPlan a.1) (sym (fold-roll-TableArg BindsOp BindsPlan BindsArg BindsOp BindsJoin BindsPartition BindsPlan UnionParts op_step source_step table_arg_step table_op_step join_step partition_step pipe_step union_step (TableArg-F.Pipe place p.0))) (p.1 (sym (fold-roll-TableArg Bool Bool Bool Bool Bool Bool Bool Bool op_patterns_step source_patterns_step arg_patterns_step table_op_patterns_step join_patterns_step partition_patterns_step pipe_patterns_step union_patterns_step (TableArg-F.Pipe place p.0)) ∙ h))

of-table_op : SoundOthers → (y : TableOp-F GivenOp GivenSource GivenTableArg GivenTableOp GivenJoin GivenPartition GivenPipe GivenUnion) → HoldsTableOp (roll-TableOp (map-TableOp GivenOp GivenSource GivenTableArg GivenTableOp GivenJoin GivenPartition GivenPipe GivenUnion Op Source TableArg TableOp Join Partition Pipe Union bare_op bare_source bare_arg bare_table_op bare_join bare_partition bare_pipe bare_union y))
unfolding op_patterns source_patterns arg_patterns table_op_patterns join_patterns partition_patterns pipe_patterns union_patterns op_bound source_bound arg_read table_op_bound join_read partition_read pipe_bound union_read bare_op bare_source bare_arg bare_table_op bare_join bare_partition bare_pipe bare_union
of-table_op others (TableOp-F.Join operator j) h = subst SoundOp (sym (fold-roll-TableOp BindsOp BindsPlan BindsArg BindsOp BindsJoin BindsPartition BindsPlan UnionParts op_step source_step table_arg_step table_op_step join_step partition_step pipe_step union_step (TableOp-F.Join operator j.0))) (j.1 (sym (fold-roll-TableOp Bool Bool Bool Bool Bool Bool Bool Bool op_patterns_step source_patterns_step arg_patterns_step table_op_patterns_step join_patterns_step partition_patterns_step pipe_patterns_step union_patterns_step (TableOp-F.Join operator j.0)) ∙ h) operator false)
of-table_op others (TableOp-F.Lookup operator j) h = subst SoundOp (sym (fold-roll-TableOp BindsOp BindsPlan BindsArg BindsOp BindsJoin BindsPartition BindsPlan UnionParts op_step source_step table_arg_step table_op_step join_step partition_step pipe_step union_step (TableOp-F.Lookup operator j.0))) (j.1 (sym (fold-roll-TableOp Bool Bool Bool Bool Bool Bool Bool Bool op_patterns_step source_patterns_step arg_patterns_step table_op_patterns_step join_patterns_step partition_patterns_step pipe_patterns_step union_patterns_step (TableOp-F.Lookup operator j.0)) ∙ h) operator true)
of-table_op others (TableOp-F.«TableOp::Union» operator u) h = subst SoundOp (sym (fold-roll-TableOp BindsOp BindsPlan BindsArg BindsOp BindsJoin BindsPartition BindsPlan UnionParts op_step source_step table_arg_step table_op_step join_step partition_step pipe_step union_step (TableOp-F.«TableOp::Union» operator u.0))) (others.union operator (union_read u.0) (u.1 (sym (fold-roll-TableOp Bool Bool Bool Bool Bool Bool Bool Bool op_patterns_step source_patterns_step arg_patterns_step table_op_patterns_step join_patterns_step partition_patterns_step pipe_patterns_step union_patterns_step (TableOp-F.«TableOp::Union» operator u.0)) ∙ h)))
of-table_op others (TableOp-F.Scan operator s) h = subst SoundOp (sym (fold-roll-TableOp BindsOp BindsPlan BindsArg BindsOp BindsJoin BindsPartition BindsPlan UnionParts op_step source_step table_arg_step table_op_step join_step partition_step pipe_step union_step (TableOp-F.Scan operator s))) (others.scan operator s)
of-table_op others (TableOp-F.Partition operator p) h = subst SoundOp (sym (fold-roll-TableOp BindsOp BindsPlan BindsArg BindsOp BindsJoin BindsPartition BindsPlan UnionParts op_step source_step table_arg_step table_op_step join_step partition_step pipe_step union_step (TableOp-F.Partition operator p.0))) (p.1 (sym (fold-roll-TableOp Bool Bool Bool Bool Bool Bool Bool Bool op_patterns_step source_patterns_step arg_patterns_step table_op_patterns_step join_patterns_step partition_patterns_step pipe_patterns_step union_patterns_step (TableOp-F.Partition operator p.0)) ∙ h) operator)

of-join : SoundOthers → (y : Join-F GivenOp GivenSource GivenTableArg GivenTableOp GivenJoin GivenPartition GivenPipe GivenUnion) → HoldsJoin (roll-Join (map-Join GivenOp GivenSource GivenTableArg GivenTableOp GivenJoin GivenPartition GivenPipe GivenUnion Op Source TableArg TableOp Join Partition Pipe Union bare_op bare_source bare_arg bare_table_op bare_join bare_partition bare_pipe bare_union y))
unfolding op_patterns source_patterns arg_patterns table_op_patterns join_patterns partition_patterns pipe_patterns union_patterns op_bound source_bound arg_read table_op_bound join_read partition_read pipe_bound union_read bare_op bare_source bare_arg bare_table_op bare_join bare_partition bare_pipe bare_union
of-join others y h operator lookup = subst (λ (f : BindsJoin). SoundOp (f operator lookup)) (sym (fold-roll-Join BindsOp BindsPlan BindsArg BindsOp BindsJoin BindsPartition BindsPlan UnionParts op_step source_step table_arg_step table_op_step join_step partition_step pipe_step union_step (map-Join GivenOp GivenSource GivenTableArg GivenTableOp GivenJoin GivenPartition GivenPipe GivenUnion Op Source TableArg TableOp Join Partition Pipe Union bare_op bare_source bare_arg bare_table_op bare_join bare_partition bare_pipe bare_union y))) (others.join operator lookup y.kind y.on (arg_read y.table.0).1 (y.table.1 (sym (fold-roll-Join Bool Bool Bool Bool Bool Bool Bool Bool op_patterns_step source_patterns_step arg_patterns_step table_op_patterns_step join_patterns_step partition_patterns_step pipe_patterns_step union_patterns_step (map-Join GivenOp GivenSource GivenTableArg GivenTableOp GivenJoin GivenPartition GivenPipe GivenUnion Op Source TableArg TableOp Join Partition Pipe Union bare_op bare_source bare_arg bare_table_op bare_join bare_partition bare_pipe bare_union y)) ∙ h)))

of-partition : SoundOthers → (y : Partition-F GivenOp GivenSource GivenTableArg GivenTableOp GivenJoin GivenPartition GivenPipe GivenUnion) → HoldsPartition (roll-Partition (map-Partition GivenOp GivenSource GivenTableArg GivenTableOp GivenJoin GivenPartition GivenPipe GivenUnion Op Source TableArg TableOp Join Partition Pipe Union bare_op bare_source bare_arg bare_table_op bare_join bare_partition bare_pipe bare_union y))
unfolding op_patterns source_patterns arg_patterns table_op_patterns join_patterns partition_patterns pipe_patterns union_patterns op_bound source_bound arg_read table_op_bound join_read partition_read pipe_bound union_read bare_op bare_source bare_arg bare_table_op bare_join bare_partition bare_pipe bare_union
of-partition others y h operator = subst (λ (f : BindsPartition). SoundOp (f operator)) (sym (fold-roll-Partition BindsOp BindsPlan BindsArg BindsOp BindsJoin BindsPartition BindsPlan UnionParts op_step source_step table_arg_step table_op_step join_step partition_step pipe_step union_step (map-Partition GivenOp GivenSource GivenTableArg GivenTableOp GivenJoin GivenPartition GivenPipe GivenUnion Op Source TableArg TableOp Join Partition Pipe Union bare_op bare_source bare_arg bare_table_op bare_join bare_partition bare_pipe bare_union y))) (others.partition operator y.column (map op_bound (map bare_op y.ops)) (each-op y.ops (sym (fold-roll-Partition Bool Bool Bool Bool Bool Bool Bool Bool op_patterns_step source_patterns_step arg_patterns_step table_op_patterns_step join_patterns_step partition_patterns_step pipe_patterns_step union_patterns_step (map-Partition GivenOp GivenSource GivenTableArg GivenTableOp GivenJoin GivenPartition GivenPipe GivenUnion Op Source TableArg TableOp Join Partition Pipe Union bare_op bare_source bare_arg bare_table_op bare_join bare_partition bare_pipe bare_union y)) ∙ h)))

of-pipe : SoundOthers → (y : Pipe-F GivenOp GivenSource GivenTableArg GivenTableOp GivenJoin GivenPartition GivenPipe GivenUnion) → HoldsPipe (roll-Pipe (map-Pipe GivenOp GivenSource GivenTableArg GivenTableOp GivenJoin GivenPartition GivenPipe GivenUnion Op Source TableArg TableOp Join Partition Pipe Union bare_op bare_source bare_arg bare_table_op bare_join bare_partition bare_pipe bare_union y))
unfolding op_patterns source_patterns arg_patterns table_op_patterns join_patterns partition_patterns pipe_patterns union_patterns op_bound source_bound arg_read table_op_bound join_read partition_read pipe_bound union_read bare_op bare_source bare_arg bare_table_op bare_join bare_partition bare_pipe bare_union
of-pipe others y h =
    let parts = and_parts (source_patterns y.source.0) (all_have (map op_patterns (map bare_op y.ops))) (sym (fold-roll-Pipe Bool Bool Bool Bool Bool Bool Bool Bool op_patterns_step source_patterns_step arg_patterns_step table_op_patterns_step join_patterns_step partition_patterns_step pipe_patterns_step union_patterns_step (map-Pipe GivenOp GivenSource GivenTableArg GivenTableOp GivenJoin GivenPartition GivenPipe GivenUnion Op Source TableArg TableOp Join Partition Pipe Union bare_op bare_source bare_arg bare_table_op bare_join bare_partition bare_pipe bare_union y)) ∙ h) in
    subst SoundPlan (sym (fold-roll-Pipe BindsOp BindsPlan BindsArg BindsOp BindsJoin BindsPartition BindsPlan UnionParts op_step source_step table_arg_step table_op_step join_step partition_step pipe_step union_step (map-Pipe GivenOp GivenSource GivenTableArg GivenTableOp GivenJoin GivenPartition GivenPipe GivenUnion Op Source TableArg TableOp Join Partition Pipe Union bare_op bare_source bare_arg bare_table_op bare_join bare_partition bare_pipe bare_union y))) (λ known inside p sound is. piped_sound (source_bound y.source.0 known inside) (map op_bound (map bare_op y.ops)) known inside p sound (λ q e. y.source.1 parts.0 known inside q sound e) (each-op y.ops parts.1) is)

of-union : SoundOthers → (y : Union-F GivenOp GivenSource GivenTableArg GivenTableOp GivenJoin GivenPartition GivenPipe GivenUnion) → HoldsUnion (roll-Union (map-Union GivenOp GivenSource GivenTableArg GivenTableOp GivenJoin GivenPartition GivenPipe GivenUnion Op Source TableArg TableOp Join Partition Pipe Union bare_op bare_source bare_arg bare_table_op bare_join bare_partition bare_pipe bare_union y))
unfolding op_patterns source_patterns arg_patterns table_op_patterns join_patterns partition_patterns pipe_patterns union_patterns op_bound source_bound arg_read table_op_bound join_read partition_read pipe_bound union_read bare_op bare_source bare_arg bare_table_op bare_join bare_partition bare_pipe bare_union
of-union others y h = subst (λ (u : UnionParts). AllByRecursion (λ (a : BindsArg). SoundPlan a.1) u.1) (sym (fold-roll-Union BindsOp BindsPlan BindsArg BindsOp BindsJoin BindsPartition BindsPlan UnionParts op_step source_step table_arg_step table_op_step join_step partition_step pipe_step union_step (map-Union GivenOp GivenSource GivenTableArg GivenTableOp GivenJoin GivenPartition GivenPipe GivenUnion Op Source TableArg TableOp Join Partition Pipe Union bare_op bare_source bare_arg bare_table_op bare_join bare_partition bare_pipe bare_union y))) (each-arg y.tables (sym (fold-roll-Union Bool Bool Bool Bool Bool Bool Bool Bool op_patterns_step source_patterns_step arg_patterns_step table_op_patterns_step join_patterns_step partition_patterns_step pipe_patterns_step union_patterns_step (map-Union GivenOp GivenSource GivenTableArg GivenTableOp GivenJoin GivenPartition GivenPipe GivenUnion Op Source TableArg TableOp Join Partition Pipe Union bare_op bare_source bare_arg bare_table_op bare_join bare_partition bare_pipe bare_union y)) ∙ h))

-- Every pipe.
pub pipe_sound : SoundOthers → (p : Pipe) → pipe_patterns p ≡ true → SoundPlan (pipe_bound p)
unfolding bare_op bare_source bare_arg bare_table_op bare_join bare_partition bare_pipe bare_union
pipe_sound others = ind-Pipe HoldsOp HoldsSource HoldsTableArg HoldsTableOp HoldsJoin HoldsPartition HoldsPipe HoldsUnion
    (λ x y is. subst (λ (z : Op-F Op Source TableArg TableOp Join Partition Pipe Union). HoldsOp (roll-Op z)) is (of-op others y))
    (λ x y is. subst (λ (z : Source-F Op Source TableArg TableOp Join Partition Pipe Union). HoldsSource (roll-Source z)) is (of-source others y))
    (λ x y is. subst (λ (z : TableArg-F Op Source TableArg TableOp Join Partition Pipe Union). HoldsTableArg (roll-TableArg z)) is (of-arg others y))
    (λ x y is. subst (λ (z : TableOp-F Op Source TableArg TableOp Join Partition Pipe Union). HoldsTableOp (roll-TableOp z)) is (of-table_op others y))
    (λ x y is. subst (λ (z : Join-F Op Source TableArg TableOp Join Partition Pipe Union). HoldsJoin (roll-Join z)) is (of-join others y))
    (λ x y is. subst (λ (z : Partition-F Op Source TableArg TableOp Join Partition Pipe Union). HoldsPartition (roll-Partition z)) is (of-partition others y))
    (λ x y is. subst (λ (z : Pipe-F Op Source TableArg TableOp Join Partition Pipe Union). HoldsPipe (roll-Pipe z)) is (of-pipe others y))
    (λ x y is. subst (λ (z : Union-F Op Source TableArg TableOp Join Partition Pipe Union). HoldsUnion (roll-Union z)) is (of-union others y))

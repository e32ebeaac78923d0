-- A query that is refused is refused at a place that stands in it, by induction over its tree.
use Rattle.bind_expr.specs.Names.{name_bound, text_of}
use Rattle.bind_expr.specs.Outcome.{Outcome, ◌>>=◌}
use Rattle.bind_expr.specs.declared.fault.BindFault.TheVariants as fault
use Rattle.bind_expr.specs.declared.typed.Typed.{Typed}
use Rattle.bind_expr_laws.proofs.PlaceSteps.{ToldIn, Within, told-ok, told-then, told-wide}
use Rattle.bind_expr_laws.specs.Places.{Places}
use Rattle.bind_operators.specs.Faults.{unless}
use Rattle.bind_operators.specs.Known.{no_rows, scope_at, table_named}
use Rattle.bind_operators.specs.Places.{name_place}
use Rattle.bind_operators.specs.Wanted.{constant_bound, constant_wanted}
use Rattle.bind_operators.specs.declared.bound.BoundPlan.{BoundPlan}
use Rattle.bind_operators.specs.declared.known.Known.{Known}
use Rattle.bind_operators.specs.declared.shape.Shape.{Shape}
use Rattle.bind_operators.specs.declared.wanted.Wanted.TheVariants as wanted
use Rattle.bind_query.specs.Bound.{bound, known_at_first, lets_bound, next_let, no_statements, program_of}
use Rattle.bind_query.specs.Join.{join_bound}
use Rattle.bind_query.specs.Lets.{body_bound, constant_let, constant_named, if_alone, is_let_name, let_bound, let_faults, name_alone, name_let, name_of_source, pipe_let, source_name, table_let, with_constant, with_table}
use Rattle.bind_query.specs.Operators.{BindsJoin, BindsPartition, arg_read, join_read, join_step, op_bound, op_step, partition_read, partition_step, pipe_bound, pipe_step, source_bound, source_step, table_arg_step, table_op_bound, table_op_step, union_read, union_step}
use Rattle.bind_query.specs.Partition.{partition_bound}
use Rattle.bind_query.specs.Pipes.{BindsArg, BindsOp, BindsPlan, UnionParts, piped}
use Rattle.bind_query.specs.declared.bound.BoundStatements.{BoundStatements}
use Rattle.bind_query_laws.proofs.PlaceGroups.{told-group-op}
use Rattle.bind_query_laws.proofs.PlaceOperators.{told-column-op, told-print, told-range, told-row-op}
use Rattle.bind_query_laws.proofs.Frame.{some-same}
use Rattle.bind_query_laws.proofs.PlaceParts.{in-cons, in-left, in-none, in-right, placed-if, told-constant, told-named, told-table, told-unless, told-wanted}
use Rattle.bind_query_laws.proofs.PlaceTables.{OpsIn, TablesIn, told-join, told-partition, told-piped, told-scan, told-union, told-union-source}
use Rattle.bind_query_laws.specs.QueryPlaces.{RefusedIsPlaced, all_places, arg_places_step, body_places, join_places_step, let_places, on_places, one_place, op_places_step, partition_places_step, pipe_places, pipe_places_step, query_places, source_places_step, table_op_places_step, union_places_step}
use Rattle.kql_bound.specs.declared.literal.Lit.{Lit}
use Rattle.kql_bound.specs.declared.plan.Program.{Program}
use Rattle.kql_cells.specs.declared.schemas.NamedSchema.{NamedSchema}
use Rattle.kql_lexer.specs.declared.place.Place.{Place}
use Rattle.kql_meaning.proofs.MemberLaws.{Member, contains-member, member-left, member-right}
use Rattle.kql_meaning.specs.declared.position.Position.TheVariants as position
use Rattle.kql_syntax.specs.declared.query.Hint.{Hint}
use Rattle.kql_syntax.specs.declared.query.Join.{Join, fold-Join, fold-roll-Join, map-Join, roll-Join}
use Rattle.kql_syntax.specs.declared.query.JoinSign.{JoinSign}
use Rattle.kql_syntax.specs.declared.query.Let.{Let}
use Rattle.kql_syntax.specs.declared.query.LetBody.TheVariants as body
use Rattle.kql_syntax.specs.declared.query.LetBody.{LetBody}
use Rattle.kql_syntax.specs.declared.query.On.{On}
use Rattle.kql_syntax.specs.declared.query.Op.TheOpen.{Join-F, Op-F, Partition-F, Pipe-F, Source-F, TableArg-F, TableOp-F, Union-F}
use Rattle.kql_syntax.specs.declared.query.Op.{Op, fold-Op, fold-roll-Op, map-Op, roll-Op}
use Rattle.kql_syntax.specs.declared.query.Partition.{Partition, fold-Partition, fold-roll-Partition, map-Partition, roll-Partition}
use Rattle.kql_syntax.specs.declared.query.Pipe.{Pipe, fold-roll-Pipe, ind-Pipe, map-Pipe, out-Pipe, roll-Pipe, roll-out-Pipe}
use Rattle.kql_syntax.specs.declared.query.Query.{Query}
use Rattle.kql_syntax.specs.declared.query.Source.{Source, fold-Source, fold-roll-Source, map-Source, out-Source, roll-Source, roll-out-Source}
use Rattle.kql_syntax.specs.declared.query.TableArg.{TableArg, fold-TableArg, fold-roll-TableArg, map-TableArg, roll-TableArg}
use Rattle.kql_syntax.specs.declared.query.TableOp.{TableOp, fold-TableOp, fold-roll-TableOp, map-TableOp, roll-TableOp}
use Rattle.kql_syntax.specs.declared.query.Union.{Union, fold-Union, fold-roll-Union, map-Union, roll-Union}
use Rattle.kql_syntax.specs.declared.tree.Name.{Name}
use Rattle.std.proofs.Common.{List, [], ap, inl, inr, map, refl, subst, sym, ℕ, ◌++◌, ◌∷◌, ◌≡◌}
use Rattle.std.specs.List.{flat_map}
use Rattle.std.specs.Prelude.{Bool, Err, None, Ok, Option, Some, false, fold, true, ℤ}
use Rattle.bind_operators.specs.Answers.{apart}

-- The places of each part of a pipe.

op_places : Op → Places
op_places = fold-Op Places Places Places Places Places Places Places Places op_places_step source_places_step arg_places_step table_op_places_step join_places_step partition_places_step pipe_places_step union_places_step

source_places : Source → Places
source_places = fold-Source Places Places Places Places Places Places Places Places op_places_step source_places_step arg_places_step table_op_places_step join_places_step partition_places_step pipe_places_step union_places_step

arg_places : TableArg → Places
arg_places = fold-TableArg Places Places Places Places Places Places Places Places op_places_step source_places_step arg_places_step table_op_places_step join_places_step partition_places_step pipe_places_step union_places_step

table_op_places : TableOp → Places
table_op_places = fold-TableOp Places Places Places Places Places Places Places Places op_places_step source_places_step arg_places_step table_op_places_step join_places_step partition_places_step pipe_places_step union_places_step

join_places : Join → Places
join_places = fold-Join Places Places Places Places Places Places Places Places op_places_step source_places_step arg_places_step table_op_places_step join_places_step partition_places_step pipe_places_step union_places_step

partition_places : Partition → Places
partition_places = fold-Partition Places Places Places Places Places Places Places Places op_places_step source_places_step arg_places_step table_op_places_step join_places_step partition_places_step pipe_places_step union_places_step

union_places : Union → Places
union_places = fold-Union Places Places Places Places Places Places Places Places op_places_step source_places_step arg_places_step table_op_places_step join_places_step partition_places_step pipe_places_step union_places_step

-- Each part, told at its own places; what reads the place of its operator, at that and its own.

abbrev OpIn : Places → BindsOp → Type 0
OpIn ps b = (known : Known) (inside : Bool) (rows : Shape) → ToldIn ps (b known inside rows)

abbrev PlanIn : Places → BindsPlan → Type 0
PlanIn ps b = (known : Known) (inside : Bool) → ToldIn ps (b known inside)

abbrev ArgIn : Places → BindsArg → Type 0
ArgIn ps b = Member b.0 ps × PlanIn ps b.1

abbrev JoinIn : Places → BindsJoin → Type 0
JoinIn ps b = (operator : Place) (lookup : Bool) → OpIn (operator ∷ ps) (b operator lookup)

abbrev PartitionIn : Places → BindsPartition → Type 0
PartitionIn ps b = (operator : Place) → OpIn (operator ∷ ps) (b operator)

abbrev UnionIn : Places → UnionParts → Type 0
UnionIn ps b = (qs : Places) → Within ps qs → TablesIn qs b.1

abbrev ToldOp : Op → Type 0
ToldOp x = OpIn (op_places x) (op_bound x)

abbrev GivenOp : Type 0
GivenOp = (x : Op) × ToldOp x

bare_op : GivenOp → Op
bare_op g = g.0

abbrev ToldSource : Source → Type 0
ToldSource x = PlanIn (source_places x) (source_bound x)

abbrev GivenSource : Type 0
GivenSource = (x : Source) × ToldSource x

bare_source : GivenSource → Source
bare_source g = g.0

abbrev ToldTableArg : TableArg → Type 0
ToldTableArg x = ArgIn (arg_places x) (arg_read x)

abbrev GivenTableArg : Type 0
GivenTableArg = (x : TableArg) × ToldTableArg x

bare_arg : GivenTableArg → TableArg
bare_arg g = g.0

abbrev ToldTableOp : TableOp → Type 0
ToldTableOp x = OpIn (table_op_places x) (table_op_bound x)

abbrev GivenTableOp : Type 0
GivenTableOp = (x : TableOp) × ToldTableOp x

bare_table_op : GivenTableOp → TableOp
bare_table_op g = g.0

abbrev ToldJoin : Join → Type 0
ToldJoin x = JoinIn (join_places x) (join_read x)

abbrev GivenJoin : Type 0
GivenJoin = (x : Join) × ToldJoin x

bare_join : GivenJoin → Join
bare_join g = g.0

abbrev ToldPartition : Partition → Type 0
ToldPartition x = PartitionIn (partition_places x) (partition_read x)

abbrev GivenPartition : Type 0
GivenPartition = (x : Partition) × ToldPartition x

bare_partition : GivenPartition → Partition
bare_partition g = g.0

abbrev ToldPipe : Pipe → Type 0
ToldPipe x = PlanIn (pipe_places x) (pipe_bound x)

abbrev GivenPipe : Type 0
GivenPipe = (x : Pipe) × ToldPipe x

bare_pipe : GivenPipe → Pipe
bare_pipe g = g.0

abbrev ToldUnion : Union → Type 0
ToldUnion x = UnionIn (union_places x) (union_read x)

abbrev GivenUnion : Type 0
GivenUnion = (x : Union) × ToldUnion x

bare_union : GivenUnion → Union
bare_union g = g.0

-- What is told of a step over the parts is told of the tree that they make.
rolled : {Y : Type 0} (told : Places → Y → Type 0) (ps qs : Places) (b c : Y) → ps ≡ qs → b ≡ c → told qs c → told ps b
rolled told ps qs b c e f h = subst (λ (x : Places). told x b) (sym e) (subst (λ (y : _). told qs y) (sym f) h)

op-rolled : (y : Op-F Op Source TableArg TableOp Join Partition Pipe Union) → OpIn (op_places_step (map-Op Op Source TableArg TableOp Join Partition Pipe Union Places Places Places Places Places Places Places Places op_places source_places arg_places table_op_places join_places partition_places pipe_places union_places y)) (op_step (map-Op Op Source TableArg TableOp Join Partition Pipe Union BindsOp BindsPlan BindsArg BindsOp BindsJoin BindsPartition BindsPlan UnionParts op_bound source_bound arg_read table_op_bound join_read partition_read pipe_bound union_read y)) → ToldOp (roll-Op y)
unfolding op_places source_places arg_places table_op_places join_places partition_places pipe_places union_places op_bound source_bound arg_read table_op_bound join_read partition_read pipe_bound union_read
op-rolled y = rolled OpIn (op_places (roll-Op y)) (op_places_step (map-Op Op Source TableArg TableOp Join Partition Pipe Union Places Places Places Places Places Places Places Places op_places source_places arg_places table_op_places join_places partition_places pipe_places union_places y)) (op_bound (roll-Op y)) (op_step (map-Op Op Source TableArg TableOp Join Partition Pipe Union BindsOp BindsPlan BindsArg BindsOp BindsJoin BindsPartition BindsPlan UnionParts op_bound source_bound arg_read table_op_bound join_read partition_read pipe_bound union_read y)) (fold-roll-Op Places Places Places Places Places Places Places Places op_places_step source_places_step arg_places_step table_op_places_step join_places_step partition_places_step pipe_places_step union_places_step y) (fold-roll-Op BindsOp BindsPlan BindsArg BindsOp BindsJoin BindsPartition BindsPlan UnionParts op_step source_step table_arg_step table_op_step join_step partition_step pipe_step union_step y)

source-rolled : (y : Source-F Op Source TableArg TableOp Join Partition Pipe Union) → PlanIn (source_places_step (map-Source Op Source TableArg TableOp Join Partition Pipe Union Places Places Places Places Places Places Places Places op_places source_places arg_places table_op_places join_places partition_places pipe_places union_places y)) (source_step (map-Source Op Source TableArg TableOp Join Partition Pipe Union BindsOp BindsPlan BindsArg BindsOp BindsJoin BindsPartition BindsPlan UnionParts op_bound source_bound arg_read table_op_bound join_read partition_read pipe_bound union_read y)) → ToldSource (roll-Source y)
unfolding op_places source_places arg_places table_op_places join_places partition_places pipe_places union_places op_bound source_bound arg_read table_op_bound join_read partition_read pipe_bound union_read
source-rolled y = rolled PlanIn (source_places (roll-Source y)) (source_places_step (map-Source Op Source TableArg TableOp Join Partition Pipe Union Places Places Places Places Places Places Places Places op_places source_places arg_places table_op_places join_places partition_places pipe_places union_places y)) (source_bound (roll-Source y)) (source_step (map-Source Op Source TableArg TableOp Join Partition Pipe Union BindsOp BindsPlan BindsArg BindsOp BindsJoin BindsPartition BindsPlan UnionParts op_bound source_bound arg_read table_op_bound join_read partition_read pipe_bound union_read y)) (fold-roll-Source Places Places Places Places Places Places Places Places op_places_step source_places_step arg_places_step table_op_places_step join_places_step partition_places_step pipe_places_step union_places_step y) (fold-roll-Source BindsOp BindsPlan BindsArg BindsOp BindsJoin BindsPartition BindsPlan UnionParts op_step source_step table_arg_step table_op_step join_step partition_step pipe_step union_step y)

arg-rolled : (y : TableArg-F Op Source TableArg TableOp Join Partition Pipe Union) → ArgIn (arg_places_step (map-TableArg Op Source TableArg TableOp Join Partition Pipe Union Places Places Places Places Places Places Places Places op_places source_places arg_places table_op_places join_places partition_places pipe_places union_places y)) (table_arg_step (map-TableArg Op Source TableArg TableOp Join Partition Pipe Union BindsOp BindsPlan BindsArg BindsOp BindsJoin BindsPartition BindsPlan UnionParts op_bound source_bound arg_read table_op_bound join_read partition_read pipe_bound union_read y)) → ToldTableArg (roll-TableArg y)
unfolding op_places source_places arg_places table_op_places join_places partition_places pipe_places union_places op_bound source_bound arg_read table_op_bound join_read partition_read pipe_bound union_read
arg-rolled y = rolled ArgIn (arg_places (roll-TableArg y)) (arg_places_step (map-TableArg Op Source TableArg TableOp Join Partition Pipe Union Places Places Places Places Places Places Places Places op_places source_places arg_places table_op_places join_places partition_places pipe_places union_places y)) (arg_read (roll-TableArg y)) (table_arg_step (map-TableArg Op Source TableArg TableOp Join Partition Pipe Union BindsOp BindsPlan BindsArg BindsOp BindsJoin BindsPartition BindsPlan UnionParts op_bound source_bound arg_read table_op_bound join_read partition_read pipe_bound union_read y)) (fold-roll-TableArg Places Places Places Places Places Places Places Places op_places_step source_places_step arg_places_step table_op_places_step join_places_step partition_places_step pipe_places_step union_places_step y) (fold-roll-TableArg BindsOp BindsPlan BindsArg BindsOp BindsJoin BindsPartition BindsPlan UnionParts op_step source_step table_arg_step table_op_step join_step partition_step pipe_step union_step y)

table_op-rolled : (y : TableOp-F Op Source TableArg TableOp Join Partition Pipe Union) → OpIn (table_op_places_step (map-TableOp Op Source TableArg TableOp Join Partition Pipe Union Places Places Places Places Places Places Places Places op_places source_places arg_places table_op_places join_places partition_places pipe_places union_places y)) (table_op_step (map-TableOp Op Source TableArg TableOp Join Partition Pipe Union BindsOp BindsPlan BindsArg BindsOp BindsJoin BindsPartition BindsPlan UnionParts op_bound source_bound arg_read table_op_bound join_read partition_read pipe_bound union_read y)) → ToldTableOp (roll-TableOp y)
unfolding op_places source_places arg_places table_op_places join_places partition_places pipe_places union_places op_bound source_bound arg_read table_op_bound join_read partition_read pipe_bound union_read
table_op-rolled y = rolled OpIn (table_op_places (roll-TableOp y)) (table_op_places_step (map-TableOp Op Source TableArg TableOp Join Partition Pipe Union Places Places Places Places Places Places Places Places op_places source_places arg_places table_op_places join_places partition_places pipe_places union_places y)) (table_op_bound (roll-TableOp y)) (table_op_step (map-TableOp Op Source TableArg TableOp Join Partition Pipe Union BindsOp BindsPlan BindsArg BindsOp BindsJoin BindsPartition BindsPlan UnionParts op_bound source_bound arg_read table_op_bound join_read partition_read pipe_bound union_read y)) (fold-roll-TableOp Places Places Places Places Places Places Places Places op_places_step source_places_step arg_places_step table_op_places_step join_places_step partition_places_step pipe_places_step union_places_step y) (fold-roll-TableOp BindsOp BindsPlan BindsArg BindsOp BindsJoin BindsPartition BindsPlan UnionParts op_step source_step table_arg_step table_op_step join_step partition_step pipe_step union_step y)

join-rolled : (y : Join-F Op Source TableArg TableOp Join Partition Pipe Union) → JoinIn (join_places_step (map-Join Op Source TableArg TableOp Join Partition Pipe Union Places Places Places Places Places Places Places Places op_places source_places arg_places table_op_places join_places partition_places pipe_places union_places y)) (join_step (map-Join Op Source TableArg TableOp Join Partition Pipe Union BindsOp BindsPlan BindsArg BindsOp BindsJoin BindsPartition BindsPlan UnionParts op_bound source_bound arg_read table_op_bound join_read partition_read pipe_bound union_read y)) → ToldJoin (roll-Join y)
unfolding op_places source_places arg_places table_op_places join_places partition_places pipe_places union_places op_bound source_bound arg_read table_op_bound join_read partition_read pipe_bound union_read
join-rolled y = rolled JoinIn (join_places (roll-Join y)) (join_places_step (map-Join Op Source TableArg TableOp Join Partition Pipe Union Places Places Places Places Places Places Places Places op_places source_places arg_places table_op_places join_places partition_places pipe_places union_places y)) (join_read (roll-Join y)) (join_step (map-Join Op Source TableArg TableOp Join Partition Pipe Union BindsOp BindsPlan BindsArg BindsOp BindsJoin BindsPartition BindsPlan UnionParts op_bound source_bound arg_read table_op_bound join_read partition_read pipe_bound union_read y)) (fold-roll-Join Places Places Places Places Places Places Places Places op_places_step source_places_step arg_places_step table_op_places_step join_places_step partition_places_step pipe_places_step union_places_step y) (fold-roll-Join BindsOp BindsPlan BindsArg BindsOp BindsJoin BindsPartition BindsPlan UnionParts op_step source_step table_arg_step table_op_step join_step partition_step pipe_step union_step y)

partition-rolled : (y : Partition-F Op Source TableArg TableOp Join Partition Pipe Union) → PartitionIn (partition_places_step (map-Partition Op Source TableArg TableOp Join Partition Pipe Union Places Places Places Places Places Places Places Places op_places source_places arg_places table_op_places join_places partition_places pipe_places union_places y)) (partition_step (map-Partition Op Source TableArg TableOp Join Partition Pipe Union BindsOp BindsPlan BindsArg BindsOp BindsJoin BindsPartition BindsPlan UnionParts op_bound source_bound arg_read table_op_bound join_read partition_read pipe_bound union_read y)) → ToldPartition (roll-Partition y)
unfolding op_places source_places arg_places table_op_places join_places partition_places pipe_places union_places op_bound source_bound arg_read table_op_bound join_read partition_read pipe_bound union_read
partition-rolled y = rolled PartitionIn (partition_places (roll-Partition y)) (partition_places_step (map-Partition Op Source TableArg TableOp Join Partition Pipe Union Places Places Places Places Places Places Places Places op_places source_places arg_places table_op_places join_places partition_places pipe_places union_places y)) (partition_read (roll-Partition y)) (partition_step (map-Partition Op Source TableArg TableOp Join Partition Pipe Union BindsOp BindsPlan BindsArg BindsOp BindsJoin BindsPartition BindsPlan UnionParts op_bound source_bound arg_read table_op_bound join_read partition_read pipe_bound union_read y)) (fold-roll-Partition Places Places Places Places Places Places Places Places op_places_step source_places_step arg_places_step table_op_places_step join_places_step partition_places_step pipe_places_step union_places_step y) (fold-roll-Partition BindsOp BindsPlan BindsArg BindsOp BindsJoin BindsPartition BindsPlan UnionParts op_step source_step table_arg_step table_op_step join_step partition_step pipe_step union_step y)

pipe-rolled : (y : Pipe-F Op Source TableArg TableOp Join Partition Pipe Union) → PlanIn (pipe_places_step (map-Pipe Op Source TableArg TableOp Join Partition Pipe Union Places Places Places Places Places Places Places Places op_places source_places arg_places table_op_places join_places partition_places pipe_places union_places y)) (pipe_step (map-Pipe Op Source TableArg TableOp Join Partition Pipe Union BindsOp BindsPlan BindsArg BindsOp BindsJoin BindsPartition BindsPlan UnionParts op_bound source_bound arg_read table_op_bound join_read partition_read pipe_bound union_read y)) → ToldPipe (roll-Pipe y)
unfolding op_places source_places arg_places table_op_places join_places partition_places pipe_places union_places op_bound source_bound arg_read table_op_bound join_read partition_read pipe_bound union_read
pipe-rolled y = rolled PlanIn (pipe_places (roll-Pipe y)) (pipe_places_step (map-Pipe Op Source TableArg TableOp Join Partition Pipe Union Places Places Places Places Places Places Places Places op_places source_places arg_places table_op_places join_places partition_places pipe_places union_places y)) (pipe_bound (roll-Pipe y)) (pipe_step (map-Pipe Op Source TableArg TableOp Join Partition Pipe Union BindsOp BindsPlan BindsArg BindsOp BindsJoin BindsPartition BindsPlan UnionParts op_bound source_bound arg_read table_op_bound join_read partition_read pipe_bound union_read y)) (fold-roll-Pipe Places Places Places Places Places Places Places Places op_places_step source_places_step arg_places_step table_op_places_step join_places_step partition_places_step pipe_places_step union_places_step y) (fold-roll-Pipe BindsOp BindsPlan BindsArg BindsOp BindsJoin BindsPartition BindsPlan UnionParts op_step source_step table_arg_step table_op_step join_step partition_step pipe_step union_step y)

union-rolled : (y : Union-F Op Source TableArg TableOp Join Partition Pipe Union) → UnionIn (union_places_step (map-Union Op Source TableArg TableOp Join Partition Pipe Union Places Places Places Places Places Places Places Places op_places source_places arg_places table_op_places join_places partition_places pipe_places union_places y)) (union_step (map-Union Op Source TableArg TableOp Join Partition Pipe Union BindsOp BindsPlan BindsArg BindsOp BindsJoin BindsPartition BindsPlan UnionParts op_bound source_bound arg_read table_op_bound join_read partition_read pipe_bound union_read y)) → ToldUnion (roll-Union y)
unfolding op_places source_places arg_places table_op_places join_places partition_places pipe_places union_places op_bound source_bound arg_read table_op_bound join_read partition_read pipe_bound union_read
union-rolled y = rolled UnionIn (union_places (roll-Union y)) (union_places_step (map-Union Op Source TableArg TableOp Join Partition Pipe Union Places Places Places Places Places Places Places Places op_places source_places arg_places table_op_places join_places partition_places pipe_places union_places y)) (union_read (roll-Union y)) (union_step (map-Union Op Source TableArg TableOp Join Partition Pipe Union BindsOp BindsPlan BindsArg BindsOp BindsJoin BindsPartition BindsPlan UnionParts op_bound source_bound arg_read table_op_bound join_read partition_read pipe_bound union_read y)) (fold-roll-Union Places Places Places Places Places Places Places Places op_places_step source_places_step arg_places_step table_op_places_step join_places_step partition_places_step pipe_places_step union_places_step y) (fold-roll-Union BindsOp BindsPlan BindsArg BindsOp BindsJoin BindsPartition BindsPlan UnionParts op_step source_step table_arg_step table_op_step join_step partition_step pipe_step union_step y)

-- Lists of parts.

wide-op : (ps qs : Places) (b : BindsOp) → Within ps qs → OpIn ps b → OpIn qs b
wide-op ps qs b w h known inside rows = told-wide ps qs (b known inside rows) w (h known inside rows)

wide-plan : (ps qs : Places) (b : BindsPlan) → Within ps qs → PlanIn ps b → PlanIn qs b
wide-plan ps qs b w h known inside = told-wide ps qs (b known inside) w (h known inside)

each-ops : (ps : Places) (gs : List GivenOp) → Within (all_places (map op_places (map bare_op gs))) ps → OpsIn ps (map op_bound (map bare_op gs))
unfolding bare_op
each-ops ps [] w = tt
each-ops ps (g ∷ gs) w =
    let own : Places = op_places g.0 in
    let others : Places = all_places (map op_places (map bare_op gs)) in
    (wide-op own ps (op_bound g.0) (in-left own others ps w) g.1, each-ops ps gs (in-right own others ps w))

each-args : (ps : Places) (gs : List GivenTableArg) → Within (all_places (map arg_places (map bare_arg gs))) ps → TablesIn ps (map arg_read (map bare_arg gs))
unfolding bare_arg
each-args ps [] w = tt
each-args ps (g ∷ gs) w =
    let own : Places = arg_places g.0 in
    let others : Places = all_places (map arg_places (map bare_arg gs)) in
    let first : Within own ps = in-left own others ps w in
    (first (arg_read g.0).0 g.1.0, wide-plan own ps (arg_read g.0).1 first g.1.1, each-args ps gs (in-right own others ps w))

of-op : (y : Op-F GivenOp GivenSource GivenTableArg GivenTableOp GivenJoin GivenPartition GivenPipe GivenUnion) → ToldOp (roll-Op (map-Op GivenOp GivenSource GivenTableArg GivenTableOp GivenJoin GivenPartition GivenPipe GivenUnion Op Source TableArg TableOp Join Partition Pipe Union bare_op bare_source bare_arg bare_table_op bare_join bare_partition bare_pipe bare_union y))
unfolding bare_op bare_source bare_arg bare_table_op bare_join bare_partition bare_pipe bare_union
of-op (Op-F.Columns o) = op-rolled (Op-F.Columns o) (λ known inside rows. told-column-op o known rows)
of-op (Op-F.Rows o) = op-rolled (Op-F.Rows o) (λ known inside rows. told-row-op o known (apart rows))
of-op (Op-F.Groups o) = op-rolled (Op-F.Groups o) (λ known inside rows. told-group-op o known (apart rows))
of-op (Op-F.Tables o) = op-rolled (Op-F.Tables o.0) (λ known inside rows. o.1 known inside (apart rows))

of-source : (y : Source-F GivenOp GivenSource GivenTableArg GivenTableOp GivenJoin GivenPartition GivenPipe GivenUnion) → ToldSource (roll-Source (map-Source GivenOp GivenSource GivenTableArg GivenTableOp GivenJoin GivenPartition GivenPipe GivenUnion Op Source TableArg TableOp Join Partition Pipe Union bare_op bare_source bare_arg bare_table_op bare_join bare_partition bare_pipe bare_union y))
unfolding bare_op bare_source bare_arg bare_table_op bare_join bare_partition bare_pipe bare_union
of-source (Source-F.«Source::Table» n) = source-rolled (Source-F.«Source::Table» n) (λ known inside. told-table (one_place n) known n (inl refl))
of-source (Source-F.Range operator r) = source-rolled (Source-F.Range operator r) (λ known inside. told-range operator r known)
of-source (Source-F.Print operator items) = source-rolled (Source-F.Print operator items) (λ known inside. told-print operator items known)
of-source (Source-F.«Source::Union» operator u) = source-rolled (Source-F.«Source::Union» operator u.0) (λ known inside. told-union-source (operator ∷ union_places u.0) operator (union_read u.0) known inside (inl refl) (u.1 (operator ∷ union_places u.0) (λ q m. inr m)))

of-arg : (y : TableArg-F GivenOp GivenSource GivenTableArg GivenTableOp GivenJoin GivenPartition GivenPipe GivenUnion) → ToldTableArg (roll-TableArg (map-TableArg GivenOp GivenSource GivenTableArg GivenTableOp GivenJoin GivenPartition GivenPipe GivenUnion Op Source TableArg TableOp Join Partition Pipe Union bare_op bare_source bare_arg bare_table_op bare_join bare_partition bare_pipe bare_union y))
unfolding bare_op bare_source bare_arg bare_table_op bare_join bare_partition bare_pipe bare_union
of-arg (TableArg-F.«TableArg::Table» n) = arg-rolled (TableArg-F.«TableArg::Table» n) (inl refl, λ known inside. told-table (one_place n) known n (inl refl))
of-arg (TableArg-F.Pipe place p) = arg-rolled (TableArg-F.Pipe place p.0) (inl refl, wide-plan (pipe_places p.0) (place ∷ pipe_places p.0) (pipe_bound p.0) (λ q m. inr m) p.1)

of-table_op : (y : TableOp-F GivenOp GivenSource GivenTableArg GivenTableOp GivenJoin GivenPartition GivenPipe GivenUnion) → ToldTableOp (roll-TableOp (map-TableOp GivenOp GivenSource GivenTableArg GivenTableOp GivenJoin GivenPartition GivenPipe GivenUnion Op Source TableArg TableOp Join Partition Pipe Union bare_op bare_source bare_arg bare_table_op bare_join bare_partition bare_pipe bare_union y))
unfolding bare_op bare_source bare_arg bare_table_op bare_join bare_partition bare_pipe bare_union
of-table_op (TableOp-F.Join operator j) = table_op-rolled (TableOp-F.Join operator j.0) (j.1 operator false)
of-table_op (TableOp-F.Lookup operator j) = table_op-rolled (TableOp-F.Lookup operator j.0) (j.1 operator true)
of-table_op (TableOp-F.«TableOp::Union» operator u) = table_op-rolled (TableOp-F.«TableOp::Union» operator u.0) (λ known inside rows. told-union (operator ∷ union_places u.0) operator (union_read u.0) known inside rows (inl refl) (u.1 (operator ∷ union_places u.0) (λ q m. inr m)))
of-table_op (TableOp-F.Scan operator s) = table_op-rolled (TableOp-F.Scan operator s) (λ known inside rows. told-scan operator s known rows)
of-table_op (TableOp-F.Partition operator p) = table_op-rolled (TableOp-F.Partition operator p.0) (p.1 operator)

told-join-of : (arg : GivenTableArg) (form : Option (JoinSign × List Hint)) (keys : List On) (operator : Place) (lookup : Bool) → OpIn (operator ∷ (arg_places arg.0 ++ flat_map on_places keys)) (λ known inside rows. join_bound operator lookup form keys known inside rows ((arg_read arg.0).1 known inside))
told-join-of arg form keys operator lookup known inside rows =
    let own : Places = arg_places arg.0 in
    let others : Places = flat_map on_places keys in
    let ps : Places = operator ∷ (own ++ others) in
    told-join ps operator lookup form keys known inside rows ((arg_read arg.0).1 known inside) (inl refl) (λ q m. inr (member-right own others q m)) (wide-plan own ps (arg_read arg.0).1 (λ q m. inr (member-left own others q m)) arg.1.1 known inside)

of-join : (y : Join-F GivenOp GivenSource GivenTableArg GivenTableOp GivenJoin GivenPartition GivenPipe GivenUnion) → ToldJoin (roll-Join (map-Join GivenOp GivenSource GivenTableArg GivenTableOp GivenJoin GivenPartition GivenPipe GivenUnion Op Source TableArg TableOp Join Partition Pipe Union bare_op bare_source bare_arg bare_table_op bare_join bare_partition bare_pipe bare_union y))
unfolding bare_op bare_source bare_arg bare_table_op bare_join bare_partition bare_pipe bare_union
of-join y = join-rolled (map-Join GivenOp GivenSource GivenTableArg GivenTableOp GivenJoin GivenPartition GivenPipe GivenUnion Op Source TableArg TableOp Join Partition Pipe Union bare_op bare_source bare_arg bare_table_op bare_join bare_partition bare_pipe bare_union y) (told-join-of y.table y.kind y.on)

told-partition-of : (column : Name) (gs : List GivenOp) (operator : Place) → OpIn (operator ∷ name_place column ∷ all_places (map op_places (map bare_op gs))) (λ known inside rows. partition_bound operator column (map op_bound (map bare_op gs)) known inside rows)
told-partition-of column gs operator known inside rows =
    let ps : Places = operator ∷ name_place column ∷ all_places (map op_places (map bare_op gs)) in
    told-partition ps operator column (map op_bound (map bare_op gs)) known inside rows (inl refl) (in-cons (name_place column) [] ps (inr (inl refl)) (in-none ps)) (each-ops ps gs (λ q m. inr (inr m)))

of-partition : (y : Partition-F GivenOp GivenSource GivenTableArg GivenTableOp GivenJoin GivenPartition GivenPipe GivenUnion) → ToldPartition (roll-Partition (map-Partition GivenOp GivenSource GivenTableArg GivenTableOp GivenJoin GivenPartition GivenPipe GivenUnion Op Source TableArg TableOp Join Partition Pipe Union bare_op bare_source bare_arg bare_table_op bare_join bare_partition bare_pipe bare_union y))
unfolding bare_op bare_source bare_arg bare_table_op bare_join bare_partition bare_pipe bare_union
of-partition y = partition-rolled (map-Partition GivenOp GivenSource GivenTableArg GivenTableOp GivenJoin GivenPartition GivenPipe GivenUnion Op Source TableArg TableOp Join Partition Pipe Union bare_op bare_source bare_arg bare_table_op bare_join bare_partition bare_pipe bare_union y) (told-partition-of y.column y.ops)

told-pipe-of : (source : GivenSource) (gs : List GivenOp) → PlanIn (source_places source.0 ++ all_places (map op_places (map bare_op gs))) (λ known inside. piped (source_bound source.0 known inside) (map op_bound (map bare_op gs)) known inside)
told-pipe-of source gs known inside =
    let own : Places = source_places source.0 in
    let others : Places = all_places (map op_places (map bare_op gs)) in
    let ps : Places = own ++ others in
    told-piped ps (source_bound source.0 known inside) (map op_bound (map bare_op gs)) known inside (wide-plan own ps (source_bound source.0) (member-left own others) source.1 known inside) (each-ops ps gs (member-right own others))

of-pipe : (y : Pipe-F GivenOp GivenSource GivenTableArg GivenTableOp GivenJoin GivenPartition GivenPipe GivenUnion) → ToldPipe (roll-Pipe (map-Pipe GivenOp GivenSource GivenTableArg GivenTableOp GivenJoin GivenPartition GivenPipe GivenUnion Op Source TableArg TableOp Join Partition Pipe Union bare_op bare_source bare_arg bare_table_op bare_join bare_partition bare_pipe bare_union y))
unfolding bare_op bare_source bare_arg bare_table_op bare_join bare_partition bare_pipe bare_union
of-pipe y = pipe-rolled (map-Pipe GivenOp GivenSource GivenTableArg GivenTableOp GivenJoin GivenPartition GivenPipe GivenUnion Op Source TableArg TableOp Join Partition Pipe Union bare_op bare_source bare_arg bare_table_op bare_join bare_partition bare_pipe bare_union y) (told-pipe-of y.source y.ops)

of-union : (y : Union-F GivenOp GivenSource GivenTableArg GivenTableOp GivenJoin GivenPartition GivenPipe GivenUnion) → ToldUnion (roll-Union (map-Union GivenOp GivenSource GivenTableArg GivenTableOp GivenJoin GivenPartition GivenPipe GivenUnion Op Source TableArg TableOp Join Partition Pipe Union bare_op bare_source bare_arg bare_table_op bare_join bare_partition bare_pipe bare_union y))
unfolding bare_op bare_source bare_arg bare_table_op bare_join bare_partition bare_pipe bare_union
of-union y = union-rolled (map-Union GivenOp GivenSource GivenTableArg GivenTableOp GivenJoin GivenPartition GivenPipe GivenUnion Op Source TableArg TableOp Join Partition Pipe Union bare_op bare_source bare_arg bare_table_op bare_join bare_partition bare_pipe bare_union y) (λ qs w. each-args qs y.tables w)

-- A pipe.

pub every-pipe : (p : Pipe) → PlanIn (pipe_places p) (pipe_bound p)
unfolding bare_op bare_source bare_arg bare_table_op bare_join bare_partition bare_pipe bare_union
every-pipe = ind-Pipe ToldOp ToldSource ToldTableArg ToldTableOp ToldJoin ToldPartition ToldPipe ToldUnion
    (λ x y is. subst (λ (z : Op-F Op Source TableArg TableOp Join Partition Pipe Union). ToldOp (roll-Op z)) is (of-op y))
    (λ x y is. subst (λ (z : Source-F Op Source TableArg TableOp Join Partition Pipe Union). ToldSource (roll-Source z)) is (of-source y))
    (λ x y is. subst (λ (z : TableArg-F Op Source TableArg TableOp Join Partition Pipe Union). ToldTableArg (roll-TableArg z)) is (of-arg y))
    (λ x y is. subst (λ (z : TableOp-F Op Source TableArg TableOp Join Partition Pipe Union). ToldTableOp (roll-TableOp z)) is (of-table_op y))
    (λ x y is. subst (λ (z : Join-F Op Source TableArg TableOp Join Partition Pipe Union). ToldJoin (roll-Join z)) is (of-join y))
    (λ x y is. subst (λ (z : Partition-F Op Source TableArg TableOp Join Partition Pipe Union). ToldPartition (roll-Partition z)) is (of-partition y))
    (λ x y is. subst (λ (z : Pipe-F Op Source TableArg TableOp Join Partition Pipe Union). ToldPipe (roll-Pipe z)) is (of-pipe y))
    (λ x y is. subst (λ (z : Union-F Op Source TableArg TableOp Join Partition Pipe Union). ToldUnion (roll-Union z)) is (of-union y))

-- A pipe that is a name alone stands at that name.

source-name : (y : Source-F Op Source TableArg TableOp Join Partition Pipe Union) (n : Name) → name_of_source y ≡ Some n → Member (name_place n) (source_places (roll-Source y))
unfolding source_places
source-name (Source-F.«Source::Table» x) n is = subst (λ (ps : Places). Member (name_place n) ps) (sym (fold-roll-Source Places Places Places Places Places Places Places Places op_places_step source_places_step arg_places_step table_op_places_step join_places_step partition_places_step pipe_places_step union_places_step (Source-F.«Source::Table» x))) (inl (ap name_place (some-same x n is)))
source-name (Source-F.Range operator r) n is = absurd (let c : None ≡ Some n = is in cc)
source-name (Source-F.Print operator items) n is = absurd (let c : None ≡ Some n = is in cc)
source-name (Source-F.«Source::Union» operator u) n is = absurd (let c : None ≡ Some n = is in cc)

source-alone : (s : Source) (n : Name) → source_name s ≡ Some n → Member (name_place n) (source_places s)
unfolding source_name
source-alone s n is = subst (λ (z : Source). Member (name_place n) (source_places z)) (roll-out-Source s) (source-name (out-Source s) n is)

alone-some : {A : Type 0} (ops : List A) (o : Option Name) (n : Name) → if_alone ops o ≡ Some n → o ≡ Some n
alone-some [] o n is = is
alone-some (x ∷ xs) o n is = absurd (let c : None ≡ Some n = is in cc)

source-in : (p : Pipe) → Within (source_places (out-Pipe p).source) (pipe_places p)
unfolding pipe_places source_places
source-in p q m = subst (λ (z : Pipe). Member q (pipe_places z)) (roll-out-Pipe p) (subst (λ (ps : Places). Member q ps) (sym (fold-roll-Pipe Places Places Places Places Places Places Places Places op_places_step source_places_step arg_places_step table_op_places_step join_places_step partition_places_step pipe_places_step union_places_step (out-Pipe p))) (member-left (source_places (out-Pipe p).source) _ q m))

name-alone : (p : Pipe) (n : Name) → name_alone p ≡ Some n → Member (name_place n) (pipe_places p)
unfolding name_alone
name-alone p n is = source-in p (name_place n) (source-alone (out-Pipe p).source n (alone-some (out-Pipe p).ops (source_name (out-Pipe p).source) n is))

-- Let statements.

told-table-let : (ps : Places) (n : List ℕ) (done : BoundStatements) (p : Outcome BoundPlan) → ToldIn ps p → ToldIn ps (table_let n done p)
unfolding table_let
told-table-let ps n done p h = told-then ps p (λ (b : BoundPlan). Ok (with_table n b done)) h (λ b. told-ok ps (with_table n b done))

told-constant-let : (ps : Places) (n : List ℕ) (done : BoundStatements) (l : Outcome Lit) → ToldIn ps l → ToldIn ps (constant_let n done l)
unfolding constant_let
told-constant-let ps n done l h = told-then ps l (λ (b : Lit). Ok (with_constant n b done)) h (λ b. told-ok ps (with_constant n b done))

told-constant-named : (ps : Places) (statement : Place) (known : Known) (n : Name) → Member statement ps → Member (name_place n) ps → ToldIn ps (constant_named statement known n)
unfolding constant_named
told-constant-named ps statement known n m k = told-then ps (name_bound n (scope_at known no_rows position.Constant)) (λ (t : Typed). constant_wanted statement wanted.Any (name_place n) t) (told-named ps n (scope_at known no_rows position.Constant) k) (λ t. told-wanted ps statement wanted.Any (name_place n) t m k)

told-name-let : (ps : Places) (statement : Place) (n : List ℕ) (done : BoundStatements) (other : Name) (o : Option BoundPlan) → Member statement ps → Member (name_place other) ps → ToldIn ps (name_let statement n done other o)
told-name-let ps statement n done other (Some p) m k = told-table-let ps n done (Ok p) (told-ok ps p)
told-name-let ps statement n done other None m k = told-constant-let ps n done (constant_named statement done.known other) (told-constant-named ps statement done.known other m k)

told-pipe : (ps : Places) (p : Pipe) (known : Known) (inside : Bool) → Within (pipe_places p) ps → ToldIn ps (pipe_bound p known inside)
told-pipe ps p known inside w = told-wide (pipe_places p) ps (pipe_bound p known inside) w (every-pipe p known inside)

told-pipe-let : (ps : Places) (statement : Place) (n : List ℕ) (done : BoundStatements) (p : Pipe) (o : Option Name) → name_alone p ≡ o → Member statement ps → Within (pipe_places p) ps → ToldIn ps (pipe_let statement n done p o)
told-pipe-let ps statement n done p None is m w = told-table-let ps n done (pipe_bound p done.known false) (told-pipe ps p done.known false w)
told-pipe-let ps statement n done p (Some other) is m w = told-name-let ps statement n done other (table_named done.known (text_of other)) m (w (name_place other) (name-alone p other is))

told-body : (ps : Places) (statement : Place) (n : List ℕ) (b : LetBody) (done : BoundStatements) → Member statement ps → Within (body_places b) ps → ToldIn ps (body_bound statement n b done)
unfolding body_bound
told-body ps statement n (body.Pipe p) done m w = told-pipe-let ps statement n done p (name_alone p) refl m w
told-body ps statement n (body.Expr e) done m w = told-constant-let ps n done (constant_bound statement wanted.Any done.known no_rows e) (told-constant ps statement wanted.Any done.known no_rows e m w)

told-let : (ps : Places) (l : Let) (done : BoundStatements) → Within (let_places l) ps → ToldIn ps (let_bound l done)
unfolding let_bound let_faults
told-let ps l done w = told-then ps (unless (let_faults done.known l.name) done) (body_bound l.place (text_of l.name) l.body)
    (told-unless ps (let_faults done.known l.name) done (placed-if ps (is_let_name done.known (text_of l.name)) 417 (name_place l.name) (w (name_place l.name) (inr (inl refl)))))
    (λ d. told-body ps l.place (text_of l.name) l.body d (w l.place (inl refl)) (λ q m. w q (inr (inr m))))

told-lets : (ps : Places) (lets : List Let) (start : Outcome BoundStatements) → Within (flat_map let_places lets) ps → ToldIn ps start → ToldIn ps (fold (λ before (l : Let). next_let l before) start lets)
unfolding next_let
told-lets ps [] start w h = h
told-lets ps (l ∷ ls) start w h = told-lets ps ls (next_let l start) (in-right (let_places l) (flat_map let_places ls) ps w) (told-then ps start (let_bound l) h (λ done. told-let ps l done (in-left (let_places l) (flat_map let_places ls) ps w)))

-- The whole.

told-query : (q : Query) (schemas : List NamedSchema) (moment : Option ℤ) → ToldIn (query_places q) (bound q schemas moment)
unfolding bound lets_bound query_places
told-query q schemas moment =
    let known : Known = known_at_first schemas moment in
    let of_lets : Places = flat_map let_places q.lets in
    let ps : Places = of_lets ++ pipe_places q.main in
    told-then ps (lets_bound q.lets known) (λ (done : BoundStatements). pipe_bound q.main done.known false >>= λ main. Ok (program_of schemas done main)) (told-lets ps q.lets (Ok (no_statements known)) (member-left of_lets (pipe_places q.main)) (told-ok ps (no_statements known)))
    (λ done. told-then ps (pipe_bound q.main done.known false) (λ (main : BoundPlan). Ok (program_of schemas done main)) (told-pipe ps q.main done.known false (member-right of_lets (pipe_places q.main))) (λ main. told-ok ps (program_of schemas done main)))

-- What is refused stands among the places.
place-of : (ps : Places) (r : Outcome Program) (code : ℕ) (place : Place) → ToldIn ps r → r ≡ Err (fault.Refused code place) → Member place ps
place-of ps r code place h is =
    let told : ToldIn ps (Err (fault.Refused code place)) = subst (λ (x : Outcome Program). ToldIn ps x) is h in
    told.holds

pub refused-placed : RefusedIsPlaced
refused-placed q schemas moment code place is = contains-member (query_places q) place (place-of (query_places q) (bound q schemas moment) code place (told-query q schemas moment) is)

pub ruleset query_place_laws = (refused-placed)

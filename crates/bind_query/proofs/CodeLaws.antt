-- Each refusal of a query has one of the codes of binding, and want of memory is none of them.
use Rattle.std.proofs.Common.{◌≡◌, ◌+◌, ℕ, List, [], ◌∷◌, ◌++◌, map, sym, ap, subst}
use Rattle.std.specs.Prelude.{◌||◌, nat_le, ℤ, Bool, true, false, not, Option, None, Some, Ok, Err, fold}
use Rattle.kql_cells.specs.declared.schema.Column.{Column}
use Rattle.kql_cells.specs.declared.schemas.NamedSchema.{NamedSchema}
use Rattle.kql_cells.specs.declared.value.Kind.{Kind}
use Rattle.kql_cells.specs.declared.value.Kind.TheVariants as kind
use Rattle.kql_functions.specs.Kinds.{is_dynamic}
use Rattle.kql_bound.specs.declared.literal.Lit.{Lit}
use Rattle.kql_bound.specs.declared.parts.BItem.{BItem}
use Rattle.kql_bound.specs.declared.parts.Decl.{Decl as BoundDecl}
use Rattle.kql_bound.specs.declared.parts.JoinPlan.{JoinPlan}
use Rattle.kql_bound.specs.declared.parts.OnPair.{OnPair}
use Rattle.kql_bound.specs.declared.parts.ScanPlan.{ScanPlan}
use Rattle.kql_bound.specs.declared.parts.ScanStep.{ScanStep}
use Rattle.kql_bound.specs.declared.plan.Op.TheVariants as op
use Rattle.kql_bound.specs.declared.plan.Program.{Program}
use Rattle.kql_lexer.specs.declared.place.Place.{Place}
use Rattle.kql_meaning.specs.FittingOperators.{pair_fits}
use Rattle.kql_meaning.specs.Join.{join_columns}
use Rattle.kql_meaning.specs.Scan.{scan_columns}
use Rattle.kql_meaning.specs.Tables.{is_name_among, names_of}
use Rattle.kql_meaning.specs.Union.{union_columns}
use Rattle.kql_meaning.specs.declared.position.Position.TheVariants as position
use Rattle.kql_syntax.specs.declared.query.Decl.{Decl}
use Rattle.kql_syntax.specs.declared.query.Hint.{Hint}
use Rattle.kql_syntax.specs.declared.query.Join.{Join, fold-roll-Join, map-Join, roll-Join}
use Rattle.kql_syntax.specs.declared.query.JoinSign.{JoinSign}
use Rattle.kql_syntax.specs.declared.query.Let.{Let}
use Rattle.kql_syntax.specs.declared.query.LetBody.{LetBody}
use Rattle.kql_syntax.specs.declared.query.LetBody.TheVariants as body
use Rattle.kql_syntax.specs.declared.query.On.{On}
use Rattle.kql_syntax.specs.declared.query.On.TheVariants as on
use Rattle.kql_syntax.specs.declared.query.Op.{Op, fold-roll-Op, map-Op, roll-Op}
use Rattle.kql_syntax.specs.declared.query.Op.TheOpen.{Join-F, Op-F, Partition-F, Pipe-F, Source-F, TableArg-F, TableOp-F, Union-F}
use Rattle.kql_syntax.specs.declared.query.Partition.{Partition, fold-roll-Partition, map-Partition, roll-Partition}
use Rattle.kql_syntax.specs.declared.query.Pipe.{Pipe, fold-roll-Pipe, ind-Pipe, map-Pipe, roll-Pipe}
use Rattle.kql_syntax.specs.declared.query.Query.{Query}
use Rattle.kql_syntax.specs.declared.query.Scan.{Scan}
use Rattle.kql_syntax.specs.declared.query.Source.{Source, fold-roll-Source, map-Source, roll-Source}
use Rattle.kql_syntax.specs.declared.query.Step.{Step}
use Rattle.kql_syntax.specs.declared.query.TableArg.{TableArg, fold-roll-TableArg, map-TableArg, roll-TableArg}
use Rattle.kql_syntax.specs.declared.query.TableOp.{TableOp, fold-roll-TableOp, map-TableOp, roll-TableOp}
use Rattle.kql_syntax.specs.declared.query.Union.{Union, fold-roll-Union, map-Union, roll-Union}
use Rattle.kql_syntax.specs.declared.tree.Expr.{Expr}
use Rattle.kql_syntax.specs.declared.tree.Name.{Name}
use Rattle.bind_expr.specs.Names.{name_bound, text_of}
use Rattle.bind_expr.specs.Outcome.{Answers, Outcome, ◌>>=◌}
use Rattle.bind_expr.specs.declared.fault.BindFault.{BindFault}
use Rattle.bind_expr.specs.declared.fault.BindFault.TheVariants as fault
use Rattle.bind_expr.specs.declared.scope.Scope.{Scope}
use Rattle.bind_expr.specs.declared.typed.Typed.{Typed}
use Rattle.bind_operators.specs.declared.bound.BoundOp.{BoundOp}
use Rattle.bind_operators.specs.declared.bound.BoundPlan.{BoundPlan}
use Rattle.bind_operators.specs.declared.known.Known.{Known}
use Rattle.bind_operators.specs.declared.shape.Shape.{Shape}
use Rattle.bind_operators.specs.declared.wanted.Wanted.{Wanted}
use Rattle.bind_operators.specs.declared.wanted.Wanted.TheVariants as wanted
use Rattle.bind_operators.specs.Answers.{apart, made}
use Rattle.bind_operators.specs.Faults.{each_bound, fault_if, unless}
use Rattle.bind_operators.specs.Items.{names_twice}
use Rattle.bind_operators.specs.Known.{column_wanted, no_rows, scope_at, table_named}
use Rattle.bind_operators.specs.Places.{name_place}
use Rattle.bind_operators.specs.Wanted.{constant_bound, constant_wanted, kind_bound, typed_bound}
use Rattle.bind_groups.specs.Summarize.{distinct_column}
use Rattle.bind_query.specs.declared.bound.BoundOps.{BoundOps}
use Rattle.bind_query.specs.declared.bound.BoundStatements.{BoundStatements}
use Rattle.bind_query.specs.Bound.{bound, known_at_first, lets_bound, next_let, no_statements, program_of}
use Rattle.bind_query.specs.Join.{join_bound, join_plan, joined, key_bound as join_key, key_clashes, key_place, pair_of, pair_wanted}
use Rattle.bind_query.specs.Laws.{EachIsTold, IsTold, is_query_code}
use Rattle.bind_query.specs.Lets.{body_bound, constant_let, constant_named, is_let_name, let_bound, let_faults, name_alone, name_let, pipe_let, table_let, with_constant, with_table}
use Rattle.bind_query.specs.Operators.{BindsJoin, BindsPartition, arg_read, join_read, join_step, op_bound, op_step, partition_read, partition_step, pipe_bound, pipe_step, source_bound, source_step, table_arg_step, table_op_bound, table_op_step, union_read, union_step}
use Rattle.bind_query.specs.Partition.{partition_bound, partitioned}
use Rattle.bind_query.specs.Pipes.{BindsArg, BindsOp, BindsPlan, UnionParts, next_op, no_ops, ops_over, piped, with_op, with_ops}
use Rattle.bind_query.specs.Scan.{assignment_bound, assignment_faults, assignment_item, decl_bound, decl_of, declared_default, declared_kind, declared_names, new_names, scan_bound, scan_faults, scan_plan, scan_step, scanned, step_bound, step_faults, step_name_faults, step_scope, wanted_of}
use Rattle.bind_query.specs.Union.{columns_behind, places_of, plan_of, stand_behind, table_clashes, tables_bound, union_bound, union_of, union_source_bound, united, united_plan}
use Rattle.bind_query.proofs.OperatorCodes.{AreCoded, Each, coded-append, coded-names, if-404, if-407, if-413, if-415, if-416, if-417, told-419, told-answer, told-column, told-column-op, told-constant, told-distinct-column, told-each, told-given, told-group-op, told-kind, told-name, told-ok, told-print, told-range, told-row-op, told-table, told-then, told-typed, told-unless, told-wanted}

-- Scans.

told-declared-default : (operator : Place) (known : Known) (rows : Shape) (k : Kind) (o : Option Expr) → IsTold (declared_default operator known rows k o)
unfolding declared_default
told-declared-default operator known rows k None = record { holds = tt }
told-declared-default operator known rows k (Some e) = told-constant operator (wanted.Is k) known rows e

told-decl : (operator : Place) (known : Known) (rows : Shape) (d : Decl) → IsTold (decl_bound operator known rows d)
unfolding decl_bound
told-decl operator known rows d = told-then (kind_bound d.kind) (λ (k : Kind). declared_default operator known rows k d.default >>= λ default. Ok (decl_of d default)) (told-kind d.kind)
    (λ k. told-then (declared_default operator known rows k d.default) (λ (default : Lit). Ok (decl_of d default)) (told-declared-default operator known rows k d.default) (λ default. told-ok (decl_of d default)))

told-assignment : (scope : Scope) (declared : List BoundDecl) (a : Name × Expr) → IsTold (assignment_bound scope declared a)
unfolding assignment_bound
told-assignment scope declared a =
    let want : Wanted = wanted_of (declared_kind declared (text_of a.0)) in
    told-then (typed_bound want a.1 scope) (λ (t : Typed). Ok (assignment_item a t)) (told-typed want a.1 scope) (λ t. told-ok (assignment_item a t))

told-step : (scope : Scope) (declared : List BoundDecl) (s : Step) → IsTold (step_bound scope declared s)
unfolding step_bound
told-step scope declared s = told-then (typed_bound (wanted.Is kind.Bool) s.condition scope) (λ (condition : Typed). each_bound (assignment_bound scope declared) s.sets >>= λ sets. Ok (scan_step s condition sets)) (told-typed (wanted.Is kind.Bool) s.condition scope)
    (λ condition. told-then (each_bound (assignment_bound scope declared) s.sets) (λ (sets : List BItem). Ok (scan_step s condition sets)) (told-each (assignment_bound scope declared) (told-assignment scope declared) s.sets) (λ sets. told-ok (scan_step s condition sets)))

coded-step-names : (before : List (List ℕ)) (ss : List Step) → AreCoded (step_name_faults before ss)
unfolding step_name_faults
coded-step-names before [] = tt
coded-step-names before (s ∷ ss) = coded-append (fault_if (is_name_among before (text_of s.name)) 417 (name_place s.name)) (step_name_faults (before ++ text_of s.name ∷ []) ss) (if-417 (is_name_among before (text_of s.name)) (name_place s.name)) (coded-step-names (before ++ text_of s.name ∷ []) ss)

coded-assignments : (declared done : List (List ℕ)) (sets : List (Name × Expr)) → AreCoded (assignment_faults declared done sets)
unfolding assignment_faults
coded-assignments declared done [] = tt
coded-assignments declared done (a ∷ more) =
    let wrong : Bool = not (is_name_among declared (text_of a.0)) || is_name_among done (text_of a.0) in
    coded-append (fault_if wrong 413 (name_place a.0)) (assignment_faults declared (done ++ text_of a.0 ∷ []) more) (if-413 wrong (name_place a.0)) (coded-assignments declared (done ++ text_of a.0 ∷ []) more)

coded-steps : (declared : List (List ℕ)) (before : ℕ) (ss : List Step) → AreCoded (step_faults declared before ss)
unfolding step_faults
coded-steps declared before [] = tt
coded-steps declared before (s ∷ ss) = coded-append (fault_if (nat_le 64 before) 413 (name_place s.name)) (assignment_faults declared [] s.sets ++ step_faults declared (before + 1) ss) (if-413 (nat_le 64 before) (name_place s.name))
    (coded-append (assignment_faults declared [] s.sets) (step_faults declared (before + 1) ss) (coded-assignments declared [] s.sets) (coded-steps declared (before + 1) ss))

coded-scan : (operator : Place) (s : Scan) (rows : Shape) → AreCoded (scan_faults operator s rows)
unfolding scan_faults
coded-scan operator s rows =
    let twice_named : List BindFault = names_twice (names_of rows.columns) (new_names s.match_id s.declared) in
    let of_steps : List BindFault = step_faults (declared_names s.declared) 0 s.steps in
    coded-append (fault_if (not rows.serial) 407 operator) (twice_named ++ (step_name_faults [] s.steps ++ of_steps)) (if-407 (not rows.serial) operator)
    (coded-append twice_named (step_name_faults [] s.steps ++ of_steps) (coded-names (names_of rows.columns) (new_names s.match_id s.declared))
    (coded-append (step_name_faults [] s.steps) of_steps (coded-step-names [] s.steps) (coded-steps (declared_names s.declared) 0 s.steps)))

told-scanned : (operator : Place) (s : Scan) (rows : Shape) (plan : ScanPlan) → IsTold (scanned operator s rows plan)
unfolding scanned
told-scanned operator s rows plan = told-answer operator (scan_faults operator s rows) (op.Scan plan) (scan_columns plan rows.columns) true (coded-scan operator s rows)

told-scan : (operator : Place) (s : Scan) (known : Known) (rows : Shape) → IsTold (scan_bound operator s known rows)
unfolding scan_bound
told-scan operator s known rows = told-then (each_bound (decl_bound operator known rows) s.declared) (λ (declared : List BoundDecl). each_bound (step_bound (step_scope known rows s.steps declared) declared) s.steps >>= λ steps. scanned operator s rows (scan_plan s declared steps)) (told-each (decl_bound operator known rows) (told-decl operator known rows) s.declared)
    (λ declared. told-then (each_bound (step_bound (step_scope known rows s.steps declared) declared) s.steps) (λ (steps : List ScanStep). scanned operator s rows (scan_plan s declared steps)) (told-each (step_bound (step_scope known rows s.steps declared) declared) (told-step (step_scope known rows s.steps declared) declared) s.steps) (λ steps. told-scanned operator s rows (scan_plan s declared steps)))

-- Joins.

told-pair : (place : Place) (left right : Column) → IsTold (pair_wanted place left right)
unfolding pair_wanted
told-pair place left right =
    let pair : OnPair = record { left = left.name; right = right.name } in
    told-unless (fault_if (is_dynamic left.kind || is_dynamic right.kind) 404 place) pair (if-404 (is_dynamic left.kind || is_dynamic right.kind) place)

told-both : (place : Place) (left right : Outcome Column) → IsTold left → IsTold right → IsTold (pair_of place left right)
unfolding pair_of
told-both place left right h k = told-then left (λ (l : Column). right >>= λ r. pair_wanted place l r) h (λ l. told-then right (λ (r : Column). pair_wanted place l r) k (λ r. told-pair place l r))

told-on : (operator : Place) (known : Known) (left right : List Column) (k : On) → IsTold (join_key operator known left right k)
unfolding join_key pair_of
told-on operator known left right (on.Column n) = told-both (name_place n) (column_wanted operator known left n) (column_wanted operator known right n) (told-column operator known left n) (told-column operator known right n)
told-on operator known left right (on.Pair p) = told-both p.left_place (column_wanted operator known left p.left) (column_wanted operator known right p.right) (told-column operator known left p.left) (told-column operator known right p.right)

coded-keys : (left right : List Column) (keys : List On) (pairs : List OnPair) → AreCoded (key_clashes left right keys pairs)
unfolding key_clashes
coded-keys left right [] pairs = tt
coded-keys left right (k ∷ ks) [] = tt
coded-keys left right (k ∷ ks) (p ∷ ps) = coded-append (fault_if (not (pair_fits left right p)) 415 (key_place k)) (key_clashes left right ks ps) (if-415 (not (pair_fits left right p)) (key_place k)) (coded-keys left right ks ps)

told-joined : (operator : Place) (inside : Bool) (rows : Shape) (right : BoundPlan) (keys : List On) (plan : JoinPlan) → IsTold (joined operator inside rows right keys plan)
unfolding joined
told-joined operator inside rows right keys plan =
    let clashes : List BindFault = key_clashes rows.columns right.after.columns keys plan.on in
    told-answer operator (fault_if inside 416 operator ++ clashes) (op.Join plan right.plan) (join_columns plan.kind plan rows.columns right.after.columns) false
    (coded-append (fault_if inside 416 operator) clashes (if-416 inside operator) (coded-keys rows.columns right.after.columns keys plan.on))

told-join : (operator : Place) (lookup : Bool) (form : Option (JoinSign × List Hint)) (keys : List On) (known : Known) (inside : Bool) (rows : Shape) (right : Outcome BoundPlan) → IsTold right → IsTold (join_bound operator lookup form keys known inside rows right)
unfolding join_bound
told-join operator lookup form keys known inside rows right h = told-then right (λ (r : BoundPlan). each_bound (join_key operator known rows.columns r.after.columns) keys >>= λ pairs. joined operator inside rows r keys (join_plan lookup form pairs)) h
    (λ r. told-then (each_bound (join_key operator known rows.columns r.after.columns) keys) (λ (pairs : List OnPair). joined operator inside rows r keys (join_plan lookup form pairs)) (told-each (join_key operator known rows.columns r.after.columns) (told-on operator known rows.columns r.after.columns) keys) (λ pairs. told-joined operator inside rows r keys (join_plan lookup form pairs)))

-- Unions.

coded-tables : (columns : List Column) (places : List Place) (others : List BoundPlan) → AreCoded (table_clashes columns places others)
unfolding table_clashes
coded-tables columns [] others = tt
coded-tables columns (p ∷ ps) [] = tt
coded-tables columns (p ∷ ps) (o ∷ os) = coded-append (fault_if (not (stand_behind columns o)) 415 p) (table_clashes columns ps os) (if-415 (not (stand_behind columns o)) p) (coded-tables columns ps os)

told-united : (operator : Place) (inside inner : Bool) (rows : Shape) (places : List Place) (others : List BoundPlan) → IsTold (united operator inside inner rows places others)
unfolding united
told-united operator inside inner rows places others =
    let columns : List Column = union_columns inner rows.columns (map columns_behind others) in
    told-answer operator (fault_if inside 416 operator ++ table_clashes columns places others) (op.Union inner (map plan_of others)) columns false
    (coded-append (fault_if inside 416 operator) (table_clashes columns places others) (if-416 inside operator) (coded-tables columns places others))

-- Each table argument of a union is told.
abbrev EachTable : List BindsArg → Type 0
EachTable tables = (known : Known) (inside : Bool) → Each (λ (t : BindsArg). t.1 known inside) tables

told-tables : (tables : List BindsArg) → EachTable tables → (known : Known) (inside : Bool) → IsTold (tables_bound tables known inside)
unfolding tables_bound
told-tables tables h known inside = told-given (λ (t : BindsArg). t.1 known inside) tables (h known inside)

told-union : (operator : Place) (u : UnionParts) (known : Known) (inside : Bool) (rows : Shape) → EachTable u.1 → IsTold (union_bound operator u known inside rows)
unfolding union_bound
told-union operator u known inside rows h = told-then (tables_bound u.1 known inside) (λ (others : List BoundPlan). united operator inside u.0 rows (places_of u.1) others) (told-tables u.1 h known inside) (λ others. told-united operator inside u.0 rows (places_of u.1) others)

told-union-of : (operator : Place) (inner : Bool) (tables : List BindsArg) (known : Known) (inside : Bool) → EachTable tables → IsTold (union_of operator inner tables known inside)
told-union-of operator inner [] known inside h = told-419 operator
told-union-of operator inner (t ∷ ts) known inside h =
    told-then (t.1 known inside) (λ (first : BoundPlan). tables_bound ts known inside >>= λ others. united operator inside inner first.after (places_of ts) others >>= λ b. Ok (united_plan first b)) ((h known inside).0)
    (λ first. told-then (tables_bound ts known inside) (λ (others : List BoundPlan). united operator inside inner first.after (places_of ts) others >>= λ b. Ok (united_plan first b)) (told-tables ts (λ k i. (h k i).1) known inside)
    (λ others. told-then (united operator inside inner first.after (places_of ts) others) (λ (b : BoundOp). Ok (united_plan first b)) (told-united operator inside inner first.after (places_of ts) others) (λ b. told-ok (united_plan first b))))

told-union-source : (operator : Place) (u : UnionParts) (known : Known) (inside : Bool) → EachTable u.1 → IsTold (union_source_bound operator u known inside)
unfolding union_source_bound
told-union-source operator u known inside h = told-union-of operator u.0 u.1 known inside h

-- Operators one after another.

abbrev EachOp : List BindsOp → Type 0
EachOp [] = Unit {0}
EachOp (o ∷ os) = ((known : Known) (inside : Bool) (rows : Shape) → IsTold (o known inside rows)) × EachOp os

told-next : (o : BindsOp) (known : Known) (inside : Bool) (before : Outcome BoundOps) → ((rows : Shape) → IsTold (o known inside rows)) → IsTold before → IsTold (next_op o known inside before)
unfolding next_op
told-next o known inside before h k = told-then before (λ (done : BoundOps). o known inside done.after >>= λ b. Ok (with_op done b)) k (λ done. told-then (o known inside done.after) (λ (b : BoundOp). Ok (with_op done b)) (h done.after) (λ b. told-ok (with_op done b)))

told-ops-from : (ops : List BindsOp) (known : Known) (inside : Bool) (start : Outcome BoundOps) → EachOp ops → IsTold start → IsTold (fold (λ before (o : BindsOp). next_op o known inside before) start ops)
told-ops-from [] known inside start each h = h
told-ops-from (o ∷ os) known inside start each h = told-ops-from os known inside (next_op o known inside start) each.1 (told-next o known inside start (each.0 known inside) h)

told-ops : (ops : List BindsOp) (known : Known) (inside : Bool) (rows : Shape) → EachOp ops → IsTold (ops_over ops known inside rows)
unfolding ops_over
told-ops ops known inside rows each = told-ops-from ops known inside (Ok (no_ops rows)) each (told-ok (no_ops rows))

told-piped : (source : Outcome BoundPlan) (ops : List BindsOp) (known : Known) (inside : Bool) → IsTold source → EachOp ops → IsTold (piped source ops known inside)
unfolding piped
told-piped source ops known inside h each = told-then source (λ (p : BoundPlan). ops_over ops known inside p.after >>= λ done. Ok (with_ops p done)) h (λ p. told-then (ops_over ops known inside p.after) (λ (done : BoundOps). Ok (with_ops p done)) (told-ops ops known inside p.after each) (λ done. told-ok (with_ops p done)))

told-partitioned : (operator : Place) (inside : Bool) (key : Column) (done : BoundOps) → IsTold (partitioned operator inside key done)
unfolding partitioned
told-partitioned operator inside key done = told-unless (fault_if inside 416 operator) (made (op.Partition key.name done.ops) done.after.columns false) (if-416 inside operator)

told-partition : (operator : Place) (column : Name) (ops : List BindsOp) (known : Known) (inside : Bool) (rows : Shape) → EachOp ops → IsTold (partition_bound operator column ops known inside rows)
unfolding partition_bound
told-partition operator column ops known inside rows each = told-then (distinct_column operator known rows column) (λ (key : Column). ops_over ops known true rows >>= λ done. partitioned operator inside key done) (told-distinct-column operator known rows column)
    (λ key. told-then (ops_over ops known true rows) (λ (done : BoundOps). partitioned operator inside key done) (told-ops ops known true rows each) (λ done. told-partitioned operator inside key done))

-- Each part of a pipe.

abbrev TellsOp : Op → Type 0
TellsOp x = (known : Known) (inside : Bool) (rows : Shape) → IsTold (op_bound x known inside rows)

abbrev GivenOp : Type 0
GivenOp = (x : Op) × TellsOp x

bare_op : GivenOp → Op
bare_op g = g.0

abbrev TellsSource : Source → Type 0
TellsSource x = (known : Known) (inside : Bool) → IsTold (source_bound x known inside)

abbrev GivenSource : Type 0
GivenSource = (x : Source) × TellsSource x

bare_source : GivenSource → Source
bare_source g = g.0

abbrev TellsTableArg : TableArg → Type 0
TellsTableArg x = (known : Known) (inside : Bool) → IsTold ((arg_read x).1 known inside)

abbrev GivenTableArg : Type 0
GivenTableArg = (x : TableArg) × TellsTableArg x

bare_arg : GivenTableArg → TableArg
bare_arg g = g.0

abbrev TellsTableOp : TableOp → Type 0
TellsTableOp x = (known : Known) (inside : Bool) (rows : Shape) → IsTold (table_op_bound x known inside rows)

abbrev GivenTableOp : Type 0
GivenTableOp = (x : TableOp) × TellsTableOp x

bare_table_op : GivenTableOp → TableOp
bare_table_op g = g.0

abbrev TellsJoin : Join → Type 0
TellsJoin x = (operator : Place) (lookup : Bool) (known : Known) (inside : Bool) (rows : Shape) → IsTold (join_read x operator lookup known inside rows)

abbrev GivenJoin : Type 0
GivenJoin = (x : Join) × TellsJoin x

bare_join : GivenJoin → Join
bare_join g = g.0

abbrev TellsPartition : Partition → Type 0
TellsPartition x = (operator : Place) (known : Known) (inside : Bool) (rows : Shape) → IsTold (partition_read x operator known inside rows)

abbrev GivenPartition : Type 0
GivenPartition = (x : Partition) × TellsPartition x

bare_partition : GivenPartition → Partition
bare_partition g = g.0

abbrev TellsPipe : Pipe → Type 0
TellsPipe x = (known : Known) (inside : Bool) → IsTold (pipe_bound x known inside)

abbrev GivenPipe : Type 0
GivenPipe = (x : Pipe) × TellsPipe x

bare_pipe : GivenPipe → Pipe
bare_pipe g = g.0

abbrev TellsUnion : Union → Type 0
TellsUnion x = EachTable ((union_read x).1)

abbrev GivenUnion : Type 0
GivenUnion = (x : Union) × TellsUnion x

bare_union : GivenUnion → Union
bare_union g = g.0

each-ops : (gs : List GivenOp) → EachOp (map op_bound (map bare_op gs))
unfolding bare_op
each-ops [] = tt
each-ops (g ∷ gs) = (g.1, each-ops gs)

each-args : (gs : List GivenTableArg) → EachTable (map arg_read (map bare_arg gs))
unfolding bare_arg
each-args [] known inside = tt
each-args (g ∷ gs) known inside = (g.1 known inside, each-args gs known inside)

of-op : (y : Op-F GivenOp GivenSource GivenTableArg GivenTableOp GivenJoin GivenPartition GivenPipe GivenUnion) → TellsOp (roll-Op (map-Op GivenOp GivenSource GivenTableArg GivenTableOp GivenJoin GivenPartition GivenPipe GivenUnion Op Source TableArg TableOp Join Partition Pipe Union bare_op bare_source bare_arg bare_table_op bare_join bare_partition bare_pipe bare_union y))
unfolding op_bound source_bound arg_read table_op_bound join_read partition_read pipe_bound union_read bare_op bare_source bare_arg bare_table_op bare_join bare_partition bare_pipe bare_union
of-op (Op-F.Columns o) known inside rows = subst (λ (r : Outcome BoundOp). IsTold r) (sym (ap (λ (f : BindsOp). f known inside rows) (fold-roll-Op BindsOp BindsPlan BindsArg BindsOp BindsJoin BindsPartition BindsPlan UnionParts op_step source_step table_arg_step table_op_step join_step partition_step pipe_step union_step (Op-F.Columns o)))) (told-column-op o known rows)
of-op (Op-F.Rows o) known inside rows = subst (λ (r : Outcome BoundOp). IsTold r) (sym (ap (λ (f : BindsOp). f known inside rows) (fold-roll-Op BindsOp BindsPlan BindsArg BindsOp BindsJoin BindsPartition BindsPlan UnionParts op_step source_step table_arg_step table_op_step join_step partition_step pipe_step union_step (Op-F.Rows o)))) (told-row-op o known (apart rows))
of-op (Op-F.Groups o) known inside rows = subst (λ (r : Outcome BoundOp). IsTold r) (sym (ap (λ (f : BindsOp). f known inside rows) (fold-roll-Op BindsOp BindsPlan BindsArg BindsOp BindsJoin BindsPartition BindsPlan UnionParts op_step source_step table_arg_step table_op_step join_step partition_step pipe_step union_step (Op-F.Groups o)))) (told-group-op o known (apart rows))
of-op (Op-F.Tables o) known inside rows = subst (λ (r : Outcome BoundOp). IsTold r) (sym (ap (λ (f : BindsOp). f known inside rows) (fold-roll-Op BindsOp BindsPlan BindsArg BindsOp BindsJoin BindsPartition BindsPlan UnionParts op_step source_step table_arg_step table_op_step join_step partition_step pipe_step union_step (Op-F.Tables o.0)))) (o.1 known inside (apart rows))

of-source : (y : Source-F GivenOp GivenSource GivenTableArg GivenTableOp GivenJoin GivenPartition GivenPipe GivenUnion) → TellsSource (roll-Source (map-Source GivenOp GivenSource GivenTableArg GivenTableOp GivenJoin GivenPartition GivenPipe GivenUnion Op Source TableArg TableOp Join Partition Pipe Union bare_op bare_source bare_arg bare_table_op bare_join bare_partition bare_pipe bare_union y))
unfolding op_bound source_bound arg_read table_op_bound join_read partition_read pipe_bound union_read bare_op bare_source bare_arg bare_table_op bare_join bare_partition bare_pipe bare_union
of-source (Source-F.«Source::Table» n) known inside = subst (λ (r : Outcome BoundPlan). IsTold r) (sym (ap (λ (f : BindsPlan). f known inside) (fold-roll-Source BindsOp BindsPlan BindsArg BindsOp BindsJoin BindsPartition BindsPlan UnionParts op_step source_step table_arg_step table_op_step join_step partition_step pipe_step union_step (Source-F.«Source::Table» n)))) (told-table known n)
of-source (Source-F.Range operator r) known inside = subst (λ (r : Outcome BoundPlan). IsTold r) (sym (ap (λ (f : BindsPlan). f known inside) (fold-roll-Source BindsOp BindsPlan BindsArg BindsOp BindsJoin BindsPartition BindsPlan UnionParts op_step source_step table_arg_step table_op_step join_step partition_step pipe_step union_step (Source-F.Range operator r)))) (told-range operator r known)
of-source (Source-F.Print operator items) known inside = subst (λ (r : Outcome BoundPlan). IsTold r) (sym (ap (λ (f : BindsPlan). f known inside) (fold-roll-Source BindsOp BindsPlan BindsArg BindsOp BindsJoin BindsPartition BindsPlan UnionParts op_step source_step table_arg_step table_op_step join_step partition_step pipe_step union_step (Source-F.Print operator items)))) (told-print operator items known)
of-source (Source-F.«Source::Union» operator u) known inside = subst (λ (r : Outcome BoundPlan). IsTold r) (sym (ap (λ (f : BindsPlan). f known inside) (fold-roll-Source BindsOp BindsPlan BindsArg BindsOp BindsJoin BindsPartition BindsPlan UnionParts op_step source_step table_arg_step table_op_step join_step partition_step pipe_step union_step (Source-F.«Source::Union» operator u.0)))) (told-union-source operator (union_read u.0) known inside u.1)

of-arg : (y : TableArg-F GivenOp GivenSource GivenTableArg GivenTableOp GivenJoin GivenPartition GivenPipe GivenUnion) → TellsTableArg (roll-TableArg (map-TableArg GivenOp GivenSource GivenTableArg GivenTableOp GivenJoin GivenPartition GivenPipe GivenUnion Op Source TableArg TableOp Join Partition Pipe Union bare_op bare_source bare_arg bare_table_op bare_join bare_partition bare_pipe bare_union y))
unfolding op_bound source_bound arg_read table_op_bound join_read partition_read pipe_bound union_read bare_op bare_source bare_arg bare_table_op bare_join bare_partition bare_pipe bare_union
of-arg (TableArg-F.«TableArg::Table» n) known inside = subst (λ (r : Outcome BoundPlan). IsTold r) (sym (ap (λ (f : BindsArg). f.1 known inside) (fold-roll-TableArg BindsOp BindsPlan BindsArg BindsOp BindsJoin BindsPartition BindsPlan UnionParts op_step source_step table_arg_step table_op_step join_step partition_step pipe_step union_step (TableArg-F.«TableArg::Table» n)))) (told-table known n)
of-arg (TableArg-F.Pipe place p) known inside = subst (λ (r : Outcome BoundPlan). IsTold r) (sym (ap (λ (f : BindsArg). f.1 known inside) (fold-roll-TableArg BindsOp BindsPlan BindsArg BindsOp BindsJoin BindsPartition BindsPlan UnionParts op_step source_step table_arg_step table_op_step join_step partition_step pipe_step union_step (TableArg-F.Pipe place p.0)))) (p.1 known inside)

of-table_op : (y : TableOp-F GivenOp GivenSource GivenTableArg GivenTableOp GivenJoin GivenPartition GivenPipe GivenUnion) → TellsTableOp (roll-TableOp (map-TableOp GivenOp GivenSource GivenTableArg GivenTableOp GivenJoin GivenPartition GivenPipe GivenUnion Op Source TableArg TableOp Join Partition Pipe Union bare_op bare_source bare_arg bare_table_op bare_join bare_partition bare_pipe bare_union y))
unfolding op_bound source_bound arg_read table_op_bound join_read partition_read pipe_bound union_read bare_op bare_source bare_arg bare_table_op bare_join bare_partition bare_pipe bare_union
of-table_op (TableOp-F.Join operator j) known inside rows = subst (λ (r : Outcome BoundOp). IsTold r) (sym (ap (λ (f : BindsOp). f known inside rows) (fold-roll-TableOp BindsOp BindsPlan BindsArg BindsOp BindsJoin BindsPartition BindsPlan UnionParts op_step source_step table_arg_step table_op_step join_step partition_step pipe_step union_step (TableOp-F.Join operator j.0)))) (j.1 operator false known inside rows)
of-table_op (TableOp-F.Lookup operator j) known inside rows = subst (λ (r : Outcome BoundOp). IsTold r) (sym (ap (λ (f : BindsOp). f known inside rows) (fold-roll-TableOp BindsOp BindsPlan BindsArg BindsOp BindsJoin BindsPartition BindsPlan UnionParts op_step source_step table_arg_step table_op_step join_step partition_step pipe_step union_step (TableOp-F.Lookup operator j.0)))) (j.1 operator true known inside rows)
of-table_op (TableOp-F.«TableOp::Union» operator u) known inside rows = subst (λ (r : Outcome BoundOp). IsTold r) (sym (ap (λ (f : BindsOp). f known inside rows) (fold-roll-TableOp BindsOp BindsPlan BindsArg BindsOp BindsJoin BindsPartition BindsPlan UnionParts op_step source_step table_arg_step table_op_step join_step partition_step pipe_step union_step (TableOp-F.«TableOp::Union» operator u.0)))) (told-union operator (union_read u.0) known inside rows u.1)
of-table_op (TableOp-F.Scan operator s) known inside rows = subst (λ (r : Outcome BoundOp). IsTold r) (sym (ap (λ (f : BindsOp). f known inside rows) (fold-roll-TableOp BindsOp BindsPlan BindsArg BindsOp BindsJoin BindsPartition BindsPlan UnionParts op_step source_step table_arg_step table_op_step join_step partition_step pipe_step union_step (TableOp-F.Scan operator s)))) (told-scan operator s known rows)
of-table_op (TableOp-F.Partition operator p) known inside rows = subst (λ (r : Outcome BoundOp). IsTold r) (sym (ap (λ (f : BindsOp). f known inside rows) (fold-roll-TableOp BindsOp BindsPlan BindsArg BindsOp BindsJoin BindsPartition BindsPlan UnionParts op_step source_step table_arg_step table_op_step join_step partition_step pipe_step union_step (TableOp-F.Partition operator p.0)))) (p.1 operator known inside rows)

of-join : (y : Join-F GivenOp GivenSource GivenTableArg GivenTableOp GivenJoin GivenPartition GivenPipe GivenUnion) → TellsJoin (roll-Join (map-Join GivenOp GivenSource GivenTableArg GivenTableOp GivenJoin GivenPartition GivenPipe GivenUnion Op Source TableArg TableOp Join Partition Pipe Union bare_op bare_source bare_arg bare_table_op bare_join bare_partition bare_pipe bare_union y))
unfolding op_bound source_bound arg_read table_op_bound join_read partition_read pipe_bound union_read bare_op bare_source bare_arg bare_table_op bare_join bare_partition bare_pipe bare_union
of-join y operator lookup known inside rows = subst (λ (r : Outcome BoundOp). IsTold r) (sym (ap (λ (f : BindsJoin). f operator lookup known inside rows) (fold-roll-Join BindsOp BindsPlan BindsArg BindsOp BindsJoin BindsPartition BindsPlan UnionParts op_step source_step table_arg_step table_op_step join_step partition_step pipe_step union_step (map-Join GivenOp GivenSource GivenTableArg GivenTableOp GivenJoin GivenPartition GivenPipe GivenUnion Op Source TableArg TableOp Join Partition Pipe Union bare_op bare_source bare_arg bare_table_op bare_join bare_partition bare_pipe bare_union y))))
    (told-join operator lookup y.kind y.on known inside rows ((arg_read y.table.0).1 known inside) (y.table.1 known inside))

of-partition : (y : Partition-F GivenOp GivenSource GivenTableArg GivenTableOp GivenJoin GivenPartition GivenPipe GivenUnion) → TellsPartition (roll-Partition (map-Partition GivenOp GivenSource GivenTableArg GivenTableOp GivenJoin GivenPartition GivenPipe GivenUnion Op Source TableArg TableOp Join Partition Pipe Union bare_op bare_source bare_arg bare_table_op bare_join bare_partition bare_pipe bare_union y))
unfolding op_bound source_bound arg_read table_op_bound join_read partition_read pipe_bound union_read bare_op bare_source bare_arg bare_table_op bare_join bare_partition bare_pipe bare_union
of-partition y operator known inside rows = subst (λ (r : Outcome BoundOp). IsTold r) (sym (ap (λ (f : BindsPartition). f operator known inside rows) (fold-roll-Partition BindsOp BindsPlan BindsArg BindsOp BindsJoin BindsPartition BindsPlan UnionParts op_step source_step table_arg_step table_op_step join_step partition_step pipe_step union_step (map-Partition GivenOp GivenSource GivenTableArg GivenTableOp GivenJoin GivenPartition GivenPipe GivenUnion Op Source TableArg TableOp Join Partition Pipe Union bare_op bare_source bare_arg bare_table_op bare_join bare_partition bare_pipe bare_union y))))
    (told-partition operator y.column (map op_bound (map bare_op y.ops)) known inside rows (each-ops y.ops))

of-pipe : (y : Pipe-F GivenOp GivenSource GivenTableArg GivenTableOp GivenJoin GivenPartition GivenPipe GivenUnion) → TellsPipe (roll-Pipe (map-Pipe GivenOp GivenSource GivenTableArg GivenTableOp GivenJoin GivenPartition GivenPipe GivenUnion Op Source TableArg TableOp Join Partition Pipe Union bare_op bare_source bare_arg bare_table_op bare_join bare_partition bare_pipe bare_union y))
unfolding op_bound source_bound arg_read table_op_bound join_read partition_read pipe_bound union_read bare_op bare_source bare_arg bare_table_op bare_join bare_partition bare_pipe bare_union
of-pipe y known inside = subst (λ (r : Outcome BoundPlan). IsTold r) (sym (ap (λ (f : BindsPlan). f known inside) (fold-roll-Pipe BindsOp BindsPlan BindsArg BindsOp BindsJoin BindsPartition BindsPlan UnionParts op_step source_step table_arg_step table_op_step join_step partition_step pipe_step union_step (map-Pipe GivenOp GivenSource GivenTableArg GivenTableOp GivenJoin GivenPartition GivenPipe GivenUnion Op Source TableArg TableOp Join Partition Pipe Union bare_op bare_source bare_arg bare_table_op bare_join bare_partition bare_pipe bare_union y))))
    (told-piped (source_bound y.source.0 known inside) (map op_bound (map bare_op y.ops)) known inside (y.source.1 known inside) (each-ops y.ops))

of-union : (y : Union-F GivenOp GivenSource GivenTableArg GivenTableOp GivenJoin GivenPartition GivenPipe GivenUnion) → TellsUnion (roll-Union (map-Union GivenOp GivenSource GivenTableArg GivenTableOp GivenJoin GivenPartition GivenPipe GivenUnion Op Source TableArg TableOp Join Partition Pipe Union bare_op bare_source bare_arg bare_table_op bare_join bare_partition bare_pipe bare_union y))
unfolding op_bound source_bound arg_read table_op_bound join_read partition_read pipe_bound union_read bare_op bare_source bare_arg bare_table_op bare_join bare_partition bare_pipe bare_union
of-union y = subst (λ (u : UnionParts). EachTable u.1) (sym (fold-roll-Union BindsOp BindsPlan BindsArg BindsOp BindsJoin BindsPartition BindsPlan UnionParts op_step source_step table_arg_step table_op_step join_step partition_step pipe_step union_step (map-Union GivenOp GivenSource GivenTableArg GivenTableOp GivenJoin GivenPartition GivenPipe GivenUnion Op Source TableArg TableOp Join Partition Pipe Union bare_op bare_source bare_arg bare_table_op bare_join bare_partition bare_pipe bare_union y))) (each-args y.tables)

-- A pipe.

every-pipe : (p : Pipe) → TellsPipe p
unfolding bare_op bare_source bare_arg bare_table_op bare_join bare_partition bare_pipe bare_union
every-pipe = ind-Pipe TellsOp TellsSource TellsTableArg TellsTableOp TellsJoin TellsPartition TellsPipe TellsUnion
    (λ x y is. subst (λ (z : Op-F Op Source TableArg TableOp Join Partition Pipe Union). TellsOp (roll-Op z)) is (of-op y))
    (λ x y is. subst (λ (z : Source-F Op Source TableArg TableOp Join Partition Pipe Union). TellsSource (roll-Source z)) is (of-source y))
    (λ x y is. subst (λ (z : TableArg-F Op Source TableArg TableOp Join Partition Pipe Union). TellsTableArg (roll-TableArg z)) is (of-arg y))
    (λ x y is. subst (λ (z : TableOp-F Op Source TableArg TableOp Join Partition Pipe Union). TellsTableOp (roll-TableOp z)) is (of-table_op y))
    (λ x y is. subst (λ (z : Join-F Op Source TableArg TableOp Join Partition Pipe Union). TellsJoin (roll-Join z)) is (of-join y))
    (λ x y is. subst (λ (z : Partition-F Op Source TableArg TableOp Join Partition Pipe Union). TellsPartition (roll-Partition z)) is (of-partition y))
    (λ x y is. subst (λ (z : Pipe-F Op Source TableArg TableOp Join Partition Pipe Union). TellsPipe (roll-Pipe z)) is (of-pipe y))
    (λ x y is. subst (λ (z : Union-F Op Source TableArg TableOp Join Partition Pipe Union). TellsUnion (roll-Union z)) is (of-union y))

-- Let statements.

told-table-let : (n : List ℕ) (done : BoundStatements) (p : Outcome BoundPlan) → IsTold p → IsTold (table_let n done p)
unfolding table_let
told-table-let n done p h = told-then p (λ (b : BoundPlan). Ok (with_table n b done)) h (λ b. told-ok (with_table n b done))

told-constant-let : (n : List ℕ) (done : BoundStatements) (l : Outcome Lit) → IsTold l → IsTold (constant_let n done l)
unfolding constant_let
told-constant-let n done l h = told-then l (λ (b : Lit). Ok (with_constant n b done)) h (λ b. told-ok (with_constant n b done))

told-constant-named : (statement : Place) (known : Known) (n : Name) → IsTold (constant_named statement known n)
unfolding constant_named
told-constant-named statement known n = told-then (name_bound n (scope_at known no_rows position.Constant)) (λ (t : Typed). constant_wanted statement wanted.Any (name_place n) t) (told-name n (scope_at known no_rows position.Constant)) (λ t. told-wanted statement wanted.Any (name_place n) t)

told-name-let : (statement : Place) (n : List ℕ) (done : BoundStatements) (other : Name) (o : Option BoundPlan) → IsTold (name_let statement n done other o)
told-name-let statement n done other (Some p) = told-table-let n done (Ok p) (told-ok p)
told-name-let statement n done other None = told-constant-let n done (constant_named statement done.known other) (told-constant-named statement done.known other)

told-pipe-let : (statement : Place) (n : List ℕ) (done : BoundStatements) (p : Pipe) (o : Option Name) → IsTold (pipe_let statement n done p o)
told-pipe-let statement n done p None = told-table-let n done (pipe_bound p done.known false) (every-pipe p done.known false)
told-pipe-let statement n done p (Some other) = told-name-let statement n done other (table_named done.known (text_of other))

told-body : (statement : Place) (n : List ℕ) (b : LetBody) (done : BoundStatements) → IsTold (body_bound statement n b done)
unfolding body_bound
told-body statement n (body.Pipe p) done = told-pipe-let statement n done p (name_alone p)
told-body statement n (body.Expr e) done = told-constant-let n done (constant_bound statement wanted.Any done.known no_rows e) (told-constant statement wanted.Any done.known no_rows e)

told-let : (l : Let) (done : BoundStatements) → IsTold (let_bound l done)
unfolding let_bound let_faults
told-let l done = told-then (unless (let_faults done.known l.name) done) (body_bound l.place (text_of l.name) l.body)
    (told-unless (let_faults done.known l.name) done (if-417 (is_let_name done.known (text_of l.name)) (name_place l.name)))
    (told-body l.place (text_of l.name) l.body)

told-lets : (lets : List Let) (start : Outcome BoundStatements) → IsTold start → IsTold (fold (λ before (l : Let). next_let l before) start lets)
unfolding next_let
told-lets [] start h = h
told-lets (l ∷ ls) start h = told-lets ls (next_let l start) (told-then start (let_bound l) h (told-let l))

-- The whole.

pub each_query_told : EachIsTold
unfolding bound lets_bound
each_query_told q schemas moment =
    let known : Known = known_at_first schemas moment in
    told-then (lets_bound q.lets known) (λ (done : BoundStatements). pipe_bound q.main done.known false >>= λ main. Ok (program_of schemas done main)) (told-lets q.lets (Ok (no_statements known)) (told-ok (no_statements known)))
    (λ done. told-then (pipe_bound q.main done.known false) (λ (main : BoundPlan). Ok (program_of schemas done main)) (every-pipe q.main done.known false) (λ main. told-ok (program_of schemas done main)))

pub ruleset told_laws = (each_query_told)

-- What an answer says, its definition tells.
told-answers : {X : Type 0} (d r : Outcome X) (code : ℕ) (place : Place) → IsTold d → Answers r d → r ≡ Err (fault.Refused code place) → is_query_code code ≡ true
told-answers {X = X} d r code place h a is =
    let same : Answers (Err (fault.Refused code place)) d = subst (λ (x : Outcome X). Answers x d) is a in
    let told : IsTold {X = X} (Err (fault.Refused code place)) = subst (λ (x : Outcome X). IsTold x) same.holds h in
    told.holds

pub code-told : (q : Query) (schemas : List NamedSchema) (moment : Option ℤ) (r : Outcome Program) → Answers r (bound q schemas moment) → (code : ℕ) (place : Place) → r ≡ Err (fault.Refused code place) → is_query_code code ≡ true
code-told q schemas moment r a code place is = told-answers (bound q schemas moment) r code place (each_query_told q schemas moment) a is

pub ruleset code_laws = (code-told)

-- Scans, joins, unions and partitions, and operators one after another, tell their faults at their own places.
use Rattle.bind_expr.specs.Names.{text_of}
use Rattle.bind_expr.specs.Outcome.{Outcome, ◌>>=◌}
use Rattle.bind_expr.specs.declared.fault.BindFault.{BindFault}
use Rattle.bind_expr.specs.declared.scope.Scope.{Scope}
use Rattle.bind_expr.specs.declared.typed.Typed.{Typed}
use Rattle.bind_expr_laws.proofs.PlaceSteps.{ToldIn, Within, told-ok, told-then}
use Rattle.bind_expr_laws.specs.Places.{Places, expr_places}
use Rattle.bind_groups.specs.Summarize.{distinct_column}
use Rattle.bind_operators.specs.Answers.{made}
use Rattle.bind_operators.specs.Faults.{each_bound, fault_if}
use Rattle.bind_operators.specs.Items.{names_twice}
use Rattle.bind_operators.specs.Known.{column_wanted}
use Rattle.bind_operators.specs.Places.{name_place}
use Rattle.bind_operators.specs.Wanted.{kind_bound, typed_bound}
use Rattle.bind_operators.specs.declared.bound.BoundOp.{BoundOp}
use Rattle.bind_operators.specs.declared.bound.BoundPlan.{BoundPlan}
use Rattle.bind_operators.specs.declared.known.Known.{Known}
use Rattle.bind_operators.specs.declared.shape.Shape.{Shape}
use Rattle.bind_operators.specs.declared.wanted.Wanted.TheVariants as wanted
use Rattle.bind_operators.specs.declared.wanted.Wanted.{Wanted}
use Rattle.bind_query.specs.Join.{join_bound, join_plan, joined, key_bound as join_key, key_clashes, key_place, pair_of, pair_wanted}
use Rattle.bind_query.specs.Partition.{partition_bound, partitioned}
use Rattle.bind_query.specs.Pipes.{BindsArg, BindsOp, UnionParts, next_op, no_ops, ops_over, piped, with_op, with_ops}
use Rattle.bind_query.specs.Scan.{assignment_bound, assignment_faults, assignment_item, decl_bound, decl_of, declared_default, declared_kind, declared_names, new_names, scan_bound, scan_faults, scan_plan, scan_step, scanned, step_bound, step_faults, step_name_faults, step_scope, wanted_of}
use Rattle.bind_query.specs.Union.{columns_behind, places_of, plan_of, stand_behind, table_clashes, tables_bound, union_bound, union_of, union_source_bound, united, united_plan}
use Rattle.bind_query.specs.declared.bound.BoundOps.{BoundOps}
use Rattle.bind_query_laws.proofs.PlaceOperators.{told-distinct-column}
use Rattle.bind_query_laws.proofs.PlaceParts.{ArePlaced, in-cons, in-left, in-none, in-right, in-tail, placed-append, placed-if, placed-names, told-answer, told-at, told-column, told-constant, told-each, told-kind, told-typed, told-unless}
use Rattle.bind_query_laws.specs.QueryPlaces.{decl_places, given_places, named_places, names_places, on_places, one_place, scan_places, set_places, step_places}
use Rattle.kql_bound.specs.declared.literal.Lit.{Lit}
use Rattle.kql_bound.specs.declared.parts.BItem.{BItem}
use Rattle.kql_bound.specs.declared.parts.Decl.{Decl as BoundDecl}
use Rattle.kql_bound.specs.declared.parts.JoinPlan.{JoinPlan}
use Rattle.kql_bound.specs.declared.parts.OnPair.{OnPair}
use Rattle.kql_bound.specs.declared.parts.ScanPlan.{ScanPlan}
use Rattle.kql_bound.specs.declared.parts.ScanStep.{ScanStep}
use Rattle.kql_bound.specs.declared.plan.Op.TheVariants as op
use Rattle.kql_cells.specs.declared.schema.Column.{Column}
use Rattle.kql_cells.specs.declared.value.Kind.TheVariants as kind
use Rattle.kql_cells.specs.declared.value.Kind.{Kind}
use Rattle.kql_functions.specs.Kinds.{is_dynamic}
use Rattle.kql_lexer.specs.declared.place.Place.{Place}
use Rattle.kql_meaning.proofs.MemberLaws.{Member, member-left, member-right}
use Rattle.kql_meaning.specs.FittingOperators.{pair_fits}
use Rattle.kql_meaning.specs.Join.{join_columns}
use Rattle.kql_meaning.specs.Scan.{scan_columns}
use Rattle.kql_meaning.specs.Tables.{is_name_among, names_of}
use Rattle.kql_meaning.specs.Union.{union_columns}
use Rattle.kql_syntax.specs.declared.query.Decl.{Decl}
use Rattle.kql_syntax.specs.declared.query.Hint.{Hint}
use Rattle.kql_syntax.specs.declared.query.JoinSign.{JoinSign}
use Rattle.kql_syntax.specs.declared.query.On.TheVariants as on
use Rattle.kql_syntax.specs.declared.query.On.{On}
use Rattle.kql_syntax.specs.declared.query.Scan.{Scan}
use Rattle.kql_syntax.specs.declared.query.Step.{Step}
use Rattle.kql_syntax.specs.declared.tree.Expr.{Expr}
use Rattle.kql_syntax.specs.declared.tree.Name.{Name}
use Rattle.std.proofs.Common.{List, [], inl, inr, map, refl, subst, ℕ, ◌++◌, ◌+◌, ◌∷◌}
use Rattle.std.specs.List.{flat_map}
use Rattle.std.specs.Prelude.{Bool, None, Ok, Option, Some, false, fold, nat_le, not, true, ◌||◌}

-- Scans.

told-declared-default : (ps : Places) (operator : Place) (known : Known) (rows : Shape) (k : Kind) (o : Option Expr) → Member operator ps → Within (given_places o) ps → ToldIn ps (declared_default operator known rows k o)
unfolding declared_default
told-declared-default ps operator known rows k None m w = record { holds = tt }
told-declared-default ps operator known rows k (Some e) m w = told-constant ps operator (wanted.Is k) known rows e m w

told-decl : (ps : Places) (operator : Place) (known : Known) (rows : Shape) (d : Decl) → Member operator ps → Within (decl_places d) ps → ToldIn ps (decl_bound operator known rows d)
unfolding decl_bound
told-decl ps operator known rows d m w = told-then ps (kind_bound d.kind) (λ (k : Kind). declared_default operator known rows k d.default >>= λ default. Ok (decl_of d default)) (told-kind ps d.kind (w d.kind.place (inr (inl refl))))
    (λ k. told-then ps (declared_default operator known rows k d.default) (λ (default : Lit). Ok (decl_of d default)) (told-declared-default ps operator known rows k d.default m (λ q n. w q (inr (inr n)))) (λ default. told-ok ps (decl_of d default)))

told-assignment : (ps : Places) (scope : Scope) (declared : List BoundDecl) (a : Name × Expr) → Within (set_places a) ps → ToldIn ps (assignment_bound scope declared a)
unfolding assignment_bound
told-assignment ps scope declared a w =
    let want : Wanted = wanted_of (declared_kind declared (text_of a.0)) in
    told-then ps (typed_bound want a.1 scope) (λ (t : Typed). Ok (assignment_item a t)) (told-typed ps want a.1 scope (in-tail (name_place a.0) (expr_places a.1) ps w)) (λ t. told-ok ps (assignment_item a t))

condition-in : (ps : Places) (s : Step) → Within (step_places s) ps → Within (expr_places s.condition) ps
condition-in ps s w q m = w q (inr (inr (member-left (expr_places s.condition) (flat_map set_places s.sets) q m)))

sets-in : (ps : Places) (s : Step) → Within (step_places s) ps → Within (flat_map set_places s.sets) ps
sets-in ps s w q m = w q (inr (inr (member-right (expr_places s.condition) (flat_map set_places s.sets) q m)))

step-name-in : (ps : Places) (s : Step) → Within (step_places s) ps → Member (name_place s.name) ps
step-name-in ps s w = w (name_place s.name) (inr (inl refl))

told-step : (ps : Places) (scope : Scope) (declared : List BoundDecl) (s : Step) → Within (step_places s) ps → ToldIn ps (step_bound scope declared s)
unfolding step_bound
told-step ps scope declared s w = told-then ps (typed_bound (wanted.Is kind.Bool) s.condition scope) (λ (condition : Typed). each_bound (assignment_bound scope declared) s.sets >>= λ sets. Ok (scan_step s condition sets)) (told-typed ps (wanted.Is kind.Bool) s.condition scope (condition-in ps s w))
    (λ condition. told-then ps (each_bound (assignment_bound scope declared) s.sets) (λ (sets : List BItem). Ok (scan_step s condition sets)) (told-each ps (assignment_bound scope declared) set_places (told-assignment ps scope declared) s.sets (sets-in ps s w)) (λ sets. told-ok ps (scan_step s condition sets)))

placed-step-names : (ps : Places) (before : List (List ℕ)) (ss : List Step) → Within (flat_map step_places ss) ps → ArePlaced ps (step_name_faults before ss)
unfolding step_name_faults
placed-step-names ps before [] w = tt
placed-step-names ps before (s ∷ ss) w =
    let own : Within (step_places s) ps = in-left (step_places s) (flat_map step_places ss) ps w in
    placed-append ps (fault_if (is_name_among before (text_of s.name)) 417 (name_place s.name)) (step_name_faults (before ++ text_of s.name ∷ []) ss) (placed-if ps (is_name_among before (text_of s.name)) 417 (name_place s.name) (step-name-in ps s own))
    (placed-step-names ps (before ++ text_of s.name ∷ []) ss (in-right (step_places s) (flat_map step_places ss) ps w))

placed-assignments : (ps : Places) (declared done : List (List ℕ)) (sets : List (Name × Expr)) → Within (flat_map set_places sets) ps → ArePlaced ps (assignment_faults declared done sets)
unfolding assignment_faults
placed-assignments ps declared done [] w = tt
placed-assignments ps declared done (a ∷ more) w =
    let wrong : Bool = not (is_name_among declared (text_of a.0)) || is_name_among done (text_of a.0) in
    placed-append ps (fault_if wrong 413 (name_place a.0)) (assignment_faults declared (done ++ text_of a.0 ∷ []) more) (placed-if ps wrong 413 (name_place a.0) (w (name_place a.0) (inl refl)))
    (placed-assignments ps declared (done ++ text_of a.0 ∷ []) more (in-right (set_places a) (flat_map set_places more) ps w))

placed-steps : (ps : Places) (declared : List (List ℕ)) (before : ℕ) (ss : List Step) → Within (flat_map step_places ss) ps → ArePlaced ps (step_faults declared before ss)
unfolding step_faults
placed-steps ps declared before [] w = tt
placed-steps ps declared before (s ∷ ss) w =
    let own : Within (step_places s) ps = in-left (step_places s) (flat_map step_places ss) ps w in
    placed-append ps (fault_if (nat_le 64 before) 413 (name_place s.name)) (assignment_faults declared [] s.sets ++ step_faults declared (before + 1) ss) (placed-if ps (nat_le 64 before) 413 (name_place s.name) (step-name-in ps s own))
    (placed-append ps (assignment_faults declared [] s.sets) (step_faults declared (before + 1) ss) (placed-assignments ps declared [] s.sets (sets-in ps s own)) (placed-steps ps declared (before + 1) ss (in-right (step_places s) (flat_map step_places ss) ps w)))

-- The names of new columns stand among the places of a scan.
declared-in : (ps : Places) (ds : List Decl) → Within (flat_map decl_places ds) ps → Within (names_places (map (λ (d : Decl). d.name) ds)) ps
declared-in ps [] w q m = absurd m
declared-in ps (d ∷ ds) w q (inl e) = w q (inl e)
declared-in ps (d ∷ ds) w q (inr m) = declared-in ps ds (in-right (decl_places d) (flat_map decl_places ds) ps w) q m

new-names-in : (ps : Places) (id : Option Name) (ds : List Decl) → Within (named_places id) ps → Within (flat_map decl_places ds) ps → Within (names_places (new_names id ds)) ps
unfolding new_names
new-names-in ps None ds v w q m = declared-in ps ds w q m
new-names-in ps (Some n) ds v w q (inl e) = v q (inl e)
new-names-in ps (Some n) ds v w q (inr m) = declared-in ps ds w q m

-- The parts of a scan that stand among some places.
record ScanParts (ps : Places) (operator : Place) (s : Scan) : Type 0 where
  here : Member operator ps
  match_id : Within (named_places s.match_id) ps
  declared : Within (flat_map decl_places s.declared) ps
  steps : Within (flat_map step_places s.steps) ps

placed-scan : (ps : Places) (operator : Place) (s : Scan) (rows : Shape) → ScanParts ps operator s → ArePlaced ps (scan_faults operator s rows)
unfolding scan_faults
placed-scan ps operator s rows h =
    let twice_named : List BindFault = names_twice (names_of rows.columns) (new_names s.match_id s.declared) in
    let of_steps : List BindFault = step_faults (declared_names s.declared) 0 s.steps in
    placed-append ps (fault_if (not rows.serial) 407 operator) (twice_named ++ (step_name_faults [] s.steps ++ of_steps)) (placed-if ps (not rows.serial) 407 operator h.here)
    (placed-append ps twice_named (step_name_faults [] s.steps ++ of_steps) (placed-names ps (names_of rows.columns) (new_names s.match_id s.declared) (new-names-in ps s.match_id s.declared h.match_id h.declared))
    (placed-append ps (step_name_faults [] s.steps) of_steps (placed-step-names ps [] s.steps h.steps) (placed-steps ps (declared_names s.declared) 0 s.steps h.steps)))

told-scanned : (ps : Places) (operator : Place) (s : Scan) (rows : Shape) (plan : ScanPlan) → ScanParts ps operator s → ToldIn ps (scanned operator s rows plan)
unfolding scanned
told-scanned ps operator s rows plan h = told-answer ps operator (scan_faults operator s rows) (op.Scan plan) (scan_columns plan rows.columns) true h.here (placed-scan ps operator s rows h)

told-scan-in : (ps : Places) (operator : Place) (s : Scan) (known : Known) (rows : Shape) → ScanParts ps operator s → ToldIn ps (scan_bound operator s known rows)
unfolding scan_bound
told-scan-in ps operator s known rows h = told-then ps (each_bound (decl_bound operator known rows) s.declared) (λ (declared : List BoundDecl). each_bound (step_bound (step_scope known rows s.steps declared) declared) s.steps >>= λ steps. scanned operator s rows (scan_plan s declared steps)) (told-each ps (decl_bound operator known rows) decl_places (λ d v. told-decl ps operator known rows d h.here v) s.declared h.declared)
    (λ declared. told-then ps (each_bound (step_bound (step_scope known rows s.steps declared) declared) s.steps) (λ (steps : List ScanStep). scanned operator s rows (scan_plan s declared steps)) (told-each ps (step_bound (step_scope known rows s.steps declared) declared) step_places (told-step ps (step_scope known rows s.steps declared) declared) s.steps h.steps) (λ steps. told-scanned ps operator s rows (scan_plan s declared steps) h))

pub told-scan : (operator : Place) (s : Scan) (known : Known) (rows : Shape) → ToldIn (operator ∷ scan_places s) (scan_bound operator s known rows)
told-scan operator s known rows =
    let ps : Places = operator ∷ scan_places s in
    let of_decls : Places = flat_map decl_places s.declared in
    let of_steps : Places = flat_map step_places s.steps in
    let all : Within (named_places s.match_id ++ (of_decls ++ of_steps)) ps = λ q m. inr m in
    let rest : Within (of_decls ++ of_steps) ps = in-right (named_places s.match_id) (of_decls ++ of_steps) ps all in
    told-scan-in ps operator s known rows (record {
      here = inl refl;
      match_id = in-left (named_places s.match_id) (of_decls ++ of_steps) ps all;
      declared = in-left of_decls of_steps ps rest;
      steps = in-right of_decls of_steps ps rest;
    })

-- Joins.

told-pair : (ps : Places) (place : Place) (left right : Column) → Member place ps → ToldIn ps (pair_wanted place left right)
unfolding pair_wanted
told-pair ps place left right m =
    let pair : OnPair = record { left = left.name; right = right.name } in
    told-unless ps (fault_if (is_dynamic left.kind || is_dynamic right.kind) 404 place) pair (placed-if ps (is_dynamic left.kind || is_dynamic right.kind) 404 place m)

told-both : (ps : Places) (place : Place) (left right : Outcome Column) → Member place ps → ToldIn ps left → ToldIn ps right → ToldIn ps (pair_of place left right)
unfolding pair_of
told-both ps place left right m h k = told-then ps left (λ (l : Column). right >>= λ r. pair_wanted place l r) h (λ l. told-then ps right (λ (r : Column). pair_wanted place l r) k (λ r. told-pair ps place l r m))

told-on : (ps : Places) (operator : Place) (known : Known) (left right : List Column) (k : On) → Member operator ps → Within (on_places k) ps → ToldIn ps (join_key operator known left right k)
unfolding join_key pair_of
told-on ps operator known left right (on.Column n) m w = told-both ps (name_place n) (column_wanted operator known left n) (column_wanted operator known right n) (w (name_place n) (inl refl)) (told-column ps operator known left n m w) (told-column ps operator known right n m w)
told-on ps operator known left right (on.Pair p) m w = told-both ps p.left_place (column_wanted operator known left p.left) (column_wanted operator known right p.right) (w p.left_place (inl refl))
    (told-column ps operator known left p.left m (in-cons (name_place p.left) [] ps (w (name_place p.left) (inr (inl refl))) (in-none ps))) (told-column ps operator known right p.right m (λ q n. w q (inr (inr (inr (inr n))))))

key-in : (ps : Places) (k : On) → Within (on_places k) ps → Member (key_place k) ps
unfolding key_place
key-in ps (on.Column n) w = w (name_place n) (inl refl)
key-in ps (on.Pair p) w = w p.left_place (inl refl)

placed-keys : (ps : Places) (left right : List Column) (keys : List On) (pairs : List OnPair) → Within (flat_map on_places keys) ps → ArePlaced ps (key_clashes left right keys pairs)
unfolding key_clashes
placed-keys ps left right [] pairs w = tt
placed-keys ps left right (k ∷ ks) [] w = tt
placed-keys ps left right (k ∷ ks) (o ∷ os) w =
    placed-append ps (fault_if (not (pair_fits left right o)) 415 (key_place k)) (key_clashes left right ks os) (placed-if ps (not (pair_fits left right o)) 415 (key_place k) (key-in ps k (in-left (on_places k) (flat_map on_places ks) ps w)))
    (placed-keys ps left right ks os (in-right (on_places k) (flat_map on_places ks) ps w))

told-joined : (ps : Places) (operator : Place) (inside : Bool) (rows : Shape) (right : BoundPlan) (keys : List On) (plan : JoinPlan) → Member operator ps → Within (flat_map on_places keys) ps → ToldIn ps (joined operator inside rows right keys plan)
unfolding joined
told-joined ps operator inside rows right keys plan m w =
    let clashes : List BindFault = key_clashes rows.columns right.after.columns keys plan.on in
    told-answer ps operator (fault_if inside 416 operator ++ clashes) (op.Join plan right.plan) (join_columns plan.kind plan rows.columns right.after.columns) false m
    (placed-append ps (fault_if inside 416 operator) clashes (placed-if ps inside 416 operator m) (placed-keys ps rows.columns right.after.columns keys plan.on w))

pub told-join : (ps : Places) (operator : Place) (lookup : Bool) (form : Option (JoinSign × List Hint)) (keys : List On) (known : Known) (inside : Bool) (rows : Shape) (right : Outcome BoundPlan) → Member operator ps → Within (flat_map on_places keys) ps → ToldIn ps right → ToldIn ps (join_bound operator lookup form keys known inside rows right)
unfolding join_bound
told-join ps operator lookup form keys known inside rows right m w h = told-then ps right (λ (r : BoundPlan). each_bound (join_key operator known rows.columns r.after.columns) keys >>= λ pairs. joined operator inside rows r keys (join_plan lookup form pairs)) h
    (λ r. told-then ps (each_bound (join_key operator known rows.columns r.after.columns) keys) (λ (pairs : List OnPair). joined operator inside rows r keys (join_plan lookup form pairs)) (told-each ps (join_key operator known rows.columns r.after.columns) on_places (λ k v. told-on ps operator known rows.columns r.after.columns k m v) keys w) (λ pairs. told-joined ps operator inside rows r keys (join_plan lookup form pairs) m w))

-- Unions.

placed-tables : (ps : Places) (columns : List Column) (places : List Place) (others : List BoundPlan) → Within places ps → ArePlaced ps (table_clashes columns places others)
unfolding table_clashes
placed-tables ps columns [] others w = tt
placed-tables ps columns (p ∷ qs) [] w = tt
placed-tables ps columns (p ∷ qs) (o ∷ os) w = placed-append ps (fault_if (not (stand_behind columns o)) 415 p) (table_clashes columns qs os) (placed-if ps (not (stand_behind columns o)) 415 p (w p (inl refl))) (placed-tables ps columns qs os (in-tail p qs ps w))

told-united : (ps : Places) (operator : Place) (inside inner : Bool) (rows : Shape) (places : List Place) (others : List BoundPlan) → Member operator ps → Within places ps → ToldIn ps (united operator inside inner rows places others)
unfolding united
told-united ps operator inside inner rows places others m w =
    let columns : List Column = union_columns inner rows.columns (map columns_behind others) in
    told-answer ps operator (fault_if inside 416 operator ++ table_clashes columns places others) (op.Union inner (map plan_of others)) columns false m
    (placed-append ps (fault_if inside 416 operator) (table_clashes columns places others) (placed-if ps inside 416 operator m) (placed-tables ps columns places others w))

-- Each table argument stands at one of these places, and is told at one.
abbrev pub TablesIn : Places → List BindsArg → Type 0
TablesIn ps [] = Unit {0}
TablesIn ps (t ∷ ts) = Member t.0 ps × ((known : Known) (inside : Bool) → ToldIn ps (t.1 known inside)) × TablesIn ps ts

tables-at : (ps : Places) (tables : List BindsArg) → TablesIn ps tables → Within (places_of tables) ps
tables-at ps [] h q m = absurd m
tables-at ps (t ∷ ts) h q (inl e) = subst (λ (p : Place). Member p ps) e h.0
tables-at ps (t ∷ ts) h q (inr m) = tables-at ps ts h.2 q m

told-tables-from : (ps : Places) (tables : List BindsArg) (known : Known) (inside : Bool) (start : Outcome (List BoundPlan)) → TablesIn ps tables → ToldIn ps start → ToldIn ps (fold (λ (before : Outcome (List BoundPlan)) (t : BindsArg). before >>= λ xs. t.1 known inside >>= λ x. Ok (xs ++ x ∷ [])) start tables)
told-tables-from ps [] known inside start h s = s
told-tables-from ps (t ∷ ts) known inside start h s =
    told-tables-from ps ts known inside (start >>= λ xs. t.1 known inside >>= λ x. Ok (xs ++ x ∷ [])) h.2
    (told-then ps start (λ (xs : List BoundPlan). t.1 known inside >>= λ x. Ok (xs ++ x ∷ [])) s (λ xs. told-then ps (t.1 known inside) (λ (x : BoundPlan). Ok (xs ++ x ∷ [])) (h.1 known inside) (λ x. told-ok ps (xs ++ x ∷ []))))

told-tables : (ps : Places) (tables : List BindsArg) (known : Known) (inside : Bool) → TablesIn ps tables → ToldIn ps (tables_bound tables known inside)
unfolding tables_bound each_bound
told-tables ps tables known inside h = told-tables-from ps tables known inside (Ok []) h (told-ok ps [])

pub told-union : (ps : Places) (operator : Place) (u : UnionParts) (known : Known) (inside : Bool) (rows : Shape) → Member operator ps → TablesIn ps u.1 → ToldIn ps (union_bound operator u known inside rows)
unfolding union_bound
told-union ps operator u known inside rows m h = told-then ps (tables_bound u.1 known inside) (λ (others : List BoundPlan). united operator inside u.0 rows (places_of u.1) others) (told-tables ps u.1 known inside h) (λ others. told-united ps operator inside u.0 rows (places_of u.1) others m (tables-at ps u.1 h))

told-union-of : (ps : Places) (operator : Place) (inner : Bool) (tables : List BindsArg) (known : Known) (inside : Bool) → Member operator ps → TablesIn ps tables → ToldIn ps (union_of operator inner tables known inside)
told-union-of ps operator inner [] known inside m h = told-at ps 419 operator m
told-union-of ps operator inner (t ∷ ts) known inside m h =
    told-then ps (t.1 known inside) (λ (first : BoundPlan). tables_bound ts known inside >>= λ others. united operator inside inner first.after (places_of ts) others >>= λ b. Ok (united_plan first b)) (h.1 known inside)
    (λ first. told-then ps (tables_bound ts known inside) (λ (others : List BoundPlan). united operator inside inner first.after (places_of ts) others >>= λ b. Ok (united_plan first b)) (told-tables ps ts known inside h.2)
    (λ others. told-then ps (united operator inside inner first.after (places_of ts) others) (λ (b : BoundOp). Ok (united_plan first b)) (told-united ps operator inside inner first.after (places_of ts) others m (tables-at ps ts h.2)) (λ b. told-ok ps (united_plan first b))))

pub told-union-source : (ps : Places) (operator : Place) (u : UnionParts) (known : Known) (inside : Bool) → Member operator ps → TablesIn ps u.1 → ToldIn ps (union_source_bound operator u known inside)
unfolding union_source_bound
told-union-source ps operator u known inside m h = told-union-of ps operator u.0 u.1 known inside m h

-- Operators one after another.

abbrev pub OpsIn : Places → List BindsOp → Type 0
OpsIn ps [] = Unit {0}
OpsIn ps (o ∷ os) = ((known : Known) (inside : Bool) (rows : Shape) → ToldIn ps (o known inside rows)) × OpsIn ps os

told-next : (ps : Places) (o : BindsOp) (known : Known) (inside : Bool) (before : Outcome BoundOps) → ((rows : Shape) → ToldIn ps (o known inside rows)) → ToldIn ps before → ToldIn ps (next_op o known inside before)
unfolding next_op
told-next ps o known inside before h k = told-then ps before (λ (done : BoundOps). o known inside done.after >>= λ b. Ok (with_op done b)) k (λ done. told-then ps (o known inside done.after) (λ (b : BoundOp). Ok (with_op done b)) (h done.after) (λ b. told-ok ps (with_op done b)))

told-ops-from : (ps : Places) (ops : List BindsOp) (known : Known) (inside : Bool) (start : Outcome BoundOps) → OpsIn ps ops → ToldIn ps start → ToldIn ps (fold (λ before (o : BindsOp). next_op o known inside before) start ops)
told-ops-from ps [] known inside start each h = h
told-ops-from ps (o ∷ os) known inside start each h = told-ops-from ps os known inside (next_op o known inside start) each.1 (told-next ps o known inside start (each.0 known inside) h)

told-ops : (ps : Places) (ops : List BindsOp) (known : Known) (inside : Bool) (rows : Shape) → OpsIn ps ops → ToldIn ps (ops_over ops known inside rows)
unfolding ops_over
told-ops ps ops known inside rows each = told-ops-from ps ops known inside (Ok (no_ops rows)) each (told-ok ps (no_ops rows))

pub told-piped : (ps : Places) (source : Outcome BoundPlan) (ops : List BindsOp) (known : Known) (inside : Bool) → ToldIn ps source → OpsIn ps ops → ToldIn ps (piped source ops known inside)
unfolding piped
told-piped ps source ops known inside h each = told-then ps source (λ (p : BoundPlan). ops_over ops known inside p.after >>= λ done. Ok (with_ops p done)) h (λ p. told-then ps (ops_over ops known inside p.after) (λ (done : BoundOps). Ok (with_ops p done)) (told-ops ps ops known inside p.after each) (λ done. told-ok ps (with_ops p done)))

told-partitioned : (ps : Places) (operator : Place) (inside : Bool) (key : Column) (done : BoundOps) → Member operator ps → ToldIn ps (partitioned operator inside key done)
unfolding partitioned
told-partitioned ps operator inside key done m = told-unless ps (fault_if inside 416 operator) (made (op.Partition key.name done.ops) done.after.columns false) (placed-if ps inside 416 operator m)

pub told-partition : (ps : Places) (operator : Place) (column : Name) (ops : List BindsOp) (known : Known) (inside : Bool) (rows : Shape) → Member operator ps → Within (one_place column) ps → OpsIn ps ops → ToldIn ps (partition_bound operator column ops known inside rows)
unfolding partition_bound
told-partition ps operator column ops known inside rows m w each = told-then ps (distinct_column operator known rows column) (λ (key : Column). ops_over ops known true rows >>= λ done. partitioned operator inside key done) (told-distinct-column ps operator known rows column m w)
    (λ key. told-then ps (ops_over ops known true rows) (λ (done : BoundOps). partitioned operator inside key done) (told-ops ps ops known true rows each) (λ done. told-partitioned ps operator inside key done m))

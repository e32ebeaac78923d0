-- An operator without tables in it, or a source that is no table, tells its faults at its own places.
use Rattle.bind_expr.specs.Names.{text_of}
use Rattle.bind_expr.specs.Outcome.{◌>>=◌}
use Rattle.bind_expr.specs.declared.fault.BindFault.{BindFault}
use Rattle.bind_expr.specs.declared.scope.Scope.{Scope}
use Rattle.bind_expr_laws.proofs.PlaceSteps.{ToldIn, Within, told-ok, told-then}
use Rattle.bind_expr_laws.specs.Places.{Places, expr_places}
use Rattle.bind_groups.specs.Summarize.{distinct_answer, distinct_bound, distinct_column, key_column}
use Rattle.bind_operators.specs.Answers.{answer, apart, over, serialised, width_faults}
use Rattle.bind_operators.specs.Extend.{extend_bound, extended, lending, own_left, serialize_bound}
use Rattle.bind_operators.specs.Faults.{each_bound, fault_if}
use Rattle.bind_operators.specs.Items.{column_item, item_in, items_bound, names_twice, no_items, twice_items}
use Rattle.bind_operators.specs.Known.{column_wanted, no_rows, rows_of, scope_at, serial_rows_of}
use Rattle.bind_operators.specs.Places.{item_start, name_place}
use Rattle.bind_operators.specs.Project.{chosen, columns_in, columns_wanted, old_name, project_answer, project_away_bound, project_bound, project_keep_bound, project_rename_bound, projected, rename_faults, renamed_columns, renamed_item}
use Rattle.bind_operators.specs.Sort.{key_bound as sort_key, key_of, sort_bound, top_bound, topped}
use Rattle.bind_operators.specs.Sources.{print_bound, print_items, printed, range_bound, ranged, with_print_item}
use Rattle.bind_operators.specs.TakeAndCount.{counted, take_bound, taken}
use Rattle.bind_operators.specs.Wanted.{constant_bound, count_in, is_no_count, row_count_bound, typed_bound}
use Rattle.bind_operators.specs.Where.{where_bound}
use Rattle.bind_operators.specs.declared.items.NamedItems.{NamedItems}
use Rattle.bind_operators.specs.declared.known.Known.{Known}
use Rattle.bind_operators.specs.declared.shape.Shape.{Shape}
use Rattle.bind_operators.specs.declared.wanted.Wanted.TheVariants as wanted
use Rattle.bind_query.specs.Operators.{column_op_bound, row_op_bound}
use Rattle.bind_query_laws.proofs.PlaceParts.{ArePlaced, GivesIn, ItemsIn, gives-fold, in-left, in-none, in-right, item-start-in, items-given, one-more, placed-append, placed-if, placed-items, placed-names, placed-width, told-answer, told-column, told-constant, told-count, told-each, told-item, told-typed, told-unless, told-with}
use Rattle.bind_query_laws.specs.QueryPlaces.{column_op_places, distinct_places, item_places, items_places, key_places, names_places, one_place, range_places, rename_places, row_op_places}
use Rattle.kql_bound.specs.declared.literal.Lit.{Lit}
use Rattle.kql_bound.specs.declared.parts.BItem.{BItem}
use Rattle.kql_bound.specs.declared.parts.BKey.{BKey}
use Rattle.kql_bound.specs.declared.parts.GroupPlan.{GroupPlan}
use Rattle.kql_bound.specs.declared.plan.Op.TheVariants as op
use Rattle.kql_bound.specs.declared.plan.Source.TheVariants as source
use Rattle.kql_cells.specs.declared.schema.Column.{Column}
use Rattle.kql_cells.specs.declared.value.Kind.TheVariants as kind
use Rattle.kql_functions.specs.Kinds.{is_dynamic}
use Rattle.kql_lexer.specs.declared.place.Place.{Place}
use Rattle.kql_meaning.proofs.MemberLaws.{Member}
use Rattle.kql_meaning.specs.Extend.{extend_columns}
use Rattle.kql_meaning.specs.FittingOperators.{range_fits}
use Rattle.kql_meaning.specs.Items.{items_columns, without}
use Rattle.kql_meaning.specs.Sources.{range_columns}
use Rattle.kql_meaning.specs.Summarize.{group_columns}
use Rattle.kql_meaning.specs.Tables.{is_name_among, names_of}
use Rattle.kql_meaning.specs.declared.position.Position.TheVariants as position
use Rattle.kql_syntax.specs.declared.query.ColumnOp.TheVariants as column_op
use Rattle.kql_syntax.specs.declared.query.ColumnOp.{ColumnOp}
use Rattle.kql_syntax.specs.declared.query.Distinct.TheVariants as distinct
use Rattle.kql_syntax.specs.declared.query.Distinct.{Distinct}
use Rattle.kql_syntax.specs.declared.query.Item.{Item}
use Rattle.kql_syntax.specs.declared.query.Key.{Key}
use Rattle.kql_syntax.specs.declared.query.Range.{Range}
use Rattle.kql_syntax.specs.declared.query.RowOp.TheVariants as row_op
use Rattle.kql_syntax.specs.declared.query.RowOp.{RowOp}
use Rattle.kql_syntax.specs.declared.tree.Expr.{Expr}
use Rattle.kql_syntax.specs.declared.tree.Name.{Name}
use Rattle.std.proofs.Common.{List, [], inl, inr, map, refl, ℕ, ◌++◌, ◌∷◌}
use Rattle.std.specs.List.{flat_map}
use Rattle.std.specs.Prelude.{Bool, Ok, false, not, ◌||◌}

-- Operators over columns.

told-where : (ps : Places) (e : Expr) (known : Known) (rows : Shape) → Within (expr_places e) ps → ToldIn ps (where_bound e known rows)
unfolding where_bound
told-where ps e known rows w = told-then ps (typed_bound (wanted.Is kind.Bool) e (scope_at known rows position.Window)) (λ t. Ok (over (op.Where t.expr) rows)) (told-typed ps (wanted.Is kind.Bool) e (scope_at known rows position.Window) w) (λ t. told-ok ps (over (op.Where t.expr) rows))

told-extended : (ps : Places) (operator : Place) (rows : Shape) (done : NamedItems) → Member operator ps → ItemsIn ps done → ToldIn ps (extended operator rows done)
unfolding extended
told-extended ps operator rows done m q =
    told-then ps (answer operator (twice_items done) (op.Extend done.items) (extend_columns done.items rows.columns) rows.serial) (λ b. Ok (lending (own_left done.items rows.own) b))
    (told-answer ps operator (twice_items done) (op.Extend done.items) (extend_columns done.items rows.columns) rows.serial m (placed-items ps done q)) (λ b. told-ok ps (lending (own_left done.items rows.own) b))

told-extend : (ps : Places) (operator : Place) (items : List Item) (known : Known) (rows : Shape) → Member operator ps → Within (items_places items) ps → ToldIn ps (extend_bound operator items known rows)
unfolding extend_bound
told-extend ps operator items known rows m w = told-with ps (ItemsIn ps) (items_bound (scope_at known rows position.Window) items) (extended operator rows) (items-given ps (scope_at known rows position.Window) items w) (λ done q. told-extended ps operator rows done m q)

told-serialize : (ps : Places) (operator : Place) (items : List Item) (known : Known) (rows : Shape) → Member operator ps → Within (items_places items) ps → ToldIn ps (serialize_bound operator items known rows)
unfolding serialize_bound
told-serialize ps operator [] known rows m w = told-ok ps (over op.Serialize (serialised rows))
told-serialize ps operator (item ∷ items) known rows m w = told-extend ps operator (item ∷ items) known (serialised rows) m w

told-project-answer : (ps : Places) (operator : Place) (rows : Shape) (fs : List BindFault) (items : List BItem) → Member operator ps → ArePlaced ps fs → ToldIn ps (project_answer operator rows fs items)
unfolding project_answer
told-project-answer ps operator rows fs items m h = told-answer ps operator fs (op.Project items) (items_columns items rows.columns) rows.serial m h

told-projected : (ps : Places) (operator : Place) (rows : Shape) (done : NamedItems) → Member operator ps → ItemsIn ps done → ToldIn ps (projected operator rows done)
unfolding projected
told-projected ps operator rows done m q = told-project-answer ps operator rows (twice_items done) done.items m (placed-items ps done q)

told-project : (ps : Places) (operator : Place) (items : List Item) (known : Known) (rows : Shape) → Member operator ps → Within (items_places items) ps → ToldIn ps (project_bound operator items known rows)
unfolding project_bound
told-project ps operator items known rows m w = told-with ps (ItemsIn ps) (items_bound (scope_at known rows position.Window) items) (projected operator rows) (items-given ps (scope_at known rows position.Window) items w) (λ done q. told-projected ps operator rows done m q)

told-chosen : (ps : Places) (operator : Place) (rows : Shape) (columns : List Column) → Member operator ps → ToldIn ps (chosen operator rows columns)
unfolding chosen
told-chosen ps operator rows columns m = told-project-answer ps operator rows [] (map column_item columns) m tt

told-columns : (ps : Places) (operator : Place) (known : Known) (rows : Shape) (names : List Name) → Member operator ps → Within (names_places names) ps → ToldIn ps (columns_wanted operator known rows names)
unfolding columns_wanted
told-columns ps operator known rows names m w = told-each ps (column_wanted operator known rows.columns) one_place (λ n v. told-column ps operator known rows.columns n m v) names w

told-away : (ps : Places) (operator : Place) (names : List Name) (known : Known) (rows : Shape) → Member operator ps → Within (names_places names) ps → ToldIn ps (project_away_bound operator names known rows)
unfolding project_away_bound
told-away ps operator names known rows m w = told-then ps (columns_wanted operator known rows names) (λ (cs : List Column). chosen operator rows (without (names_of cs) rows.columns)) (told-columns ps operator known rows names m w) (λ cs. told-chosen ps operator rows (without (names_of cs) rows.columns) m)

told-keep : (ps : Places) (operator : Place) (names : List Name) (known : Known) (rows : Shape) → Member operator ps → Within (names_places names) ps → ToldIn ps (project_keep_bound operator names known rows)
unfolding project_keep_bound
told-keep ps operator names known rows m w = told-then ps (columns_wanted operator known rows names) (λ (cs : List Column). chosen operator rows (columns_in (names_of cs) rows.columns)) (told-columns ps operator known rows names m w) (λ cs. told-chosen ps operator rows (columns_in (names_of cs) rows.columns) m)

placed-renames : (ps : Places) (standing renamed : List (List ℕ)) (rs : List (Name × Name)) → Within (flat_map rename_places rs) ps → ArePlaced ps (rename_faults standing renamed rs)
unfolding rename_faults
placed-renames ps standing renamed [] w = tt
placed-renames ps standing renamed (r ∷ rs) w =
    let wrong : Bool = is_name_among renamed (text_of r.1) || is_name_among standing (text_of r.0) in
    placed-append ps (fault_if wrong 411 (name_place r.0)) (rename_faults (standing ++ text_of r.0 ∷ []) (renamed ++ text_of r.1 ∷ []) rs) (placed-if ps wrong 411 (name_place r.0) (w (name_place r.0) (inl refl)))
    (placed-renames ps (standing ++ text_of r.0 ∷ []) (renamed ++ text_of r.1 ∷ []) rs (in-right (rename_places r) (flat_map rename_places rs) ps w))

-- The old names of renames stand among the places of both.
olds-in : (ps : Places) (rs : List (Name × Name)) → Within (flat_map rename_places rs) ps → Within (names_places (map (λ (r : Name × Name). r.1) rs)) ps
olds-in ps [] w q m = absurd m
olds-in ps (r ∷ rs) w q (inl e) = w q (inr (inl e))
olds-in ps (r ∷ rs) w q (inr m) = olds-in ps rs (in-right (rename_places r) (flat_map rename_places rs) ps w) q m

told-renamed : (ps : Places) (operator : Place) (rs : List (Name × Name)) (rows : Shape) → Member operator ps → Within (flat_map rename_places rs) ps → ToldIn ps (renamed_columns operator rs rows)
unfolding renamed_columns
told-renamed ps operator rs rows m w =
    let kept : List Column = without (map old_name rs) rows.columns in
    told-project-answer ps operator rows (rename_faults (names_of kept) [] rs) (map (renamed_item rs) rows.columns) m (placed-renames ps (names_of kept) [] rs w)

told-rename : (ps : Places) (operator : Place) (rs : List (Name × Name)) (known : Known) (rows : Shape) → Member operator ps → Within (flat_map rename_places rs) ps → ToldIn ps (project_rename_bound operator rs known rows)
unfolding project_rename_bound
told-rename ps operator rs known rows m w = told-then ps (columns_wanted operator known rows (map (λ (r : Name × Name). r.1) rs)) (λ (olds : List Column). renamed_columns operator rs rows) (told-columns ps operator known rows (map (λ (r : Name × Name). r.1) rs) m (olds-in ps rs w)) (λ olds. told-renamed ps operator rs rows m w)

pub told-column-op : (o : ColumnOp) (known : Known) (rows : Shape) → ToldIn (column_op_places o) (column_op_bound o known rows)
unfolding column_op_bound
told-column-op (column_op.Where operator e) known rows = told-where (operator ∷ expr_places e) e known rows (λ q m. inr m)
told-column-op (column_op.Extend operator items) known rows = told-extend (operator ∷ items_places items) operator items known rows (inl refl) (λ q m. inr m)
told-column-op (column_op.Project operator items) known rows = told-project (operator ∷ items_places items) operator items known (apart rows) (inl refl) (λ q m. inr m)
told-column-op (column_op.Serialize operator items) known rows = told-serialize (operator ∷ items_places items) operator items known rows (inl refl) (λ q m. inr m)
told-column-op (column_op.ProjectAway operator names) known rows = told-away (operator ∷ names_places names) operator names known rows (inl refl) (λ q m. inr m)
told-column-op (column_op.ProjectKeep operator names) known rows = told-keep (operator ∷ names_places names) operator names known rows (inl refl) (λ q m. inr m)
told-column-op (column_op.ProjectRename operator rs) known rows = told-rename (operator ∷ flat_map rename_places rs) operator rs known rows (inl refl) (λ q m. inr m)

-- Operators that choose or order rows.

told-taken : (ps : Places) (operator : Place) (rows : Shape) (n : Lit) → Member operator ps → ToldIn ps (taken operator rows n)
unfolding taken
told-taken ps operator rows n m = told-unless ps (fault_if (is_no_count n) 414 operator) (over (op.Take (count_in n)) rows) (placed-if ps (is_no_count n) 414 operator m)

told-take : (ps : Places) (operator : Place) (e : Expr) (known : Known) (rows : Shape) → Member operator ps → Within (expr_places e) ps → ToldIn ps (take_bound operator e known rows)
unfolding take_bound
told-take ps operator e known rows m w = told-then ps (row_count_bound operator known rows e) (taken operator rows) (told-count ps operator known rows e m w) (λ n. told-taken ps operator rows n m)

told-key : (ps : Places) (scope : Scope) (k : Key) → Within (key_places k) ps → ToldIn ps (sort_key scope k)
unfolding sort_key
told-key ps scope k w = told-then ps (typed_bound wanted.Key k.value scope) (λ t. Ok (key_of k t)) (told-typed ps wanted.Key k.value scope w) (λ t. told-ok ps (key_of k t))

told-sort : (ps : Places) (keys : List Key) (known : Known) (rows : Shape) → Within (flat_map key_places keys) ps → ToldIn ps (sort_bound keys known rows)
unfolding sort_bound
told-sort ps keys known rows w = told-then ps (each_bound (sort_key (scope_at known rows position.Plain)) keys) (λ (ks : List BKey). Ok (over (op.Sort ks) (serialised rows))) (told-each ps (sort_key (scope_at known rows position.Plain)) key_places (told-key ps (scope_at known rows position.Plain)) keys w) (λ ks. told-ok ps (over (op.Sort ks) (serialised rows)))

told-topped : (ps : Places) (operator : Place) (rows : Shape) (n : Lit) (key : BKey) → Member operator ps → ToldIn ps (topped operator rows n key)
unfolding topped
told-topped ps operator rows n key m = told-unless ps (fault_if (is_no_count n) 414 operator) (over (op.Top (count_in n) (key ∷ [])) (serialised rows)) (placed-if ps (is_no_count n) 414 operator m)

told-top : (ps : Places) (operator : Place) (e : Expr) (k : Key) (known : Known) (rows : Shape) → Member operator ps → Within (expr_places e ++ key_places k) ps → ToldIn ps (top_bound operator e k known rows)
unfolding top_bound
told-top ps operator e k known rows m w = told-then ps (row_count_bound operator known rows e) (λ (n : Lit). sort_key (scope_at known rows position.Plain) k >>= λ key. topped operator rows n key) (told-count ps operator known rows e m (in-left (expr_places e) (key_places k) ps w))
    (λ n. told-then ps (sort_key (scope_at known rows position.Plain) k) (λ (key : BKey). topped operator rows n key) (told-key ps (scope_at known rows position.Plain) k (in-right (expr_places e) (key_places k) ps w)) (λ key. told-topped ps operator rows n key m))

told-key-column : (ps : Places) (place : Place) (c : Column) → Member place ps → ToldIn ps (key_column place c)
unfolding key_column
told-key-column ps place c m = told-unless ps (fault_if (is_dynamic c.kind) 404 place) c (placed-if ps (is_dynamic c.kind) 404 place m)

pub told-distinct-column : (ps : Places) (operator : Place) (known : Known) (rows : Shape) (n : Name) → Member operator ps → Within (one_place n) ps → ToldIn ps (distinct_column operator known rows n)
unfolding distinct_column
told-distinct-column ps operator known rows n m w = told-then ps (column_wanted operator known rows.columns n) (λ (c : Column). key_column (name_place n) c) (told-column ps operator known rows.columns n m w) (λ c. told-key-column ps (name_place n) c (w (name_place n) (inl refl)))

told-distinct-answer : (ps : Places) (operator : Place) (rows : Shape) (fs : List BindFault) (columns : List Column) → Member operator ps → ArePlaced ps fs → ToldIn ps (distinct_answer operator rows fs columns)
unfolding distinct_answer
told-distinct-answer ps operator rows fs columns m h =
    let plan : GroupPlan = record { items = []; keys = map column_item columns } in
    told-answer ps operator fs (op.Summarize plan) (group_columns plan rows.columns) false m h

-- The columns behind one place.
none_of : Column → Places
none_of c = []

no-places : (ps : Places) (cs : List Column) → Within (flat_map none_of cs) ps
unfolding none_of
no-places ps [] q m = absurd m
no-places ps (c ∷ cs) q m = no-places ps cs q m

told-distinct : (ps : Places) (operator : Place) (d : Distinct) (known : Known) (rows : Shape) → Member operator ps → Within (distinct_places d) ps → ToldIn ps (distinct_bound operator d known rows)
unfolding distinct_bound
told-distinct ps operator (distinct.Star star) known rows m w = told-then ps (each_bound (key_column star) rows.columns) (λ (cs : List Column). distinct_answer operator rows [] cs) (told-each ps (key_column star) none_of (λ c v. told-key-column ps star c (w star (inl refl))) rows.columns (no-places ps rows.columns)) (λ cs. told-distinct-answer ps operator rows [] cs m tt)
told-distinct ps operator (distinct.Columns names) known rows m w = told-then ps (each_bound (distinct_column operator known rows) names) (λ (cs : List Column). distinct_answer operator rows (names_twice [] names) cs) (told-each ps (distinct_column operator known rows) one_place (λ n v. told-distinct-column ps operator known rows n m v) names w) (λ cs. told-distinct-answer ps operator rows (names_twice [] names) cs m (placed-names ps [] names w))

pub told-row-op : (o : RowOp) (known : Known) (rows : Shape) → ToldIn (row_op_places o) (row_op_bound o known rows)
unfolding row_op_bound
told-row-op (row_op.Take operator e) known rows = told-take (operator ∷ expr_places e) operator e known rows (inl refl) (λ q m. inr m)
told-row-op (row_op.Limit operator e) known rows = told-take (operator ∷ expr_places e) operator e known rows (inl refl) (λ q m. inr m)
told-row-op (row_op.Count operator) known rows = told-ok (operator ∷ []) counted
told-row-op (row_op.Sort operator keys) known rows = told-sort (operator ∷ flat_map key_places keys) keys known rows (λ q m. inr m)
told-row-op (row_op.Order operator keys) known rows = told-sort (operator ∷ flat_map key_places keys) keys known rows (λ q m. inr m)
told-row-op (row_op.Top operator t) known rows = told-top (operator ∷ (expr_places t.0 ++ key_places t.1)) operator t.0 t.1 known rows (inl refl) (λ q m. inr m)
told-row-op (row_op.Distinct operator d) known rows = told-distinct (operator ∷ distinct_places d) operator d known rows (inl refl) (λ q m. inr m)

-- Sources.

told-ranged : (ps : Places) (operator : Place) (column : List ℕ) (from to step : Lit) → Member operator ps → ToldIn ps (ranged operator column from to step)
unfolding ranged
told-ranged ps operator column from to step m = told-unless ps (fault_if (not (range_fits from to step)) 414 operator) (serial_rows_of (source.Range column from to step) (range_columns column from)) (placed-if ps (not (range_fits from to step)) 414 operator m)

told-range-in : (ps : Places) (operator : Place) (r : Range) (known : Known) → Member operator ps → Within (expr_places r.from) ps → Within (expr_places r.to) ps → Within (expr_places r.step) ps → ToldIn ps (range_bound operator r known)
unfolding range_bound
told-range-in ps operator r known m u v w = told-then ps (constant_bound operator wanted.Ordered known no_rows r.from) (λ (from : Lit). constant_bound operator (wanted.Is from.kind) known no_rows r.to >>= λ to. constant_bound operator (wanted.StepOf from.kind) known no_rows r.step >>= λ step. ranged operator (text_of r.column) from to step) (told-constant ps operator wanted.Ordered known no_rows r.from m u)
    (λ from. told-then ps (constant_bound operator (wanted.Is from.kind) known no_rows r.to) (λ (to : Lit). constant_bound operator (wanted.StepOf from.kind) known no_rows r.step >>= λ step. ranged operator (text_of r.column) from to step) (told-constant ps operator (wanted.Is from.kind) known no_rows r.to m v)
    (λ to. told-then ps (constant_bound operator (wanted.StepOf from.kind) known no_rows r.step) (λ (step : Lit). ranged operator (text_of r.column) from to step) (told-constant ps operator (wanted.StepOf from.kind) known no_rows r.step m w) (λ step. told-ranged ps operator (text_of r.column) from to step m)))

pub told-range : (operator : Place) (r : Range) (known : Known) → ToldIn (operator ∷ range_places r) (range_bound operator r known)
told-range operator r known =
    let ps : Places = operator ∷ range_places r in
    let behind : Places = expr_places r.to ++ expr_places r.step in
    let ends : Within (expr_places r.from ++ behind) ps = λ q m. inr (inr m) in
    let rest : Within behind ps = in-right (expr_places r.from) behind ps ends in
    told-range-in ps operator r known (inl refl) (in-left (expr_places r.from) behind ps ends) (in-left (expr_places r.to) (expr_places r.step) ps rest) (in-right (expr_places r.to) (expr_places r.step) ps rest)

print-given : (ps : Places) (scope : Scope) (items : List Item) → Within (items_places items) ps → GivesIn ps (ItemsIn ps) (print_items scope items)
unfolding print_items with_print_item no_items
print-given ps scope items w = gives-fold ps (ItemsIn ps) (λ item done t. Ok (with_print_item done item t)) (item_in scope) item_places (told-item ps scope) (λ item done t v q. record { holds = one-more done.places (item_start item) ps q (item-start-in ps item v) }) (Ok (no_items 0)) (record { holds = in-none ps }) items w

told-printed : (ps : Places) (operator : Place) (done : NamedItems) → Member operator ps → ItemsIn ps done → ToldIn ps (printed operator done)
unfolding printed
told-printed ps operator done m q =
    let columns : List Column = items_columns done.items [] in
    told-unless ps (twice_items done ++ width_faults operator columns) (rows_of (source.Print done.items) columns) (placed-append ps (twice_items done) (width_faults operator columns) (placed-items ps done q) (placed-width ps operator columns m))

pub told-print : (operator : Place) (items : List Item) (known : Known) → ToldIn (operator ∷ items_places items) (print_bound operator items known)
unfolding print_bound
told-print operator items known =
    let ps : Places = operator ∷ items_places items in
    told-with ps (ItemsIn ps) (print_items (scope_at known no_rows position.Plain) items) (printed operator) (print-given ps (scope_at known no_rows position.Plain) items (λ q m. inr m)) (λ done q. told-printed ps operator done (inl refl) q)

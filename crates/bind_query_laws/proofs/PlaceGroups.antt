-- An operator over groups of rows, or over parts of cells, tells its faults at its own places.
use Rattle.bind_expr.specs.Bound.{bound_expr}
use Rattle.bind_expr.specs.GroupForms.{has_bad_count, has_bare_column}
use Rattle.bind_expr.specs.Outcome.{Outcome, ◌>>=◌}
use Rattle.bind_expr.specs.declared.fault.BindFault.{BindFault}
use Rattle.bind_expr.specs.declared.scope.Scope.{Scope}
use Rattle.bind_expr.specs.declared.typed.Typed.{Typed}
use Rattle.bind_expr_laws.proofs.PlaceSteps.{ToldIn, Within, told-ok, told-then}
use Rattle.bind_expr_laws.specs.Places.{Places, expr_places}
use Rattle.bind_groups.specs.MakeSeries.{axis_bound, bin_faults, default_bound, make_series_bound, no_series, series_answer, series_bound, series_call, series_part, series_part_bound, series_plan, series_twice, with_series}
use Rattle.bind_groups.specs.MvExpand.{expand_faults, expand_part, expand_part_bound, expanded, expands_bound, is_array, mv_expand_bound, no_expands, with_expand}
use Rattle.bind_groups.specs.Parse.{column_of_type, parse_bound, parse_plan, parsed, pat_bound, pattern_names}
use Rattle.bind_groups.specs.Summarize.{formed_item, group_faults, group_item, group_items_bound, group_keys_bound, group_scope, groups_bound, named_item, shares_name, summarize_bound, summarize_groups, summarized}
use Rattle.bind_groups.specs.declared.part.ExpandPart.{ExpandPart}
use Rattle.bind_groups.specs.declared.part.NamedExpands.{NamedExpands}
use Rattle.bind_groups.specs.declared.part.NamedSeries.{NamedSeries}
use Rattle.bind_groups.specs.declared.part.SeriesPart.{SeriesPart}
use Rattle.bind_operators.specs.Faults.{each_bound, fault_if, unless}
use Rattle.bind_operators.specs.Items.{names_of_items, names_twice, twice}
use Rattle.bind_operators.specs.Known.{column_wanted, scope_at}
use Rattle.bind_operators.specs.Places.{expr_inside, item_start, name_place}
use Rattle.bind_operators.specs.Wanted.{constant_bound, kind_or, typed_bound}
use Rattle.bind_operators.specs.declared.bound.BoundOp.{BoundOp}
use Rattle.bind_operators.specs.declared.items.NamedItems.{NamedItems}
use Rattle.bind_operators.specs.declared.known.Known.{Known}
use Rattle.bind_operators.specs.declared.shape.Shape.{Shape}
use Rattle.bind_operators.specs.declared.wanted.Wanted.TheVariants as wanted
use Rattle.bind_query.specs.Operators.{group_op_bound}
use Rattle.bind_query_laws.proofs.PlaceParts.{ArePlaced, GivesIn, ItemsIn, given-items, gives-fold, in-both, in-cons, in-head, in-left, in-none, in-right, in-tail, inside-in, item-start-in, one-more, placed-append, placed-if, placed-names, placed-twice, told-answer, told-column, told-constant, told-each, told-expr, told-kind-or, told-typed, told-unless, told-with}
use Rattle.bind_query_laws.specs.QueryPlaces.{expand_places, given_places, group_op_places, groups_places, item_places, items_places, make_series_places, named_places, names_places, one_place, pat_places, series_places, word_places}
use Rattle.kql_bound.specs.declared.literal.Lit.{Lit}
use Rattle.kql_bound.specs.declared.parts.BItem.{BItem}
use Rattle.kql_bound.specs.declared.parts.Expand.{Expand as ExpandPlan}
use Rattle.kql_bound.specs.declared.parts.ExpandItem.{ExpandItem}
use Rattle.kql_bound.specs.declared.parts.GroupPlan.{GroupPlan}
use Rattle.kql_bound.specs.declared.parts.ParsePlan.{ParsePlan}
use Rattle.kql_bound.specs.declared.parts.PatItem.{PatItem}
use Rattle.kql_bound.specs.declared.parts.SeriesItem.{SeriesItem}
use Rattle.kql_bound.specs.declared.parts.SeriesPlan.{SeriesPlan}
use Rattle.kql_bound.specs.declared.plan.Op.TheVariants as op
use Rattle.kql_cells.specs.declared.schema.Column.{Column}
use Rattle.kql_cells.specs.declared.value.Kind.TheVariants as kind
use Rattle.kql_cells.specs.declared.value.Kind.{Kind}
use Rattle.kql_functions.specs.Kinds.{has_order}
use Rattle.kql_lexer.specs.declared.place.Place.{Place}
use Rattle.kql_meaning.proofs.MemberLaws.{Member, member-left, member-right}
use Rattle.kql_meaning.specs.FittingExpressions.{is_aggregate_call}
use Rattle.kql_meaning.specs.FittingOperators.{bins_fit}
use Rattle.kql_meaning.specs.MakeSeries.{series_columns}
use Rattle.kql_meaning.specs.MvExpand.{expand_columns}
use Rattle.kql_meaning.specs.Parse.{parse_columns}
use Rattle.kql_meaning.specs.Summarize.{group_columns}
use Rattle.kql_meaning.specs.declared.position.Position.TheVariants as position
use Rattle.kql_syntax.specs.declared.query.Expand.{Expand}
use Rattle.kql_syntax.specs.declared.query.ExpandKind.{ExpandKind}
use Rattle.kql_syntax.specs.declared.query.GroupOp.TheVariants as group_op
use Rattle.kql_syntax.specs.declared.query.GroupOp.{GroupOp}
use Rattle.kql_syntax.specs.declared.query.Groups.TheVariants as groups
use Rattle.kql_syntax.specs.declared.query.Groups.{Groups}
use Rattle.kql_syntax.specs.declared.query.Item.{Item}
use Rattle.kql_syntax.specs.declared.query.MakeSeries.{MakeSeries}
use Rattle.kql_syntax.specs.declared.query.ParseKind.{ParseKind}
use Rattle.kql_syntax.specs.declared.query.Pat.TheVariants as pat
use Rattle.kql_syntax.specs.declared.query.Pat.{Pat}
use Rattle.kql_syntax.specs.declared.query.Series.{Series}
use Rattle.kql_syntax.specs.declared.query.Summarize.{Summarize}
use Rattle.kql_syntax.specs.declared.tree.Expr.{Expr}
use Rattle.kql_syntax.specs.declared.tree.Name.{Name}
use Rattle.std.proofs.Common.{List, [], inl, inr, map, refl, ℕ, ◌++◌, ◌∷◌}
use Rattle.std.specs.List.{flat_map, list_any}
use Rattle.std.specs.Prelude.{Bool, None, Ok, Option, Some, false, not}

-- Summaries.

group-keys-given : (ps : Places) (known : Known) (rows : Shape) (n : ℕ) (keys : List Item) → Within (items_places keys) ps → GivesIn ps (ItemsIn ps) (group_keys_bound known rows n keys)
unfolding group_keys_bound
group-keys-given ps known rows n keys w =
    let scope : Scope = scope_at known rows position.Plain in
    given-items ps (λ (item : Item). typed_bound wanted.Key item.value scope) (λ item v. told-typed ps wanted.Key item.value scope (in-right (named_places item.name) (expr_places item.value) ps v)) n keys w

told-group-item : (ps : Places) (operator : Place) (scope : Scope) (item : Item) → Member operator ps → Within (expr_places item.value) ps → ToldIn ps (group_item operator scope item)
unfolding group_item
told-group-item ps operator scope item m w = told-then ps (bound_expr item.value scope) (λ (t : Typed). formed_item operator t >>= λ formed. named_item item formed) (told-expr ps item.value scope w)
    (λ t. told-then ps (formed_item operator t) (λ (u : Typed). named_item item u)
    (told-unless ps (fault_if (has_bare_column t.expr) 403 operator) t (placed-if ps (has_bare_column t.expr) 403 operator m))
    (λ u. told-unless ps (fault_if (shares_name item u) 403 (expr_inside item.value)) u (placed-if ps (shares_name item u) 403 (expr_inside item.value) (inside-in ps item.value w))))

group-items-given : (ps : Places) (operator : Place) (known : Known) (rows : Shape) (items keys : List Item) → Member operator ps → Within (items_places items) ps → GivesIn ps (ItemsIn ps) (group_items_bound operator known rows items keys)
unfolding group_items_bound
group-items-given ps operator known rows items keys m w = given-items ps (group_item operator (group_scope known rows keys)) (λ item v. told-group-item ps operator (group_scope known rows keys) item m (in-right (named_places item.name) (expr_places item.value) ps v)) 1 items w

placed-groups : (ps : Places) (operator : Place) (items keys : NamedItems) → Member operator ps → ItemsIn ps items → ItemsIn ps keys → ArePlaced ps (group_faults operator items keys)
unfolding group_faults
placed-groups ps operator items keys m q r =
    let bad : Bool = list_any (λ (b : BItem). has_bad_count b.expr) items.items in
    placed-append ps (twice [] (items.places ++ keys.places) (names_of_items items.items ++ names_of_items keys.items)) (fault_if bad 414 operator)
    (placed-twice ps [] (items.places ++ keys.places) (names_of_items items.items ++ names_of_items keys.items) (in-both items.places keys.places ps q r)) (placed-if ps bad 414 operator m)

told-summarized : (ps : Places) (operator : Place) (rows : Shape) (items keys : NamedItems) → Member operator ps → ItemsIn ps items → ItemsIn ps keys → ToldIn ps (summarized operator rows items keys)
unfolding summarized
told-summarized ps operator rows items keys m q r =
    let plan : GroupPlan = record { items = items.items; keys = keys.items } in
    told-answer ps operator (group_faults operator items keys) (op.Summarize plan) (group_columns plan rows.columns) false m (placed-groups ps operator items keys m q r)

told-groups : (ps : Places) (operator : Place) (items keys : List Item) (known : Known) (rows : Shape) → Member operator ps → Within (items_places items) ps → Within (items_places keys) ps → ToldIn ps (groups_bound operator items keys known rows)
unfolding groups_bound
told-groups ps operator items keys known rows m v w = told-with ps (ItemsIn ps) (group_items_bound operator known rows items keys) (λ (done : NamedItems). group_keys_bound known rows done.next keys >>= λ by. summarized operator rows done by) (group-items-given ps operator known rows items keys m v)
    (λ done q. told-with ps (ItemsIn ps) (group_keys_bound known rows done.next keys) (λ (by : NamedItems). summarized operator rows done by) (group-keys-given ps known rows done.next keys w) (λ by r. told-summarized ps operator rows done by m q r))

told-summarize-as : (ps : Places) (operator : Place) (g : Groups) (known : Known) (rows : Shape) → Member operator ps → Within (groups_places g) ps → ToldIn ps (summarize_groups operator g known rows)
told-summarize-as ps operator (groups.Aggregates items keys) known rows m w = told-groups ps operator items keys known rows m (in-left (items_places items) (items_places keys) ps w) (in-right (items_places items) (items_places keys) ps w)
told-summarize-as ps operator (groups.Keys keys) known rows m w = told-groups ps operator [] keys known rows m (in-none ps) w

told-summarize : (operator : Place) (s : Summarize) (known : Known) (rows : Shape) → ToldIn (operator ∷ groups_places s.groups) (summarize_bound operator s known rows)
unfolding summarize_bound
told-summarize operator s known rows = told-summarize-as (operator ∷ groups_places s.groups) operator s.groups known rows (inl refl) (λ q m. inr m)

-- Series.

told-default : (ps : Places) (operator : Place) (known : Known) (rows : Shape) (k : Kind) (o : Option Expr) → Member operator ps → Within (given_places o) ps → ToldIn ps (default_bound operator known rows k o)
unfolding default_bound
told-default ps operator known rows k None m w = record { holds = tt }
told-default ps operator known rows k (Some e) m w = told-constant ps operator (wanted.Is k) known rows e m w

told-series-call : (ps : Places) (operator : Place) (t : Typed) → Member operator ps → ToldIn ps (series_call operator t)
unfolding series_call
told-series-call ps operator t m = told-unless ps (fault_if (not (is_aggregate_call t.expr)) 403 operator) t (placed-if ps (not (is_aggregate_call t.expr)) 403 operator m)

told-series-part : (ps : Places) (operator : Place) (known : Known) (rows : Shape) (s : Series) → Member operator ps → Within (series_places s) ps → ToldIn ps (series_part_bound operator known rows s)
unfolding series_part_bound
told-series-part ps operator known rows s m w =
    let scope : Scope = scope_at known rows position.Series in
    let own : Within (item_places s.item) ps = in-left (item_places s.item) (given_places s.default) ps w in
    told-then ps (bound_expr s.item.value scope) (λ (t : Typed). series_call operator t >>= λ call. default_bound operator known rows call.kind s.default >>= λ default. Ok (series_part call default)) (told-expr ps s.item.value scope (in-right (named_places s.item.name) (expr_places s.item.value) ps own))
    (λ t. told-then ps (series_call operator t) (λ (call : Typed). default_bound operator known rows call.kind s.default >>= λ default. Ok (series_part call default)) (told-series-call ps operator t m)
    (λ call. told-then ps (default_bound operator known rows call.kind s.default) (λ (default : Lit). Ok (series_part call default)) (told-default ps operator known rows call.kind s.default m (in-right (item_places s.item) (given_places s.default) ps w)) (λ default. told-ok ps (series_part call default))))

abbrev SeriesIn : Places → NamedSeries → Type 0
SeriesIn ps done = Within done.places ps

series-given : (ps : Places) (operator : Place) (known : Known) (rows : Shape) (items : List Series) → Member operator ps → Within (flat_map series_places items) ps → GivesIn ps (SeriesIn ps) (series_bound operator known rows items)
unfolding series_bound with_series no_series
series-given ps operator known rows items m w = gives-fold ps (SeriesIn ps) (λ (s : Series) (done : NamedSeries) (x : SeriesPart). Ok (with_series done s.item x)) (series_part_bound operator known rows) series_places (λ s v. told-series-part ps operator known rows s m v)
    (λ s done x v q. record { holds = one-more done.places (item_start s.item) ps q (item-start-in ps s.item (in-left (item_places s.item) (given_places s.default) ps v)) }) (Ok no_series) (record { holds = in-none ps }) items w

told-axis : (ps : Places) (operator : Place) (known : Known) (rows : Shape) (n : Name) → Member operator ps → Within (one_place n) ps → ToldIn ps (axis_bound operator known rows n)
unfolding axis_bound
told-axis ps operator known rows n m w = told-then ps (column_wanted operator known rows.columns n) (λ (c : Column). unless (fault_if (not (has_order c.kind)) 404 (name_place n)) c) (told-column ps operator known rows.columns n m w) (λ c. told-unless ps (fault_if (not (has_order c.kind)) 404 (name_place n)) c (placed-if ps (not (has_order c.kind)) 404 (name_place n) (w (name_place n) (inl refl))))

told-series-answer : (ps : Places) (operator : Place) (rows : Shape) (fs : List BindFault) (plan : SeriesPlan) → Member operator ps → ArePlaced ps fs → ToldIn ps (series_answer operator rows fs plan)
unfolding series_answer bin_faults
told-series-answer ps operator rows fs plan m h = told-answer ps operator (fs ++ bin_faults operator rows plan) (op.MakeSeries plan) (series_columns plan rows.columns) false m (placed-append ps fs (bin_faults operator rows plan) h (placed-if ps (not (bins_fit plan rows.columns)) 414 operator m))

placed-series : (ps : Places) (done : NamedSeries) (place : Place) (axis : List ℕ) (keys : NamedItems) → SeriesIn ps done → Member place ps → ItemsIn ps keys → ArePlaced ps (series_twice done place axis keys)
unfolding series_twice
placed-series ps done place axis keys q m r = placed-twice ps [] (done.places ++ place ∷ keys.places) (map (λ (i : SeriesItem). i.name ∷ []) done.items ++ (axis ∷ []) ∷ names_of_items keys.items) (in-both done.places (place ∷ keys.places) ps q (in-cons place keys.places ps m r))

-- The parts of a series that stand among some places.
record SeriesParts (ps : Places) (operator : Place) (s : MakeSeries) : Type 0 where
  here : Member operator ps
  items : Within (flat_map series_places s.items) ps
  axis : Member (name_place s.axis) ps
  from : Within (expr_places s.from) ps
  to : Within (expr_places s.to) ps
  step : Within (expr_places s.step) ps
  keys : Within (items_places s.keys) ps

-- The ends and the step of a series, and then its keys.
told-series-behind : (ps : Places) (operator : Place) (s : MakeSeries) (known : Known) (rows : Shape) (done : NamedSeries) (axis : Column) → SeriesParts ps operator s → SeriesIn ps done → ToldIn ps (constant_bound operator (wanted.Is axis.kind) known rows s.from >>= λ from. constant_bound operator (wanted.Is axis.kind) known rows s.to >>= λ to. constant_bound operator (wanted.StepOf axis.kind) known rows s.step >>= λ step. group_keys_bound known rows done.next s.keys >>= λ keys. series_answer operator rows (series_twice done (name_place s.axis) axis.name keys) (series_plan done axis from to step keys))
told-series-behind ps operator s known rows done axis h q =
    let whole : Lit → Lit → Lit → NamedItems → Outcome BoundOp = λ from to step keys. series_answer operator rows (series_twice done (name_place s.axis) axis.name keys) (series_plan done axis from to step keys) in
    told-then ps (constant_bound operator (wanted.Is axis.kind) known rows s.from) (λ (from : Lit). constant_bound operator (wanted.Is axis.kind) known rows s.to >>= λ to. constant_bound operator (wanted.StepOf axis.kind) known rows s.step >>= λ step. group_keys_bound known rows done.next s.keys >>= λ keys. whole from to step keys) (told-constant ps operator (wanted.Is axis.kind) known rows s.from h.here h.from)
    (λ from. told-then ps (constant_bound operator (wanted.Is axis.kind) known rows s.to) (λ (to : Lit). constant_bound operator (wanted.StepOf axis.kind) known rows s.step >>= λ step. group_keys_bound known rows done.next s.keys >>= λ keys. whole from to step keys) (told-constant ps operator (wanted.Is axis.kind) known rows s.to h.here h.to)
    (λ to. told-then ps (constant_bound operator (wanted.StepOf axis.kind) known rows s.step) (λ (step : Lit). group_keys_bound known rows done.next s.keys >>= λ keys. whole from to step keys) (told-constant ps operator (wanted.StepOf axis.kind) known rows s.step h.here h.step)
    (λ step. told-with ps (ItemsIn ps) (group_keys_bound known rows done.next s.keys) (λ (keys : NamedItems). whole from to step keys) (group-keys-given ps known rows done.next s.keys h.keys)
    (λ keys r. told-series-answer ps operator rows (series_twice done (name_place s.axis) axis.name keys) (series_plan done axis from to step keys) h.here (placed-series ps done (name_place s.axis) axis.name keys q h.axis r)))))

told-make-series-in : (ps : Places) (operator : Place) (s : MakeSeries) (known : Known) (rows : Shape) → SeriesParts ps operator s → ToldIn ps (make_series_bound operator s known rows)
unfolding make_series_bound
told-make-series-in ps operator s known rows h =
    let behind : NamedSeries → Column → Outcome BoundOp = λ done axis. constant_bound operator (wanted.Is axis.kind) known rows s.from >>= λ from. constant_bound operator (wanted.Is axis.kind) known rows s.to >>= λ to. constant_bound operator (wanted.StepOf axis.kind) known rows s.step >>= λ step. group_keys_bound known rows done.next s.keys >>= λ keys. series_answer operator rows (series_twice done (name_place s.axis) axis.name keys) (series_plan done axis from to step keys) in
    told-with ps (SeriesIn ps) (series_bound operator known rows s.items) (λ (done : NamedSeries). axis_bound operator known rows s.axis >>= λ axis. behind done axis) (series-given ps operator known rows s.items h.here h.items)
    (λ done q. told-then ps (axis_bound operator known rows s.axis) (λ (axis : Column). behind done axis) (told-axis ps operator known rows s.axis h.here (in-cons (name_place s.axis) [] ps h.axis (in-none ps))) (λ axis. told-series-behind ps operator s known rows done axis h q))

told-make-series : (operator : Place) (s : MakeSeries) (known : Known) (rows : Shape) → ToldIn (operator ∷ make_series_places s) (make_series_bound operator s known rows)
told-make-series operator s known rows =
    let ps : Places = operator ∷ make_series_places s in
    let of_step : Places = expr_places s.step ++ items_places s.keys in
    let of_to : Places = expr_places s.to ++ of_step in
    let of_from : Places = expr_places s.from ++ of_to in
    let of_items : Places = flat_map series_places s.items in
    let all : Within (of_items ++ name_place s.axis ∷ of_from) ps = λ q m. inr m in
    let behind : Within (name_place s.axis ∷ of_from) ps = in-right of_items (name_place s.axis ∷ of_from) ps all in
    let ends : Within of_from ps = in-tail (name_place s.axis) of_from ps behind in
    let more : Within of_to ps = in-right (expr_places s.from) of_to ps ends in
    let last : Within of_step ps = in-right (expr_places s.to) of_step ps more in
    told-make-series-in ps operator s known rows (record {
      here = inl refl;
      items = in-left of_items (name_place s.axis ∷ of_from) ps all;
      axis = in-head (name_place s.axis) of_from ps behind;
      from = in-left (expr_places s.from) of_to ps ends;
      to = in-left (expr_places s.to) of_step ps more;
      step = in-left (expr_places s.step) (items_places s.keys) ps last;
      keys = in-right (expr_places s.step) (items_places s.keys) ps last;
    })

-- Expansions.

told-expand-part : (ps : Places) (scope : Scope) (x : Expand) → Within (expand_places x) ps → ToldIn ps (expand_part_bound scope x)
unfolding expand_part_bound
told-expand-part ps scope x w =
    let own : Within (item_places x.item) ps = in-left (item_places x.item) (word_places x.to) ps w in
    told-then ps (typed_bound (wanted.Is kind.Dynamic) x.item.value scope) (λ (t : Typed). kind_or kind.Dynamic x.to >>= λ to. Ok (expand_part t to)) (told-typed ps (wanted.Is kind.Dynamic) x.item.value scope (in-right (named_places x.item.name) (expr_places x.item.value) ps own))
    (λ t. told-then ps (kind_or kind.Dynamic x.to) (λ (to : Kind). Ok (expand_part t to)) (told-kind-or ps kind.Dynamic x.to (in-right (item_places x.item) (word_places x.to) ps w)) (λ to. told-ok ps (expand_part t to)))

abbrev ExpandsIn : Places → NamedExpands → Type 0
ExpandsIn ps done = Within done.places ps

expands-given : (ps : Places) (scope : Scope) (items : List Expand) → Within (flat_map expand_places items) ps → GivesIn ps (ExpandsIn ps) (expands_bound scope items)
unfolding expands_bound with_expand no_expands
expands-given ps scope items w = gives-fold ps (ExpandsIn ps) (λ (x : Expand) (done : NamedExpands) (p : ExpandPart). Ok (with_expand done x.item p)) (expand_part_bound scope) expand_places (told-expand-part ps scope)
    (λ x done p v q. record { holds = one-more done.places (item_start x.item) ps q (item-start-in ps x.item (in-left (item_places x.item) (word_places x.to) ps v)) }) (Ok no_expands) (record { holds = in-none ps }) items w

told-expanded : (ps : Places) (operator : Place) (form : Option ExpandKind) (rows : Shape) (done : NamedExpands) → Member operator ps → ExpandsIn ps done → ToldIn ps (expanded operator form rows done)
unfolding expanded expand_faults
told-expanded ps operator form rows done m q =
    let plan : ExpandPlan = record { array = is_array form; items = done.items } in
    told-answer ps operator (expand_faults done) (op.MvExpand plan) (expand_columns plan rows.columns) rows.serial m (placed-twice ps [] done.places (map (λ (i : ExpandItem). i.name ∷ []) done.items) q)

told-mv-expand : (ps : Places) (operator : Place) (form : Option ExpandKind) (items : List Expand) (known : Known) (rows : Shape) → Member operator ps → Within (flat_map expand_places items) ps → ToldIn ps (mv_expand_bound operator form items known rows)
unfolding mv_expand_bound
told-mv-expand ps operator form items known rows m w = told-with ps (ExpandsIn ps) (expands_bound (scope_at known rows position.Plain) items) (expanded operator form rows) (expands-given ps (scope_at known rows position.Plain) items w) (λ done q. told-expanded ps operator form rows done m q)

-- Patterns.

told-pat : (ps : Places) (p : Pat) → Within (pat_places p) ps → ToldIn ps (pat_bound p)
unfolding pat_bound
told-pat ps (pat.Star place) w = record { holds = tt }
told-pat ps (pat.Text place text) w = record { holds = tt }
told-pat ps (pat.Column n word) w = told-then ps (kind_or kind.Text word) (λ (k : Kind). Ok (column_of_type n k)) (told-kind-or ps kind.Text word (in-tail (name_place n) (word_places word) ps w)) (λ k. told-ok ps (column_of_type n k))

-- The names of a pattern stand among its places.
pattern-in : (ps : Places) (pattern : List Pat) → Within (flat_map pat_places pattern) ps → Within (names_places (pattern_names pattern)) ps
unfolding pattern_names
pattern-in ps [] w q m = absurd m
pattern-in ps (pat.Star place ∷ more) w q m = pattern-in ps more (λ r k. w r (inr k)) q m
pattern-in ps (pat.Text place text ∷ more) w q m = pattern-in ps more (λ r k. w r (inr k)) q m
pattern-in ps (pat.Column n word ∷ more) w q (inl e) = w q (inl e)
pattern-in ps (pat.Column n word ∷ more) w q (inr m) = pattern-in ps more (in-right (pat_places (pat.Column n word)) (flat_map pat_places more) ps w) q m

told-parsed : (ps : Places) (operator : Place) (rows : Shape) (pattern : List Pat) (plan : ParsePlan) → Member operator ps → Within (flat_map pat_places pattern) ps → ToldIn ps (parsed operator rows pattern plan)
unfolding parsed
told-parsed ps operator rows pattern plan m w = told-answer ps operator (names_twice [] (pattern_names pattern)) (op.Parse plan) (parse_columns plan rows.columns) rows.serial m (placed-names ps [] (pattern_names pattern) (pattern-in ps pattern w))

told-parse : (ps : Places) (operator : Place) (form : Option ParseKind) (e : Expr) (pattern : List Pat) (known : Known) (rows : Shape) → Member operator ps → Within (expr_places e) ps → Within (flat_map pat_places pattern) ps → ToldIn ps (parse_bound operator form e pattern known rows)
unfolding parse_bound
told-parse ps operator form e pattern known rows m v w =
    let scope : Scope = scope_at known rows position.Plain in
    told-then ps (typed_bound (wanted.Is kind.Text) e scope) (λ (text : Typed). each_bound pat_bound pattern >>= λ items. parsed operator rows pattern (parse_plan form text items)) (told-typed ps (wanted.Is kind.Text) e scope v)
    (λ text. told-then ps (each_bound pat_bound pattern) (λ (items : List PatItem). parsed operator rows pattern (parse_plan form text items)) (told-each ps pat_bound pat_places (told-pat ps) pattern w) (λ items. told-parsed ps operator rows pattern (parse_plan form text items) m w))

pub told-group-op : (o : GroupOp) (known : Known) (rows : Shape) → ToldIn (group_op_places o) (group_op_bound o known rows)
unfolding group_op_bound
told-group-op (group_op.Summarize operator s) known rows = told-summarize operator s known rows
told-group-op (group_op.MakeSeries operator s) known rows = told-make-series operator s known rows
told-group-op (group_op.MvExpand operator form items) known rows = told-mv-expand (operator ∷ flat_map expand_places items) operator form items known rows (inl refl) (λ q m. inr m)
told-group-op (group_op.Parse operator form e pattern) known rows =
    let of_pattern : Places = flat_map pat_places pattern in
    told-parse (operator ∷ (expr_places e ++ of_pattern)) operator form e pattern known rows (inl refl) (λ q m. inr (member-left (expr_places e) of_pattern q m)) (λ q m. inr (member-right (expr_places e) of_pattern q m))

-- Each refusal of an operator without tables in it has one of the codes of binding, and want of memory is none of them.
use Rattle.std.proofs.Common.{◌≡◌, ℕ, List, [], ◌∷◌, ◌++◌, length, map, refl, arith}
use Rattle.std.specs.Prelude.{◌||◌, ◌&&◌, nat_lt, Bool, true, false, not, Option, None, Some, Ok, Err, bytes_eq, find, fold, is_some, if◌then◌else◌}
use Rattle.std.specs.List.{list_any}
use Rattle.kql_cells.specs.declared.schema.Column.{Column}
use Rattle.kql_cells.specs.declared.value.Kind.{Kind}
use Rattle.kql_cells.specs.declared.value.Kind.TheVariants as kind
use Rattle.kql_functions.specs.Kinds.{has_order, is_dynamic}
use Rattle.kql_bound.specs.declared.literal.Lit.{Lit}
use Rattle.kql_bound.specs.declared.parts.BItem.{BItem}
use Rattle.kql_bound.specs.declared.parts.BKey.{BKey}
use Rattle.kql_bound.specs.declared.parts.Expand.{Expand as ExpandPlan}
use Rattle.kql_bound.specs.declared.parts.ExpandItem.{ExpandItem}
use Rattle.kql_bound.specs.declared.parts.GroupPlan.{GroupPlan}
use Rattle.kql_bound.specs.declared.parts.ParsePlan.{ParsePlan}
use Rattle.kql_bound.specs.declared.parts.PatItem.{PatItem}
use Rattle.kql_bound.specs.declared.parts.SeriesItem.{SeriesItem}
use Rattle.kql_bound.specs.declared.parts.SeriesPlan.{SeriesPlan}
use Rattle.kql_bound.specs.declared.plan.Op.{Op as BoundOperator}
use Rattle.kql_bound.specs.declared.plan.Op.TheVariants as op
use Rattle.kql_bound.specs.declared.plan.Source.TheVariants as source
use Rattle.kql_lexer.specs.declared.place.Place.{Place}
use Rattle.kql_meaning.specs.Expressions.{column_kind}
use Rattle.kql_meaning.specs.Extend.{extend_columns}
use Rattle.kql_meaning.specs.FittingExpressions.{is_aggregate_call}
use Rattle.kql_meaning.specs.FittingOperators.{bins_fit, is_empty, range_fits}
use Rattle.kql_meaning.specs.Items.{items_columns, without}
use Rattle.kql_meaning.specs.MakeSeries.{series_columns}
use Rattle.kql_meaning.specs.MvExpand.{expand_columns}
use Rattle.kql_meaning.specs.Parse.{parse_columns}
use Rattle.kql_meaning.specs.Sources.{range_columns}
use Rattle.kql_meaning.specs.Summarize.{group_columns}
use Rattle.kql_meaning.specs.Tables.{is_name_among, names_of}
use Rattle.kql_meaning.specs.declared.position.Position.TheVariants as position
use Rattle.kql_syntax.specs.declared.query.ColumnOp.{ColumnOp}
use Rattle.kql_syntax.specs.declared.query.ColumnOp.TheVariants as column_op
use Rattle.kql_syntax.specs.declared.query.Distinct.{Distinct}
use Rattle.kql_syntax.specs.declared.query.Distinct.TheVariants as distinct
use Rattle.kql_syntax.specs.declared.query.Expand.{Expand}
use Rattle.kql_syntax.specs.declared.query.ExpandKind.{ExpandKind}
use Rattle.kql_syntax.specs.declared.query.GroupOp.{GroupOp}
use Rattle.kql_syntax.specs.declared.query.GroupOp.TheVariants as group_op
use Rattle.kql_syntax.specs.declared.query.Groups.{Groups}
use Rattle.kql_syntax.specs.declared.query.Groups.TheVariants as groups
use Rattle.kql_syntax.specs.declared.query.Item.{Item}
use Rattle.kql_syntax.specs.declared.query.Key.{Key}
use Rattle.kql_syntax.specs.declared.query.MakeSeries.{MakeSeries}
use Rattle.kql_syntax.specs.declared.query.ParseKind.{ParseKind}
use Rattle.kql_syntax.specs.declared.query.Pat.{Pat}
use Rattle.kql_syntax.specs.declared.query.Pat.TheVariants as pat
use Rattle.kql_syntax.specs.declared.query.Range.{Range}
use Rattle.kql_syntax.specs.declared.query.RowOp.{RowOp}
use Rattle.kql_syntax.specs.declared.query.RowOp.TheVariants as row_op
use Rattle.kql_syntax.specs.declared.query.Series.{Series}
use Rattle.kql_syntax.specs.declared.query.Summarize.{Summarize}
use Rattle.kql_syntax.specs.declared.tree.Expr.{Expr}
use Rattle.kql_syntax.specs.declared.tree.Name.{Name}
use Rattle.kql_syntax.specs.declared.tree.Name.TheVariants as name
use Rattle.kql_syntax.specs.declared.tree.Word.{Word}
use Rattle.bind_expr.proofs.CodeLaws.{each-told}
use Rattle.bind_expr.specs.Bound.{bound_expr}
use Rattle.bind_expr.specs.Constants.{constant_of}
use Rattle.bind_expr.specs.GroupForms.{has_bad_count, has_bare_column}
use Rattle.bind_expr.specs.Laws.{Tells, is_bind_code}
use Rattle.bind_expr.specs.Names.{column_or_const, const_named, const_or_fault, name_bound, text_of, word_bound}
use Rattle.bind_expr.specs.Outcome.{Outcome, ◌>>=◌}
use Rattle.bind_expr.specs.declared.fault.BindFault.{BindFault}
use Rattle.bind_expr.specs.declared.fault.BindFault.TheVariants as fault
use Rattle.bind_expr.specs.declared.scope.Scope.{Scope}
use Rattle.bind_expr.specs.declared.typed.Typed.{Typed}
use Rattle.bind_operators.specs.declared.bound.BoundOp.{BoundOp}
use Rattle.bind_operators.specs.declared.bound.BoundPlan.{BoundPlan}
use Rattle.bind_operators.specs.declared.items.NamedItems.{NamedItems}
use Rattle.bind_operators.specs.declared.known.Known.{Known}
use Rattle.bind_operators.specs.declared.shape.Shape.{Shape}
use Rattle.bind_operators.specs.declared.wanted.Wanted.{Wanted}
use Rattle.bind_operators.specs.declared.wanted.Wanted.TheVariants as wanted
use Rattle.bind_operators.specs.Answers.{answer, apart, made, over, serialised, width_faults}
use Rattle.bind_operators.specs.Extend.{extend_bound, extended, lending, own_left, serialize_bound}
use Rattle.bind_operators.specs.Faults.{each_bound, fault_if, unless}
use Rattle.bind_operators.specs.Items.{clash, column_item, item_in, items_bound, items_from, names_of_items, names_twice, no_items, twice, twice_items, with_item}
use Rattle.bind_operators.specs.Known.{column_or_fault, column_wanted, is_constant_name, no_rows, or_no_table, rows_of, scope_at, serial_rows_of, table_bound, table_named}
use Rattle.bind_operators.specs.Places.{expr_inside, expr_start, name_place}
use Rattle.bind_operators.specs.Project.{chosen, columns_in, columns_wanted, old_name, project_answer, project_away_bound, project_bound, project_keep_bound, project_rename_bound, projected, rename_faults, renamed_columns, renamed_item}
use Rattle.bind_operators.specs.Sort.{key_bound as sort_key, key_of, sort_bound, top_bound, topped}
use Rattle.bind_operators.specs.Sources.{print_bound, print_items, printed, range_bound, ranged, with_print_item}
use Rattle.bind_operators.specs.TakeAndCount.{counted, take_bound, taken}
use Rattle.bind_operators.specs.Wanted.{constant_bound, constant_wanted, count_in, is_no_count, kind_bound, kind_of_word, kind_or, kind_or_fault, literal_of_type, of_type, row_count_bound, takes, typed_bound}
use Rattle.bind_operators.specs.Where.{where_bound}
use Rattle.bind_groups.specs.declared.part.ExpandPart.{ExpandPart}
use Rattle.bind_groups.specs.declared.part.NamedExpands.{NamedExpands}
use Rattle.bind_groups.specs.declared.part.NamedSeries.{NamedSeries}
use Rattle.bind_groups.specs.declared.part.SeriesPart.{SeriesPart}
use Rattle.bind_groups.specs.MakeSeries.{axis_bound, bin_faults, default_bound, make_series_bound, no_series, series_answer, series_bound, series_call, series_part, series_part_bound, series_plan, series_twice, with_series}
use Rattle.bind_groups.specs.MvExpand.{expand_faults, expand_part, expand_part_bound, expanded, expands_bound, is_array, mv_expand_bound, no_expands, with_expand}
use Rattle.bind_groups.specs.Parse.{column_of_type, parse_bound, parse_plan, parsed, pat_bound, pattern_names}
use Rattle.bind_groups.specs.Summarize.{distinct_answer, distinct_bound, distinct_column, formed_item, group_faults, group_item, group_items_bound, group_keys_bound, group_scope, groups_bound, key_column, named_item, shares_name, summarize_bound, summarize_groups, summarized}
use Rattle.bind_query.specs.Laws.{IsTold, is_query_code}
use Rattle.bind_query.specs.Operators.{column_op_bound, group_op_bound, row_op_bound}

-- Values, refusals, and steps.

pub told-ok : {X : Type 0} (x : X) → IsTold (Ok x)
told-ok x = record { holds = tt }

told-code : {X : Type 0} (code : ℕ) (place : Place) → is_query_code code ≡ true → IsTold {X = X} (Err (fault.Refused code place))
told-code code place known = record { holds = known }

pub told-then : {X Y : Type 0} (r : Outcome X) (k : X → Outcome Y) → IsTold r → ((x : X) → IsTold (k x)) → IsTold (r >>= k)
told-then (Ok x) k h t = t x
told-then (Err (fault.Refused code place)) k h t = record { holds = h.holds }
told-then (Err fault.OutOfMemory) k h t = absurd h.holds

told-401 : {X : Type 0} (place : Place) → IsTold {X = X} (Err (fault.Refused 401 place))
unfolding is_query_code
told-401 place = told-code 401 place refl

told-403 : {X : Type 0} (place : Place) → IsTold {X = X} (Err (fault.Refused 403 place))
unfolding is_query_code
told-403 place = told-code 403 place refl

told-404 : {X : Type 0} (place : Place) → IsTold {X = X} (Err (fault.Refused 404 place))
unfolding is_query_code
told-404 place = told-code 404 place refl

told-405 : {X : Type 0} (place : Place) → IsTold {X = X} (Err (fault.Refused 405 place))
unfolding is_query_code
told-405 place = told-code 405 place refl

told-410 : {X : Type 0} (place : Place) → IsTold {X = X} (Err (fault.Refused 410 place))
unfolding is_query_code
told-410 place = told-code 410 place refl

pub told-419 : {X : Type 0} (place : Place) → IsTold {X = X} (Err (fault.Refused 419 place))
unfolding is_query_code
told-419 place = told-code 419 place refl

-- Faults in a list.

abbrev is_coded : BindFault → Type 0
is_coded (fault.Refused code place) = is_query_code code ≡ true
is_coded fault.OutOfMemory = ⊥

abbrev pub AreCoded : List BindFault → Type 0
AreCoded [] = Unit {0}
AreCoded (f ∷ fs) = is_coded f × AreCoded fs

pub coded-append : (fs gs : List BindFault) → AreCoded fs → AreCoded gs → AreCoded (fs ++ gs)
coded-append [] gs h k = k
coded-append (f ∷ fs) gs h k = (h.0, coded-append fs gs h.1 k)

coded-if : (b : Bool) (code : ℕ) (place : Place) → is_query_code code ≡ true → AreCoded (fault_if b code place)
unfolding fault_if
coded-if true code place known = (known, tt)
coded-if false code place known = tt

if-403 : (b : Bool) (place : Place) → AreCoded (fault_if b 403 place)
unfolding is_query_code
if-403 b place = coded-if b 403 place refl

pub if-404 : (b : Bool) (place : Place) → AreCoded (fault_if b 404 place)
unfolding is_query_code
if-404 b place = coded-if b 404 place refl

pub if-407 : (b : Bool) (place : Place) → AreCoded (fault_if b 407 place)
unfolding is_query_code
if-407 b place = coded-if b 407 place refl

if-411 : (b : Bool) (place : Place) → AreCoded (fault_if b 411 place)
unfolding is_query_code
if-411 b place = coded-if b 411 place refl

if-412 : (b : Bool) (place : Place) → AreCoded (fault_if b 412 place)
unfolding is_query_code
if-412 b place = coded-if b 412 place refl

pub if-413 : (b : Bool) (place : Place) → AreCoded (fault_if b 413 place)
unfolding is_query_code
if-413 b place = coded-if b 413 place refl

if-414 : (b : Bool) (place : Place) → AreCoded (fault_if b 414 place)
unfolding is_query_code
if-414 b place = coded-if b 414 place refl

pub if-415 : (b : Bool) (place : Place) → AreCoded (fault_if b 415 place)
unfolding is_query_code
if-415 b place = coded-if b 415 place refl

pub if-416 : (b : Bool) (place : Place) → AreCoded (fault_if b 416 place)
unfolding is_query_code
if-416 b place = coded-if b 416 place refl

pub if-417 : (b : Bool) (place : Place) → AreCoded (fault_if b 417 place)
unfolding is_query_code
if-417 b place = coded-if b 417 place refl

if-419 : (b : Bool) (place : Place) → AreCoded (fault_if b 419 place)
unfolding is_query_code
if-419 b place = coded-if b 419 place refl

told-first : {X : Type 0} (f : BindFault) → is_coded f → IsTold {X = X} (Err f)
told-first (fault.Refused code place) h = told-code code place h
told-first fault.OutOfMemory h = absurd h

pub told-unless : {X : Type 0} (fs : List BindFault) (x : X) → AreCoded fs → IsTold (unless fs x)
unfolding unless
told-unless [] x h = told-ok x
told-unless (f ∷ fs) x h = told-first f h.0

coded-width : (operator : Place) (columns : List Column) → AreCoded (width_faults operator columns)
unfolding width_faults
coded-width operator columns = coded-append (fault_if (nat_lt 256 (length columns)) 412 operator) (fault_if (is_empty columns) 419 operator) (if-412 (nat_lt 256 (length columns)) operator) (if-419 (is_empty columns) operator)

pub told-answer : (operator : Place) (fs : List BindFault) (o : BoundOperator) (columns : List Column) (serial : Bool) → AreCoded fs → IsTold (answer operator fs o columns serial)
unfolding answer
told-answer operator fs o columns serial h = told-unless (fs ++ width_faults operator columns) (made o columns serial) (coded-append fs (width_faults operator columns) h (coded-width operator columns))

coded-twice : (before : List (List ℕ)) (places : List Place) (names : List (List (List ℕ))) → AreCoded (twice before places names)
unfolding twice
coded-twice before [] names = tt
coded-twice before (p ∷ ps) [] = tt
coded-twice before (p ∷ ps) (n ∷ ns) = coded-append (fault_if (clash before n) 411 p) (twice (before ++ n) ps ns) (if-411 (clash before n) p) (coded-twice (before ++ n) ps ns)

pub coded-names : (before : List (List ℕ)) (names : List Name) → AreCoded (names_twice before names)
unfolding names_twice
coded-names before names = coded-twice before (map name_place names) (map (λ n. text_of n ∷ []) names)

coded-items : (done : NamedItems) → AreCoded (twice_items done)
unfolding twice_items
coded-items done = coded-twice [] done.places (names_of_items done.items)

-- Lists of parts.

abbrev pub Each : {L X : Type 0} → (L → Outcome X) → List L → Type 0
Each part [] = Unit {0}
Each part (l ∷ ls) = IsTold (part l) × Each part ls

each-of : {L X : Type 0} (part : L → Outcome X) → ((l : L) → IsTold (part l)) → (ls : List L) → Each part ls
each-of part h [] = tt
each-of part h (l ∷ ls) = (h l, each-of part h ls)

told-fold : {L B X : Type 0} (f : L → B → X → Outcome B) (part : L → Outcome X) → ((l : L) (b : B) (x : X) → IsTold (f l b x)) → (start : Outcome B) → IsTold start → (ms : List L) → Each part ms → IsTold (fold (λ (before : Outcome B) (l : L). before >>= λ b. part l >>= λ x. f l b x) start ms)
told-fold f part t start h [] each = h
told-fold {B = B} f part t start h (l ∷ ls) each =
    told-fold f part t (start >>= λ b. part l >>= λ x. f l b x) (told-then start (λ b. part l >>= λ x. f l b x) h (λ b. told-then (part l) (λ x. f l b x) each.0 (t l b))) ls each.1

pub told-given : {L X : Type 0} (part : L → Outcome X) (ls : List L) → Each part ls → IsTold (each_bound part ls)
unfolding each_bound
told-given part ls each = told-fold (λ l xs x. Ok (xs ++ x ∷ [])) part (λ l xs x. told-ok (xs ++ x ∷ [])) (Ok []) (told-ok []) ls each

pub told-each : {L X : Type 0} (part : L → Outcome X) → ((l : L) → IsTold (part l)) → (ls : List L) → IsTold (each_bound part ls)
told-each part h ls = told-given part ls (each-of part h ls)

-- Expressions, names and types.

wider : (code : ℕ) → is_bind_code code ≡ true → is_query_code code ≡ true
unfolding is_bind_code is_query_code
wider code h = grind (arith, h)

of-bind : {X : Type 0} (r : Outcome X) → Tells r → IsTold r
of-bind (Ok x) h = told-ok x
of-bind (Err (fault.Refused code place)) h = told-code code place (wider code h.holds)
of-bind (Err fault.OutOfMemory) h = absurd h.holds

told-expr : (e : Expr) (scope : Scope) → IsTold (bound_expr e scope)
told-expr e scope = of-bind (bound_expr e scope) (each-told e scope)

told-const : (place : Place) (o : Option Typed) → IsTold (const_or_fault place o)
told-const place (Some t) = told-ok t
told-const place None = told-401 place

told-word : (place : Place) (n : List ℕ) (c : Option Typed) (k : Option Kind) → IsTold (column_or_const place n c k)
told-word place n c (Some k) = record { holds = tt }
told-word place n c None = told-const place c

pub told-name : (n : Name) (scope : Scope) → IsTold (name_bound n scope)
unfolding name_bound word_bound
told-name (name.Bare x) scope = told-word x.place x.text (const_named x.text scope.consts) (column_kind x.text scope.schema)
told-name (name.Quoted place n) scope = told-word place n (const_named n scope.consts) (column_kind n scope.schema)

told-if-typed : (b : Bool) (place : Place) (t : Typed) → IsTold (if b then Ok t else Err (fault.Refused 404 place))
told-if-typed true place t = told-ok t
told-if-typed false place t = told-404 place

told-of-type : (want : Wanted) (place : Place) (t : Typed) → IsTold (of_type want place t)
unfolding of_type
told-of-type want place t = told-if-typed (takes want t.kind) place t

pub told-typed : (want : Wanted) (e : Expr) (scope : Scope) → IsTold (typed_bound want e scope)
unfolding typed_bound
told-typed want e scope = told-then (bound_expr e scope) (λ t. of_type want (expr_start e) t) (told-expr e scope) (λ t. told-of-type want (expr_start e) t)

told-if-literal : (b : Bool) (place : Place) (l : Lit) → IsTold (if b then Ok l else Err (fault.Refused 404 place))
told-if-literal true place l = told-ok l
told-if-literal false place l = told-404 place

told-literal : (operator : Place) (want : Wanted) (place : Place) (o : Option Lit) → IsTold (literal_of_type operator want place o)
told-literal operator want place None = told-403 operator
told-literal operator want place (Some l) = told-if-literal (takes want l.kind) place l

pub told-wanted : (operator : Place) (want : Wanted) (place : Place) (t : Typed) → IsTold (constant_wanted operator want place t)
unfolding constant_wanted
told-wanted operator want place t = told-literal operator want place (constant_of t)

pub told-constant : (operator : Place) (want : Wanted) (known : Known) (rows : Shape) (e : Expr) → IsTold (constant_bound operator want known rows e)
unfolding constant_bound
told-constant operator want known rows e = told-then (bound_expr e (scope_at known rows position.Constant)) (λ t. constant_wanted operator want (expr_start e) t) (told-expr e (scope_at known rows position.Constant)) (λ t. told-wanted operator want (expr_start e) t)

told-count : (operator : Place) (known : Known) (rows : Shape) (e : Expr) → IsTold (row_count_bound operator known rows e)
unfolding row_count_bound
told-count operator known rows e = told-constant operator (wanted.Is kind.Long) known rows e

told-kind-as : (place : Place) (o : Option Kind) → IsTold (kind_or_fault place o)
told-kind-as place None = told-405 place
told-kind-as place (Some k) = told-ok k

pub told-kind : (x : Word) → IsTold (kind_bound x)
unfolding kind_bound
told-kind x = told-kind-as x.place (kind_of_word x.text)

told-kind-or : (k : Kind) (o : Option Word) → IsTold (kind_or k o)
told-kind-or k None = told-ok k
told-kind-or k (Some x) = told-kind x

told-column-as : (operator place : Place) (constant : Bool) (o : Option Column) → IsTold (column_or_fault operator place constant o)
told-column-as operator place constant (Some c) = told-ok c
told-column-as operator place true None = told-403 operator
told-column-as operator place false None = told-401 place

pub told-column : (operator : Place) (known : Known) (columns : List Column) (n : Name) → IsTold (column_wanted operator known columns n)
unfolding column_wanted
told-column operator known columns n = told-column-as operator (name_place n) (is_constant_name known.consts (text_of n)) (find (λ (c : Column). bytes_eq c.name (text_of n)) columns)

told-columns : (operator : Place) (known : Known) (rows : Shape) (names : List Name) → IsTold (columns_wanted operator known rows names)
unfolding columns_wanted
told-columns operator known rows names = told-each (column_wanted operator known rows.columns) (told-column operator known rows.columns) names

told-table-as : (place : Place) (o : Option BoundPlan) → IsTold (or_no_table place o)
told-table-as place None = told-410 place
told-table-as place (Some p) = told-ok p

pub told-table : (known : Known) (n : Name) → IsTold (table_bound known n)
unfolding table_bound
told-table known n = told-table-as (name_place n) (table_named known (text_of n))

told-items-from : (bind : Item → Outcome Typed) → ((item : Item) → IsTold (bind item)) → (n : ℕ) (items : List Item) → IsTold (items_from bind n items)
unfolding items_from
told-items-from bind h n items = told-fold (λ item done t. Ok (with_item done item t)) bind (λ item done t. told-ok (with_item done item t)) (Ok (no_items n)) (told-ok (no_items n)) items (each-of bind h items)

told-item : (scope : Scope) (item : Item) → IsTold (item_in scope item)
unfolding item_in
told-item scope item = told-expr item.value scope

told-items : (scope : Scope) (items : List Item) → IsTold (items_bound scope items)
unfolding items_bound
told-items scope items = told-items-from (item_in scope) (told-item scope) 1 items

-- Operators over columns.

told-where : (e : Expr) (known : Known) (rows : Shape) → IsTold (where_bound e known rows)
unfolding where_bound
told-where e known rows = told-then (typed_bound (wanted.Is kind.Bool) e (scope_at known rows position.Window)) (λ t. Ok (over (op.Where t.expr) rows)) (told-typed (wanted.Is kind.Bool) e (scope_at known rows position.Window)) (λ t. told-ok (over (op.Where t.expr) rows))

told-extended : (operator : Place) (rows : Shape) (done : NamedItems) → IsTold (extended operator rows done)
unfolding extended
told-extended operator rows done =
    told-then (answer operator (twice_items done) (op.Extend done.items) (extend_columns done.items rows.columns) rows.serial) (λ b. Ok (lending (own_left done.items rows.own) b))
    (told-answer operator (twice_items done) (op.Extend done.items) (extend_columns done.items rows.columns) rows.serial (coded-items done)) (λ b. told-ok (lending (own_left done.items rows.own) b))

told-extend : (operator : Place) (items : List Item) (known : Known) (rows : Shape) → IsTold (extend_bound operator items known rows)
unfolding extend_bound
told-extend operator items known rows = told-then (items_bound (scope_at known rows position.Window) items) (extended operator rows) (told-items (scope_at known rows position.Window) items) (told-extended operator rows)

told-serialize : (operator : Place) (items : List Item) (known : Known) (rows : Shape) → IsTold (serialize_bound operator items known rows)
unfolding serialize_bound
told-serialize operator [] known rows = told-ok (over op.Serialize (serialised rows))
told-serialize operator (item ∷ items) known rows = told-extend operator (item ∷ items) known (serialised rows)

told-project-answer : (operator : Place) (rows : Shape) (fs : List BindFault) (items : List BItem) → AreCoded fs → IsTold (project_answer operator rows fs items)
unfolding project_answer
told-project-answer operator rows fs items h = told-answer operator fs (op.Project items) (items_columns items rows.columns) rows.serial h

told-projected : (operator : Place) (rows : Shape) (done : NamedItems) → IsTold (projected operator rows done)
unfolding projected
told-projected operator rows done = told-project-answer operator rows (twice_items done) done.items (coded-items done)

told-project : (operator : Place) (items : List Item) (known : Known) (rows : Shape) → IsTold (project_bound operator items known rows)
unfolding project_bound
told-project operator items known rows = told-then (items_bound (scope_at known rows position.Window) items) (projected operator rows) (told-items (scope_at known rows position.Window) items) (told-projected operator rows)

told-chosen : (operator : Place) (rows : Shape) (columns : List Column) → IsTold (chosen operator rows columns)
unfolding chosen
told-chosen operator rows columns = told-project-answer operator rows [] (map column_item columns) tt

told-away : (operator : Place) (names : List Name) (known : Known) (rows : Shape) → IsTold (project_away_bound operator names known rows)
unfolding project_away_bound
told-away operator names known rows = told-then (columns_wanted operator known rows names) (λ (cs : List Column). chosen operator rows (without (names_of cs) rows.columns)) (told-columns operator known rows names) (λ cs. told-chosen operator rows (without (names_of cs) rows.columns))

told-keep : (operator : Place) (names : List Name) (known : Known) (rows : Shape) → IsTold (project_keep_bound operator names known rows)
unfolding project_keep_bound
told-keep operator names known rows = told-then (columns_wanted operator known rows names) (λ (cs : List Column). chosen operator rows (columns_in (names_of cs) rows.columns)) (told-columns operator known rows names) (λ cs. told-chosen operator rows (columns_in (names_of cs) rows.columns))

coded-renames : (standing renamed : List (List ℕ)) (rs : List (Name × Name)) → AreCoded (rename_faults standing renamed rs)
unfolding rename_faults
coded-renames standing renamed [] = tt
coded-renames standing renamed (r ∷ rs) = coded-append (fault_if (is_name_among renamed (text_of r.1) || is_name_among standing (text_of r.0)) 411 (name_place r.0)) (rename_faults (standing ++ text_of r.0 ∷ []) (renamed ++ text_of r.1 ∷ []) rs) (if-411 (is_name_among renamed (text_of r.1) || is_name_among standing (text_of r.0)) (name_place r.0)) (coded-renames (standing ++ text_of r.0 ∷ []) (renamed ++ text_of r.1 ∷ []) rs)

told-renamed : (operator : Place) (rs : List (Name × Name)) (rows : Shape) → IsTold (renamed_columns operator rs rows)
unfolding renamed_columns
told-renamed operator rs rows =
    let kept : List Column = without (map old_name rs) rows.columns in
    told-project-answer operator rows (rename_faults (names_of kept) [] rs) (map (renamed_item rs) rows.columns) (coded-renames (names_of kept) [] rs)

told-rename : (operator : Place) (rs : List (Name × Name)) (known : Known) (rows : Shape) → IsTold (project_rename_bound operator rs known rows)
unfolding project_rename_bound
told-rename operator rs known rows = told-then (columns_wanted operator known rows (map (λ (r : Name × Name). r.1) rs)) (λ (olds : List Column). renamed_columns operator rs rows) (told-columns operator known rows (map (λ (r : Name × Name). r.1) rs)) (λ olds. told-renamed operator rs rows)

pub told-column-op : (o : ColumnOp) (known : Known) (rows : Shape) → IsTold (column_op_bound o known rows)
unfolding column_op_bound
told-column-op (column_op.Where operator e) known rows = told-where e known rows
told-column-op (column_op.Extend operator items) known rows = told-extend operator items known rows
told-column-op (column_op.Project operator items) known rows = told-project operator items known (apart rows)
told-column-op (column_op.Serialize operator items) known rows = told-serialize operator items known rows
told-column-op (column_op.ProjectAway operator names) known rows = told-away operator names known rows
told-column-op (column_op.ProjectKeep operator names) known rows = told-keep operator names known rows
told-column-op (column_op.ProjectRename operator rs) known rows = told-rename operator rs known rows

-- Operators that choose or order rows.

told-taken : (operator : Place) (rows : Shape) (n : Lit) → IsTold (taken operator rows n)
unfolding taken
told-taken operator rows n = told-unless (fault_if (is_no_count n) 414 operator) (over (op.Take (count_in n)) rows) (if-414 (is_no_count n) operator)

told-take : (operator : Place) (e : Expr) (known : Known) (rows : Shape) → IsTold (take_bound operator e known rows)
unfolding take_bound
told-take operator e known rows = told-then (row_count_bound operator known rows e) (taken operator rows) (told-count operator known rows e) (told-taken operator rows)

told-key : (scope : Scope) (k : Key) → IsTold (sort_key scope k)
unfolding sort_key
told-key scope k = told-then (typed_bound wanted.Key k.value scope) (λ t. Ok (key_of k t)) (told-typed wanted.Key k.value scope) (λ t. told-ok (key_of k t))

told-sort : (keys : List Key) (known : Known) (rows : Shape) → IsTold (sort_bound keys known rows)
unfolding sort_bound
told-sort keys known rows = told-then (each_bound (sort_key (scope_at known rows position.Plain)) keys) (λ (ks : List BKey). Ok (over (op.Sort ks) (serialised rows))) (told-each (sort_key (scope_at known rows position.Plain)) (told-key (scope_at known rows position.Plain)) keys) (λ ks. told-ok (over (op.Sort ks) (serialised rows)))

told-topped : (operator : Place) (rows : Shape) (n : Lit) (key : BKey) → IsTold (topped operator rows n key)
unfolding topped
told-topped operator rows n key = told-unless (fault_if (is_no_count n) 414 operator) (over (op.Top (count_in n) (key ∷ [])) (serialised rows)) (if-414 (is_no_count n) operator)

told-top : (operator : Place) (e : Expr) (k : Key) (known : Known) (rows : Shape) → IsTold (top_bound operator e k known rows)
unfolding top_bound
told-top operator e k known rows = told-then (row_count_bound operator known rows e) (λ (n : Lit). sort_key (scope_at known rows position.Plain) k >>= λ key. topped operator rows n key) (told-count operator known rows e) (λ n. told-then (sort_key (scope_at known rows position.Plain) k) (λ (key : BKey). topped operator rows n key) (told-key (scope_at known rows position.Plain) k) (λ key. told-topped operator rows n key))

told-key-column : (place : Place) (c : Column) → IsTold (key_column place c)
unfolding key_column
told-key-column place c = told-unless (fault_if (is_dynamic c.kind) 404 place) c (if-404 (is_dynamic c.kind) place)

pub told-distinct-column : (operator : Place) (known : Known) (rows : Shape) (n : Name) → IsTold (distinct_column operator known rows n)
unfolding distinct_column
told-distinct-column operator known rows n = told-then (column_wanted operator known rows.columns n) (λ (c : Column). key_column (name_place n) c) (told-column operator known rows.columns n) (λ c. told-key-column (name_place n) c)

told-distinct-answer : (operator : Place) (rows : Shape) (fs : List BindFault) (columns : List Column) → AreCoded fs → IsTold (distinct_answer operator rows fs columns)
unfolding distinct_answer
told-distinct-answer operator rows fs columns h =
    let plan : GroupPlan = record { items = []; keys = map column_item columns } in
    told-answer operator fs (op.Summarize plan) (group_columns plan rows.columns) false h

told-distinct : (operator : Place) (d : Distinct) (known : Known) (rows : Shape) → IsTold (distinct_bound operator d known rows)
unfolding distinct_bound
told-distinct operator (distinct.Star star) known rows = told-then (each_bound (key_column star) rows.columns) (λ (cs : List Column). distinct_answer operator rows [] cs) (told-each (key_column star) (told-key-column star) rows.columns) (λ cs. told-distinct-answer operator rows [] cs tt)
told-distinct operator (distinct.Columns names) known rows = told-then (each_bound (distinct_column operator known rows) names) (λ (cs : List Column). distinct_answer operator rows (names_twice [] names) cs) (told-each (distinct_column operator known rows) (told-distinct-column operator known rows) names) (λ cs. told-distinct-answer operator rows (names_twice [] names) cs (coded-names [] names))

pub told-row-op : (o : RowOp) (known : Known) (rows : Shape) → IsTold (row_op_bound o known rows)
unfolding row_op_bound
told-row-op (row_op.Take operator e) known rows = told-take operator e known rows
told-row-op (row_op.Limit operator e) known rows = told-take operator e known rows
told-row-op (row_op.Count operator) known rows = told-ok counted
told-row-op (row_op.Sort operator keys) known rows = told-sort keys known rows
told-row-op (row_op.Order operator keys) known rows = told-sort keys known rows
told-row-op (row_op.Top operator t) known rows = told-top operator t.0 t.1 known rows
told-row-op (row_op.Distinct operator d) known rows = told-distinct operator d known rows

-- Operators over groups of rows, or over parts of cells.

told-group-keys : (known : Known) (rows : Shape) (n : ℕ) (keys : List Item) → IsTold (group_keys_bound known rows n keys)
unfolding group_keys_bound
told-group-keys known rows n keys =
    let scope : Scope = scope_at known rows position.Plain in
    told-items-from (λ (item : Item). typed_bound wanted.Key item.value scope) (λ item. told-typed wanted.Key item.value scope) n keys

told-group-item : (operator : Place) (scope : Scope) (item : Item) → IsTold (group_item operator scope item)
unfolding group_item
told-group-item operator scope item = told-then (bound_expr item.value scope) (λ (t : Typed). formed_item operator t >>= λ formed. named_item item formed) (told-expr item.value scope)
    (λ t. told-then (formed_item operator t) (λ (u : Typed). named_item item u)
    (told-unless (fault_if (has_bare_column t.expr) 403 operator) t (if-403 (has_bare_column t.expr) operator))
    (λ u. told-unless (fault_if (shares_name item u) 403 (expr_inside item.value)) u (if-403 (shares_name item u) (expr_inside item.value))))

told-group-items : (operator : Place) (known : Known) (rows : Shape) (items keys : List Item) → IsTold (group_items_bound operator known rows items keys)
unfolding group_items_bound
told-group-items operator known rows items keys = told-items-from (group_item operator (group_scope known rows keys)) (told-group-item operator (group_scope known rows keys)) 1 items

coded-groups : (operator : Place) (items keys : NamedItems) → AreCoded (group_faults operator items keys)
unfolding group_faults
coded-groups operator items keys =
    let bad : Bool = list_any (λ (b : BItem). has_bad_count b.expr) items.items in
    coded-append (twice [] (items.places ++ keys.places) (names_of_items items.items ++ names_of_items keys.items)) (fault_if bad 414 operator)
    (coded-twice [] (items.places ++ keys.places) (names_of_items items.items ++ names_of_items keys.items)) (if-414 bad operator)

told-summarized : (operator : Place) (rows : Shape) (items keys : NamedItems) → IsTold (summarized operator rows items keys)
unfolding summarized
told-summarized operator rows items keys =
    let plan : GroupPlan = record { items = items.items; keys = keys.items } in
    told-answer operator (group_faults operator items keys) (op.Summarize plan) (group_columns plan rows.columns) false (coded-groups operator items keys)

told-groups : (operator : Place) (items keys : List Item) (known : Known) (rows : Shape) → IsTold (groups_bound operator items keys known rows)
unfolding groups_bound
told-groups operator items keys known rows = told-then (group_items_bound operator known rows items keys) (λ (done : NamedItems). group_keys_bound known rows done.next keys >>= λ by. summarized operator rows done by) (told-group-items operator known rows items keys)
    (λ done. told-then (group_keys_bound known rows done.next keys) (λ (by : NamedItems). summarized operator rows done by) (told-group-keys known rows done.next keys) (λ by. told-summarized operator rows done by))

told-summarize-as : (operator : Place) (g : Groups) (known : Known) (rows : Shape) → IsTold (summarize_groups operator g known rows)
told-summarize-as operator (groups.Aggregates items keys) known rows = told-groups operator items keys known rows
told-summarize-as operator (groups.Keys keys) known rows = told-groups operator [] keys known rows

told-summarize : (operator : Place) (s : Summarize) (known : Known) (rows : Shape) → IsTold (summarize_bound operator s known rows)
unfolding summarize_bound
told-summarize operator s known rows = told-summarize-as operator s.groups known rows

told-default : (operator : Place) (known : Known) (rows : Shape) (k : Kind) (o : Option Expr) → IsTold (default_bound operator known rows k o)
unfolding default_bound
told-default operator known rows k None = record { holds = tt }
told-default operator known rows k (Some e) = told-constant operator (wanted.Is k) known rows e

told-series-call : (operator : Place) (t : Typed) → IsTold (series_call operator t)
unfolding series_call
told-series-call operator t = told-unless (fault_if (not (is_aggregate_call t.expr)) 403 operator) t (if-403 (not (is_aggregate_call t.expr)) operator)

told-series-part : (operator : Place) (known : Known) (rows : Shape) (s : Series) → IsTold (series_part_bound operator known rows s)
unfolding series_part_bound
told-series-part operator known rows s =
    let scope : Scope = scope_at known rows position.Series in
    told-then (bound_expr s.item.value scope) (λ (t : Typed). series_call operator t >>= λ call. default_bound operator known rows call.kind s.default >>= λ default. Ok (series_part call default)) (told-expr s.item.value scope)
    (λ t. told-then (series_call operator t) (λ (call : Typed). default_bound operator known rows call.kind s.default >>= λ default. Ok (series_part call default)) (told-series-call operator t)
    (λ call. told-then (default_bound operator known rows call.kind s.default) (λ (default : Lit). Ok (series_part call default)) (told-default operator known rows call.kind s.default) (λ default. told-ok (series_part call default))))

told-series : (operator : Place) (known : Known) (rows : Shape) (items : List Series) → IsTold (series_bound operator known rows items)
unfolding series_bound
told-series operator known rows items = told-fold (λ (s : Series) (done : NamedSeries) (x : SeriesPart). Ok (with_series done s.item x)) (series_part_bound operator known rows) (λ s done x. told-ok (with_series done s.item x)) (Ok no_series) (told-ok no_series) items (each-of (series_part_bound operator known rows) (told-series-part operator known rows) items)

told-axis : (operator : Place) (known : Known) (rows : Shape) (n : Name) → IsTold (axis_bound operator known rows n)
unfolding axis_bound
told-axis operator known rows n = told-then (column_wanted operator known rows.columns n) (λ (c : Column). unless (fault_if (not (has_order c.kind)) 404 (name_place n)) c) (told-column operator known rows.columns n) (λ c. told-unless (fault_if (not (has_order c.kind)) 404 (name_place n)) c (if-404 (not (has_order c.kind)) (name_place n)))

told-series-answer : (operator : Place) (rows : Shape) (fs : List BindFault) (plan : SeriesPlan) → AreCoded fs → IsTold (series_answer operator rows fs plan)
unfolding series_answer bin_faults
told-series-answer operator rows fs plan h = told-answer operator (fs ++ bin_faults operator rows plan) (op.MakeSeries plan) (series_columns plan rows.columns) false (coded-append fs (bin_faults operator rows plan) h (if-414 (not (bins_fit plan rows.columns)) operator))

coded-series : (done : NamedSeries) (place : Place) (axis : List ℕ) (keys : NamedItems) → AreCoded (series_twice done place axis keys)
unfolding series_twice
coded-series done place axis keys = coded-twice [] (done.places ++ place ∷ keys.places) (map (λ (i : SeriesItem). i.name ∷ []) done.items ++ (axis ∷ []) ∷ names_of_items keys.items)

-- The ends and the step of a series, and then its keys.
told-series-behind : (operator : Place) (s : MakeSeries) (known : Known) (rows : Shape) (done : NamedSeries) (axis : Column) → IsTold (constant_bound operator (wanted.Is axis.kind) known rows s.from >>= λ from. constant_bound operator (wanted.Is axis.kind) known rows s.to >>= λ to. constant_bound operator (wanted.StepOf axis.kind) known rows s.step >>= λ step. group_keys_bound known rows done.next s.keys >>= λ keys. series_answer operator rows (series_twice done (name_place s.axis) axis.name keys) (series_plan done axis from to step keys))
told-series-behind operator s known rows done axis =
    let whole : Lit → Lit → Lit → NamedItems → Outcome BoundOp = λ from to step keys. series_answer operator rows (series_twice done (name_place s.axis) axis.name keys) (series_plan done axis from to step keys) in
    told-then (constant_bound operator (wanted.Is axis.kind) known rows s.from) (λ (from : Lit). constant_bound operator (wanted.Is axis.kind) known rows s.to >>= λ to. constant_bound operator (wanted.StepOf axis.kind) known rows s.step >>= λ step. group_keys_bound known rows done.next s.keys >>= λ keys. whole from to step keys) (told-constant operator (wanted.Is axis.kind) known rows s.from)
    (λ from. told-then (constant_bound operator (wanted.Is axis.kind) known rows s.to) (λ (to : Lit). constant_bound operator (wanted.StepOf axis.kind) known rows s.step >>= λ step. group_keys_bound known rows done.next s.keys >>= λ keys. whole from to step keys) (told-constant operator (wanted.Is axis.kind) known rows s.to)
    (λ to. told-then (constant_bound operator (wanted.StepOf axis.kind) known rows s.step) (λ (step : Lit). group_keys_bound known rows done.next s.keys >>= λ keys. whole from to step keys) (told-constant operator (wanted.StepOf axis.kind) known rows s.step)
    (λ step. told-then (group_keys_bound known rows done.next s.keys) (λ (keys : NamedItems). whole from to step keys) (told-group-keys known rows done.next s.keys)
    (λ keys. told-series-answer operator rows (series_twice done (name_place s.axis) axis.name keys) (series_plan done axis from to step keys) (coded-series done (name_place s.axis) axis.name keys)))))

told-make-series : (operator : Place) (s : MakeSeries) (known : Known) (rows : Shape) → IsTold (make_series_bound operator s known rows)
unfolding make_series_bound
told-make-series operator s known rows =
    let behind : NamedSeries → Column → Outcome BoundOp = λ done axis. constant_bound operator (wanted.Is axis.kind) known rows s.from >>= λ from. constant_bound operator (wanted.Is axis.kind) known rows s.to >>= λ to. constant_bound operator (wanted.StepOf axis.kind) known rows s.step >>= λ step. group_keys_bound known rows done.next s.keys >>= λ keys. series_answer operator rows (series_twice done (name_place s.axis) axis.name keys) (series_plan done axis from to step keys) in
    told-then (series_bound operator known rows s.items) (λ (done : NamedSeries). axis_bound operator known rows s.axis >>= λ axis. behind done axis) (told-series operator known rows s.items)
    (λ done. told-then (axis_bound operator known rows s.axis) (λ (axis : Column). behind done axis) (told-axis operator known rows s.axis) (λ axis. told-series-behind operator s known rows done axis))

told-expand-part : (scope : Scope) (x : Expand) → IsTold (expand_part_bound scope x)
unfolding expand_part_bound
told-expand-part scope x = told-then (typed_bound (wanted.Is kind.Dynamic) x.item.value scope) (λ (t : Typed). kind_or kind.Dynamic x.to >>= λ to. Ok (expand_part t to)) (told-typed (wanted.Is kind.Dynamic) x.item.value scope)
    (λ t. told-then (kind_or kind.Dynamic x.to) (λ (to : Kind). Ok (expand_part t to)) (told-kind-or kind.Dynamic x.to) (λ to. told-ok (expand_part t to)))

told-expands : (scope : Scope) (items : List Expand) → IsTold (expands_bound scope items)
unfolding expands_bound
told-expands scope items = told-fold (λ (x : Expand) (done : NamedExpands) (p : ExpandPart). Ok (with_expand done x.item p)) (expand_part_bound scope) (λ x done p. told-ok (with_expand done x.item p)) (Ok no_expands) (told-ok no_expands) items (each-of (expand_part_bound scope) (told-expand-part scope) items)

told-expanded : (operator : Place) (form : Option ExpandKind) (rows : Shape) (done : NamedExpands) → IsTold (expanded operator form rows done)
unfolding expanded expand_faults
told-expanded operator form rows done =
    let plan : ExpandPlan = record { array = is_array form; items = done.items } in
    told-answer operator (expand_faults done) (op.MvExpand plan) (expand_columns plan rows.columns) rows.serial (coded-twice [] done.places (map (λ (i : ExpandItem). i.name ∷ []) done.items))

told-mv-expand : (operator : Place) (form : Option ExpandKind) (items : List Expand) (known : Known) (rows : Shape) → IsTold (mv_expand_bound operator form items known rows)
unfolding mv_expand_bound
told-mv-expand operator form items known rows = told-then (expands_bound (scope_at known rows position.Plain) items) (expanded operator form rows) (told-expands (scope_at known rows position.Plain) items) (told-expanded operator form rows)

told-pat : (p : Pat) → IsTold (pat_bound p)
unfolding pat_bound
told-pat (pat.Star place) = record { holds = tt }
told-pat (pat.Text place text) = record { holds = tt }
told-pat (pat.Column n word) = told-then (kind_or kind.Text word) (λ (k : Kind). Ok (column_of_type n k)) (told-kind-or kind.Text word) (λ k. told-ok (column_of_type n k))

told-parsed : (operator : Place) (rows : Shape) (pattern : List Pat) (plan : ParsePlan) → IsTold (parsed operator rows pattern plan)
unfolding parsed
told-parsed operator rows pattern plan = told-answer operator (names_twice [] (pattern_names pattern)) (op.Parse plan) (parse_columns plan rows.columns) rows.serial (coded-names [] (pattern_names pattern))

told-parse : (operator : Place) (form : Option ParseKind) (e : Expr) (pattern : List Pat) (known : Known) (rows : Shape) → IsTold (parse_bound operator form e pattern known rows)
unfolding parse_bound
told-parse operator form e pattern known rows =
    let scope : Scope = scope_at known rows position.Plain in
    told-then (typed_bound (wanted.Is kind.Text) e scope) (λ (text : Typed). each_bound pat_bound pattern >>= λ items. parsed operator rows pattern (parse_plan form text items)) (told-typed (wanted.Is kind.Text) e scope)
    (λ text. told-then (each_bound pat_bound pattern) (λ (items : List PatItem). parsed operator rows pattern (parse_plan form text items)) (told-each pat_bound told-pat pattern) (λ items. told-parsed operator rows pattern (parse_plan form text items)))

pub told-group-op : (o : GroupOp) (known : Known) (rows : Shape) → IsTold (group_op_bound o known rows)
unfolding group_op_bound
told-group-op (group_op.Summarize operator s) known rows = told-summarize operator s known rows
told-group-op (group_op.MakeSeries operator s) known rows = told-make-series operator s known rows
told-group-op (group_op.MvExpand operator form items) known rows = told-mv-expand operator form items known rows
told-group-op (group_op.Parse operator form e pattern) known rows = told-parse operator form e pattern known rows

-- Sources.

told-ranged : (operator : Place) (column : List ℕ) (from to step : Lit) → IsTold (ranged operator column from to step)
unfolding ranged
told-ranged operator column from to step = told-unless (fault_if (not (range_fits from to step)) 414 operator) (serial_rows_of (source.Range column from to step) (range_columns column from)) (if-414 (not (range_fits from to step)) operator)

pub told-range : (operator : Place) (r : Range) (known : Known) → IsTold (range_bound operator r known)
unfolding range_bound
told-range operator r known = told-then (constant_bound operator wanted.Ordered known no_rows r.from) (λ (from : Lit). constant_bound operator (wanted.Is from.kind) known no_rows r.to >>= λ to. constant_bound operator (wanted.StepOf from.kind) known no_rows r.step >>= λ step. ranged operator (text_of r.column) from to step) (told-constant operator wanted.Ordered known no_rows r.from)
    (λ from. told-then (constant_bound operator (wanted.Is from.kind) known no_rows r.to) (λ (to : Lit). constant_bound operator (wanted.StepOf from.kind) known no_rows r.step >>= λ step. ranged operator (text_of r.column) from to step) (told-constant operator (wanted.Is from.kind) known no_rows r.to)
    (λ to. told-then (constant_bound operator (wanted.StepOf from.kind) known no_rows r.step) (λ (step : Lit). ranged operator (text_of r.column) from to step) (told-constant operator (wanted.StepOf from.kind) known no_rows r.step) (λ step. told-ranged operator (text_of r.column) from to step)))

told-print-items : (scope : Scope) (items : List Item) → IsTold (print_items scope items)
unfolding print_items
told-print-items scope items = told-fold (λ (item : Item) (done : NamedItems) (t : Typed). Ok (with_print_item done item t)) (item_in scope) (λ item done t. told-ok (with_print_item done item t)) (Ok (no_items 0)) (told-ok (no_items 0)) items (each-of (item_in scope) (told-item scope) items)

told-printed : (operator : Place) (done : NamedItems) → IsTold (printed operator done)
unfolding printed
told-printed operator done =
    let columns : List Column = items_columns done.items [] in
    told-unless (twice_items done ++ width_faults operator columns) (rows_of (source.Print done.items) columns) (coded-append (twice_items done) (width_faults operator columns) (coded-items done) (coded-width operator columns))

pub told-print : (operator : Place) (items : List Item) (known : Known) → IsTold (print_bound operator items known)
unfolding print_bound
told-print operator items known = told-then (print_items (scope_at known no_rows position.Plain) items) (printed operator) (told-print-items (scope_at known no_rows position.Plain) items) (told-printed operator)

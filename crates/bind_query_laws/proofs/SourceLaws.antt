-- A bound source is sound: a table or the table of a let, `range` and `print`.
use Rattle.std.proofs.Common.{◌≡◌, ℕ, List, [], ◌∷◌, ◌++◌, refl, sym, ap, ◌∙◌, subst, get_or, map}
use Rattle.std.specs.Prelude.{All, Bool, true, false, not, Ok, Option, None, Some, bytes_eq, find, option_map, slice_get, if◌then◌else◌}
use Rattle.std.specs.List.{list_all}
use Rattle.std.specs.Option.{option_map_or}
use Rattle.std.proofs.lemmas.Bool.{and_from}
use Rattle.std.proofs.lemmas.List.Elements.{All-get_or}
use Rattle.std.proofs.lemmas.List.Quantifiers.{position-Some}
use Rattle.std.proofs.lemmas.Option.{slice_get-get_or, slice_get-map}
use Rattle.kql_cells.specs.Catalogues.{schema_name}
use Rattle.kql_cells.specs.declared.schemas.NamedSchema.{NamedSchema}
use Rattle.kql_cells.specs.declared.schema.Column.{Column}
use Rattle.kql_lexer.specs.declared.place.Place.{Place}
use Rattle.kql_bound.specs.declared.literal.Lit.{Lit}
use Rattle.kql_bound.specs.declared.plan.Op.{Op}
use Rattle.kql_bound.specs.declared.plan.Op.TheOpen.{Plan-F}
use Rattle.kql_bound.specs.declared.plan.Plan.{Plan, out-roll-Plan, roll-Plan}
use Rattle.kql_bound.specs.declared.plan.Source.{Source}
use Rattle.kql_bound.specs.declared.plan.Source.TheVariants as source
use Rattle.kql_meaning.specs.declared.position.Position.TheVariants as position
use Rattle.kql_meaning.specs.Fits.{Known as ReadKnown, of_columns, ops_columns, plan_columns, source_columns, table_columns}
use Rattle.kql_meaning.specs.FittingExpressions.{expr_fits, scope_of}
use Rattle.kql_meaning.specs.FittingOperators.{has_its_names, is_empty, item_fits, items_fit, range_fits}
use Rattle.kql_meaning.specs.Items.{items_columns}
use Rattle.kql_meaning.specs.Sources.{range_columns}
use Rattle.kql_meaning.proofs.OperatorFitLaws.{ops-start, plan-out}
use Rattle.kql_syntax.specs.declared.query.Item.{Item}
use Rattle.kql_syntax.specs.declared.query.Range.{Range}
use Rattle.kql_syntax.specs.declared.tree.Name.{Name}
use Rattle.item_names.specs.ItemNames.{print_name}
use Rattle.bind_expr.specs.Names.{text_of}
use Rattle.bind_expr.specs.Outcome.{◌>>=◌}
use Rattle.bind_expr.specs.declared.scope.Scope.{Scope}
use Rattle.bind_expr.specs.declared.typed.Typed.{Typed}
use Rattle.bind_expr_laws.proofs.BoundLaws.{bound-sound}
use Rattle.bind_operators.specs.declared.bound.BoundPlan.{BoundPlan}
use Rattle.bind_operators.specs.declared.items.NamedItems.{NamedItems}
use Rattle.bind_operators.specs.declared.known.Known.{Known}
use Rattle.bind_operators.specs.declared.known.LetTable.{LetTable}
use Rattle.bind_operators.specs.declared.wanted.Wanted.TheVariants as wanted
use Rattle.bind_operators.specs.Answers.{width_faults}
use Rattle.bind_operators.specs.Faults.{fault_if}
use Rattle.bind_operators.specs.Items.{given_name, item_in, no_items, twice_items}
use Rattle.bind_operators.specs.Known.{columns_handed_in, handed_in, is_constant_name, let_columns, let_name, let_numbered, let_or_handed_in, no_rows, or_no_table, rows_of, scope_at, serial_rows_of, straight_from, table_bound, table_named, table_rows}
use Rattle.bind_operators.specs.Places.{name_place}
use Rattle.bind_operators.specs.Sources.{print_bound, print_items, print_names, printed, range_bound, ranged, with_print_item}
use Rattle.bind_operators.specs.Wanted.{constant_bound}
use Rattle.bind_operators.proofs.NameLaws.{projected-once, range-once}
use Rattle.bind_operators.proofs.PrintSteps.{print-even}
use Rattle.bind_query_laws.specs.Sound.{AreColumns, IsSoundKnown, IsSoundPlan, columns_of_let, read_known}
use Rattle.bind_query_laws.proofs.Frame.{after-ok, answer-when, bare-scope-sound, both-none, found, items-push, no-fault, not-false, of-all, ok-same, one-result, plain-free, single-name, some-same, steps-pass, unless-ok, width-some}

-- A plan from its source and its operators.
pub plan-rolled : (s : Source) (ops : List Op) (k : ReadKnown) → plan_columns (roll-Plan (record { source = s; ops = ops })) k ≡ of_columns (source_columns s k) (λ cs. ops_columns ops k false cs)
plan-rolled s ops k =
    let r : Plan-F Op Plan = record { source = s; ops = ops } in
    plan-out (roll-Plan r) k ∙ ap (λ (y : Plan-F Op Plan). of_columns (source_columns y.source k) (λ cs. ops_columns y.ops k false cs)) (out-roll-Plan r)

nothing-behind : (o : Option (List Column)) (k : ReadKnown) → of_columns o (λ cs. ops_columns [] k false cs) ≡ o
unfolding of_columns
nothing-behind None k = refl
nothing-behind (Some cs) k = ops-start k false cs

-- Rows straight from a source that has these columns.
pub straight-sound : (known : Known) (serial : Bool) (s : Source) (columns : List Column) → source_columns s (read_known known) ≡ Some columns → AreColumns columns → IsSoundPlan known (straight_from serial s columns)
straight-sound known serial s columns is names = record {
  fits = plan-rolled s [] (read_known known) ∙ (nothing-behind (source_columns s (read_known known)) (read_known known) ∙ is);
  columns = names;
}

-- Tables.

let-sound : (known : Known) (n : List ℕ) (i : ℕ) → IsSoundKnown known → let_numbered known n ≡ Some i → IsSoundPlan known (rows_of (source.Let i) (let_columns known i))
unfolding rows_of let_numbered let_columns source_columns read_known
let-sound known n i sound is =
    let none : LetTable = record { name = []; columns = [] } in
    let at = position-Some (λ (l : LetTable). bytes_eq (let_name l) n) known.lets i none is in
    let l : LetTable = get_or known.lets i none in
    let there : slice_get known.lets i ≡ Some l = slice_get-get_or known.lets i none at.0 in
    let columns : option_map_or (λ (x : LetTable). x.columns) (slice_get known.lets i) [] ≡ l.columns = rw there refl in
    let read : slice_get (map columns_of_let known.lets) i ≡ Some l.columns = slice_get-map columns_of_let known.lets i ∙ rw there refl in
    straight-sound known false (source.Let i) (option_map_or (λ (x : LetTable). x.columns) (slice_get known.lets i) [])
    (read ∙ ap (λ (cs : List Column). Some cs) (sym columns))
    (subst AreColumns (sym columns) (All-get_or (λ (x : LetTable). AreColumns x.columns) known.lets i none at.0 sound.lets))

-- The columns of a table that stands there.
pub table-columns : (tables : List NamedSchema) (n : List ℕ) (columns : List Column) → All (λ (s : NamedSchema). AreColumns s.schema) tables → table_columns tables n ≡ Some columns → AreColumns columns
unfolding table_columns
table-columns tables n columns sound is = by_find (find (λ (s : NamedSchema). bytes_eq (schema_name s) n) tables) refl is
  where
    by_find : (o : Option NamedSchema) → find (λ (s : NamedSchema). bytes_eq (schema_name s) n) tables ≡ o → option_map (λ (s : NamedSchema). s.schema) o ≡ Some columns → AreColumns columns
    by_find None e f = absurd cc
    by_find (Some s) e f = subst AreColumns (some-same s.schema columns f) (of-all (λ (x : NamedSchema). AreColumns x.schema) tables s sound (found (λ (x : NamedSchema). bytes_eq (schema_name x) n) tables s e).0)

unhidden : (b : Bool) (o : Option (List Column)) (columns : List Column) → (if b then None else o) ≡ Some columns → o ≡ Some columns
unhidden true o columns e = absurd cc
unhidden false o columns e = e

-- The same of a table's rows.
table-rows-sound : (known : Known) (n : List ℕ) (columns : List Column) → source_columns (source.Table n) (read_known known) ≡ Some columns → AreColumns columns → IsSoundPlan known (table_rows n columns)
unfolding table_rows
table-rows-sound known n columns is names = record {
  fits = plan-rolled (source.Table n) [] (read_known known) ∙ (nothing-behind (source_columns (source.Table n) (read_known known)) (read_known known) ∙ is);
  columns = names;
}

handed-sound : (known : Known) (n : List ℕ) (o : Option (List Column)) (p : BoundPlan) → IsSoundKnown known → columns_handed_in known n ≡ o → handed_in n o ≡ Some p → IsSoundPlan known p
unfolding columns_handed_in source_columns read_known
handed-sound known n None p sound is e = absurd cc
handed-sound known n (Some columns) p sound is e =
    let there : table_columns known.tables n ≡ Some columns = unhidden (is_constant_name known.consts n) (table_columns known.tables n) columns is in
    subst (IsSoundPlan known) (some-same (table_rows n columns) p e) (table-rows-sound known n columns there (table-columns known.tables n columns sound.tables there))

named-by : (known : Known) (n : List ℕ) (o : Option ℕ) (p : BoundPlan) → IsSoundKnown known → let_numbered known n ≡ o → let_or_handed_in known n o ≡ Some p → IsSoundPlan known p
named-by known n (Some i) p sound is e = subst (IsSoundPlan known) (some-same (rows_of (source.Let i) (let_columns known i)) p e) (let-sound known n i sound is)
named-by known n None p sound is e = handed-sound known n (columns_handed_in known n) p sound refl e

pub named_sound : (known : Known) (n : List ℕ) (p : BoundPlan) → IsSoundKnown known → table_named known n ≡ Some p → IsSoundPlan known p
unfolding table_named
named_sound known n p sound is = named-by known n (let_numbered known n) p sound refl is

table-there : (place : Place) (o : Option BoundPlan) (p : BoundPlan) → or_no_table place o ≡ Ok p → o ≡ Some p
table-there place None p e = absurd cc
table-there place (Some q) p e = ap (λ (x : BoundPlan). Some x) (ok-same q p e)

pub table_sound : (n : Name) (known : Known) (p : BoundPlan) → IsSoundKnown known → table_bound known n ≡ Ok p → IsSoundPlan known p
unfolding table_bound
table_sound n known p sound is = named_sound known (text_of n) p sound (table-there (name_place n) (table_named known (text_of n)) p is)

-- Range.

ranged-sound : (operator : Place) (column : List ℕ) (from to step : Lit) (known : Known) (p : BoundPlan) → ranged operator column from to step ≡ Ok p → IsSoundPlan known p
unfolding ranged serial_rows_of source_columns range_columns is_empty
ranged-sound operator column from to step known p is =
    let columns : List Column = record { name = column; kind = from.kind } ∷ [] in
    let parts = unless-ok (fault_if (not (range_fits from to step)) 414 operator) (straight_from true (source.Range column from to step) columns) p is in
    let fits : range_fits from to step ≡ true = not-false (range_fits from to step) (no-fault (not (range_fits from to step)) 414 operator parts.0) in
    let names : AreColumns columns = range-once column from columns refl in
    subst (IsSoundPlan known) parts.1 (straight-sound known true (source.Range column from to step) columns (answer-when (range_fits from to step) columns fits refl names) names)

pub range_sound : (operator : Place) (r : Range) (known : Known) (p : BoundPlan) → IsSoundKnown known → range_bound operator r known ≡ Ok p → IsSoundPlan known p
unfolding range_bound
range_sound operator r known p sound is =
    let first = after-ok (constant_bound operator wanted.Ordered known no_rows r.from) (λ (from : Lit). constant_bound operator (wanted.Is from.kind) known no_rows r.to >>= λ to. constant_bound operator (wanted.StepOf from.kind) known no_rows r.step >>= λ step. ranged operator (text_of r.column) from to step) p is in
    let second = after-ok (constant_bound operator (wanted.Is first.0.kind) known no_rows r.to) (λ (to : Lit). constant_bound operator (wanted.StepOf first.0.kind) known no_rows r.step >>= λ step. ranged operator (text_of r.column) first.0 to step) p first.2 in
    let third = after-ok (constant_bound operator (wanted.StepOf first.0.kind) known no_rows r.step) (λ (step : Lit). ranged operator (text_of r.column) first.0 second.0 step) p second.2 in
    ranged-sound operator (text_of r.column) first.0 second.0 third.0 known p third.2

-- Print.

print-item : (known : Known) → IsSoundKnown known → (item : Item) (t : Typed) → item_in (scope_at known no_rows position.Plain) item ≡ Ok t → (n : List ℕ) → item_fits (scope_of []) position.Plain (record { names = n ∷ []; expr = t.expr }) ≡ true
unfolding item_in item_fits scope_at no_rows
print-item known sound item t is n =
    let fits : expr_fits t.expr (scope_of []) position.Plain ≡ true = (bound-sound item.value (scope_at known no_rows position.Plain) t (bare-scope-sound known position.Plain sound) is).fits plain-free in
    and_from (expr_fits t.expr (scope_of []) position.Plain) (has_its_names (record { names = n ∷ []; expr = t.expr }) []) fits
    (single-name n t.expr [] (one-result t.expr [] (scope_of []) position.Plain fits))

print-push : (known : Known) → IsSoundKnown known → (d : NamedItems) (item : Item) (t : Typed) → item_in (scope_at known no_rows position.Plain) item ≡ Ok t → (given : Option (List ℕ)) → list_all (item_fits (scope_of []) position.Plain) d.items ≡ true → list_all (item_fits (scope_of []) position.Plain) (d.items ++ record { names = print_names d.next given; expr = t.expr } ∷ []) ≡ true
print-push known sound d item t is None h = items-push (item_fits (scope_of []) position.Plain) d.items (record { names = print_name d.next ∷ []; expr = t.expr }) h (print-item known sound item t is (print_name d.next))
print-push known sound d item t is (Some given) h = items-push (item_fits (scope_of []) position.Plain) d.items (record { names = given ∷ []; expr = t.expr }) h (print-item known sound item t is given)

print-fit : (known : Known) (items : List Item) (done : NamedItems) → IsSoundKnown known → print_items (scope_at known no_rows position.Plain) items ≡ Ok done → items_fit done.items [] position.Plain ≡ true
unfolding print_items no_items with_print_item items_fit
print-fit known items done sound is =
    steps-pass (item_fits (scope_of []) position.Plain) with_print_item (item_in (scope_at known no_rows position.Plain))
    (λ d item t e h. print-push known sound d item t e (given_name item) h)
    items (Ok (no_items 0)) done
    (λ d e. subst (λ (x : NamedItems). list_all (item_fits (scope_of []) position.Plain) x.items ≡ true) (ok-same (no_items 0) d e) refl)
    is

pub print_sound : (operator : Place) (items : List Item) (known : Known) (p : BoundPlan) → IsSoundKnown known → print_bound operator items known ≡ Ok p → IsSoundPlan known p
unfolding print_bound printed rows_of source_columns
print_sound operator items known p sound is =
    let scope : Scope = scope_at known no_rows position.Plain in
    let first = after-ok (print_items scope items) (printed operator) p is in
    let done : NamedItems = first.0 in
    let columns : List Column = items_columns done.items [] in
    let parts = unless-ok (twice_items done ++ width_faults operator columns) (straight_from false (source.Print done.items) columns) p first.2 in
    let none = both-none (twice_items done) (width_faults operator columns) parts.0 in
    let names : AreColumns columns = projected-once done [] (print-even scope items (Ok done) done refl (record { holds = first.1 })) none.0 in
    subst (IsSoundPlan known) parts.1
    (straight-sound known false (source.Print done.items) columns
    (answer-when (items_fit done.items [] position.Plain) columns (print-fit known items done sound first.1) (width-some operator columns none.1) names)
    names)

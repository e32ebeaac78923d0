-- A bound `summarize` is sound.
use Rattle.std.proofs.Common.{◌≡◌, ℕ, Bool, true, false, List, [], ◌++◌, length, refl, ◌∙◌, subst}
use Rattle.std.specs.Prelude.{◌&&◌, ◌||◌, Ok, Option, None, Some, is_some, option_map}
use Rattle.std.specs.List.{list_all, list_any}
use Rattle.std.proofs.lemmas.Bool.{and_from, eq-eqb}
use Rattle.kql_cells.specs.declared.schema.Column.{Column}
use Rattle.kql_lexer.specs.declared.place.Place.{Place}
use Rattle.kql_bound.specs.declared.expr.BExpr.{BExpr}
use Rattle.kql_bound.specs.declared.parts.BItem.{BItem}
use Rattle.kql_bound.specs.declared.parts.GroupPlan.{GroupPlan}
use Rattle.kql_bound.specs.declared.plan.Op.TheVariants as op
use Rattle.kql_meaning.specs.declared.position.Position.TheVariants as position
use Rattle.kql_meaning.specs.FittingExpressions.{call_or_expr_fits, expr_fits, scope_of}
use Rattle.kql_meaning.specs.FittingOperators.{group_item_fits, has_its_names, key_item_fits, summarize_fits}
use Rattle.kql_meaning.specs.Results.{result_kinds}
use Rattle.kql_meaning.specs.Summarize.{group_columns}
use Rattle.kql_meaning.proofs.OperatorFitLaws.{op-Summarize}
use Rattle.kql_syntax.specs.declared.query.Groups.{Groups}
use Rattle.kql_syntax.specs.declared.query.Groups.TheVariants as groups
use Rattle.kql_syntax.specs.declared.query.Item.{Item}
use Rattle.kql_syntax.specs.declared.query.Summarize.{Summarize}
use Rattle.kql_syntax.specs.declared.tree.Name.{Name}
use Rattle.item_names.specs.ItemNames.{item_names}
use Rattle.item_names.proofs.NameSteps.{each_column_has_its_name}
use Rattle.bind_expr.specs.Bound.{bound_expr}
use Rattle.bind_expr.specs.GroupForms.{has_bad_count, has_bare_column, has_several_results}
use Rattle.bind_expr.specs.Names.{text_of}
use Rattle.bind_expr.specs.Outcome.{◌>>=◌}
use Rattle.bind_expr.specs.declared.scope.Scope.{Scope}
use Rattle.bind_expr.specs.declared.typed.Typed.{Typed}
use Rattle.bind_expr_laws.specs.Laws.{IsSound}
use Rattle.bind_expr_laws.specs.Scopes.{IsSoundScope}
use Rattle.bind_expr_laws.proofs.BoundLaws.{bound-sound}
use Rattle.bind_operators.specs.declared.bound.BoundOp.{BoundOp}
use Rattle.bind_operators.specs.declared.items.NamedItems.{NamedItems}
use Rattle.bind_operators.specs.declared.known.Known.{Known}
use Rattle.bind_operators.specs.declared.shape.Shape.{Shape}
use Rattle.bind_operators.specs.Faults.{fault_if, unless}
use Rattle.bind_operators.specs.Items.{given_name, names_of_items, names_or_own, twice}
use Rattle.bind_operators.specs.Known.{scope_at}
use Rattle.bind_operators.specs.Places.{expr_inside}
use Rattle.bind_groups.specs.Summarize.{formed_item, group_faults, group_item, group_items_bound, group_keys_bound, group_plan, group_scope, groups_bound, named_item, shares_name, summarize_bound, summarized}
use Rattle.bind_groups.proofs.GroupNames.{grouped-once}
use Rattle.bind_query_laws.specs.Sound.{AreColumns, IsSoundKnown, IsSoundOp, read_known}
use Rattle.bind_query_laws.proofs.Frame.{after-ok, answer-sound, both-none, items-pass, no-fault, one-result, single-name, unless-ok}
use Rattle.bind_query_laws.proofs.GroupFrame.{all-but, even-from, keys-even, keys-sound, or-else}

-- Items.

group-scope-sound : (known : Known) (rows : Shape) (keys : List Item) → IsSoundKnown known → AreColumns rows.columns → IsSoundScope (group_scope known rows keys)
unfolding group_scope scope_at
group-scope-sound known rows keys sound names = record { names = names; consts = sound.consts; records = tt; moment = sound.moment }

not-shared : (named several : Bool) → named ≡ true → (named && several) ≡ false → several ≡ false
not-shared true several e f = f
not-shared false several e f = absurd cc

group-names : (o : Option Name) (k : ℕ) (e : BExpr) (columns : List Column) → (is_some o ≡ true → expr_fits e (scope_of columns) position.Group ≡ true) → has_its_names (record { names = names_or_own k (option_map text_of o) e; expr = e }) columns ≡ true
unfolding has_its_names names_or_own
group-names None k e columns h = eq-eqb (length (item_names e k)) (length (result_kinds e columns)) (each_column_has_its_name e k columns)
group-names (Some n) k e columns h = single-name (text_of n) e columns (one-result e columns (scope_of columns) position.Group (h refl))

-- An item fits, but where it counts badly.
passes : List Column → BItem → Bool
passes columns b = has_bad_count b.expr || group_item_fits columns b

item-passes : (operator : Place) (known : Known) (rows : Shape) (keys : List Item) → IsSoundKnown known → AreColumns rows.columns → (item : Item) (t : Typed) (k : ℕ) → group_item operator (group_scope known rows keys) item ≡ Ok t → passes rows.columns (record { names = names_or_own k (given_name item) t.expr; expr = t.expr }) ≡ true
unfolding passes group_item group_item_fits group_scope scope_at given_name
item-passes operator known rows keys sound names item t k is =
    let scope : Scope = group_scope known rows keys in
    let first = after-ok (bound_expr item.value scope) (λ (u : Typed). formed_item operator u >>= λ formed. named_item item formed) t is in
    let next = after-ok (formed_item operator first.0) (λ (u : Typed). named_item item u) t first.2 in
    let formed = unless-ok (fault_if (has_bare_column first.0.expr) 403 operator) first.0 next.0 next.1 in
    let own = unless-ok (fault_if (shares_name item next.0) 403 (expr_inside item.value)) next.0 t next.2 in
    let h : IsSound scope t = subst (IsSound scope) (formed.1 ∙ own.1) (bound-sound item.value scope first.0 (group-scope-sound known rows keys sound names) first.1) in
    let none : fault_if (has_bare_column t.expr) 403 operator ≡ [] = subst (λ (u : Typed). fault_if (has_bare_column u.expr) 403 operator ≡ []) (formed.1 ∙ own.1) formed.0 in
    let bare = no-fault (has_bare_column t.expr) 403 operator none in
    let alone : fault_if (shares_name item t) 403 (expr_inside item.value) ≡ [] = subst (λ (u : Typed). fault_if (shares_name item u) 403 (expr_inside item.value) ≡ []) own.1 own.0 in
    let one = no-fault (shares_name item t) 403 (expr_inside item.value) alone in
    let b : BItem = record { names = names_or_own k (given_name item) t.expr; expr = t.expr } in
    or-else (has_bad_count t.expr) (group_item_fits rows.columns b)
    (λ fine. and_from (call_or_expr_fits t.expr (scope_of rows.columns) position.Group) (has_its_names b rows.columns)
    (h.group refl bare fine)
    (group-names item.name k t.expr rows.columns (λ some. h.one refl (not-shared (is_some item.name) (has_several_results t.expr) some one) bare fine)))

group-items-sound : (operator : Place) (known : Known) (rows : Shape) (items keys : List Item) (done : NamedItems) → IsSoundKnown known → AreColumns rows.columns → group_items_bound operator known rows items keys ≡ Ok done → list_any (λ (b : BItem). has_bad_count b.expr) done.items ≡ false → list_all (group_item_fits rows.columns) done.items ≡ true
unfolding group_items_bound passes
group-items-sound operator known rows items keys done sound names is fine =
    all-but (λ (b : BItem). has_bad_count b.expr) (group_item_fits rows.columns) done.items
    (items-pass (passes rows.columns) (group_item operator (group_scope known rows keys)) 1 items done (item-passes operator known rows keys sound names) is)
    fine

items-even : (operator : Place) (known : Known) (rows : Shape) (items keys : List Item) (done : NamedItems) → group_items_bound operator known rows items keys ≡ Ok done → length done.places ≡ length done.items
unfolding group_items_bound
items-even operator known rows items keys done is = even-from (group_item operator (group_scope known rows keys)) 1 items done is

-- The operator.

bad-none : (operator : Place) (items keys : NamedItems) → group_faults operator items keys ≡ [] → list_any (λ (b : BItem). has_bad_count b.expr) items.items ≡ false
unfolding group_faults
bad-none operator items keys none =
    no-fault (list_any (λ (b : BItem). has_bad_count b.expr) items.items) 414 operator
    (both-none (twice [] (items.places ++ keys.places) (names_of_items items.items ++ names_of_items keys.items)) (fault_if (list_any (λ (b : BItem). has_bad_count b.expr) items.items) 414 operator) none).1

groups_sound : (operator : Place) (items keys : List Item) (known : Known) (rows : Shape) (b : BoundOp) → IsSoundKnown known → AreColumns rows.columns → groups_bound operator items keys known rows ≡ Ok b → (inside : Bool) → IsSoundOp known inside rows b
unfolding groups_bound summarized summarize_fits
groups_sound operator items keys known rows b sound names is inside =
    let first = after-ok (group_items_bound operator known rows items keys) (λ (done : NamedItems). group_keys_bound known rows done.next keys >>= λ by. summarized operator rows done by) b is in
    let done : NamedItems = first.0 in
    let next = after-ok (group_keys_bound known rows done.next keys) (summarized operator rows done) b first.2 in
    let by : NamedItems = next.0 in
    let plan : GroupPlan = group_plan done by in
    answer-sound known inside rows operator (group_faults operator done by) (op.Summarize plan) (group_columns plan rows.columns) false b
    (summarize_fits plan rows.columns)
    (op-Summarize plan (read_known known) inside rows.columns)
    (λ none. (
      and_from (list_all (group_item_fits rows.columns) done.items) (list_all (key_item_fits rows.columns) by.items)
          (group-items-sound operator known rows items keys done sound names first.1 (bad-none operator done by none))
          (keys-sound known rows done.next keys by sound names next.1),
      grouped-once operator done by rows.columns (items-even operator known rows items keys done first.1) (keys-even known rows done.next keys by next.1) none,
    ))
    next.2

of-groups : (operator : Place) (g : Groups) (s : Summarize) (known : Known) (rows : Shape) (b : BoundOp) → s.groups ≡ g → IsSoundKnown known → AreColumns rows.columns → summarize_bound operator s known rows ≡ Ok b → (inside : Bool) → IsSoundOp known inside rows b
unfolding summarize_bound
of-groups operator (groups.Aggregates items keys) s known rows b e sound names is inside = groups_sound operator items keys known rows b sound names (rw e at is) inside
of-groups operator (groups.Keys keys) s known rows b e sound names is inside = groups_sound operator [] keys known rows b sound names (rw e at is) inside

pub summarize_sound : (operator : Place) (s : Summarize) (known : Known) (rows : Shape) (b : BoundOp) → IsSoundKnown known → AreColumns rows.columns → summarize_bound operator s known rows ≡ Ok b → (inside : Bool) → IsSoundOp known inside rows b
summarize_sound operator s known rows b sound names is inside = of-groups operator s.groups s known rows b refl sound names is inside

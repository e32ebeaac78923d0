-- `project` of columns in front, which are moved, and of the items behind them.
use Rattle.std.proofs.Common.{◌≡◌, ◌≢◌, ◌<◌, ◌≤◌, ◌+◌, ℕ, true, List, [], ◌∷◌, ◌++◌, drop, get_or, length, map, take, refl, ap, ap₂, sym, ◌∙◌, subst, arith}
use Rattle.std.specs.Prelude.{flat_map}
use Rattle.std.specs.List.{list_all}
use Rattle.std.proofs.lemmas.Bool.{and_parts}
use Rattle.std.proofs.lemmas.Grind.{flat_map-append}
use Rattle.std.proofs.lemmas.List.{append-nil, get_or_append_left, length-append, take-append-drop, take_more}
use Rattle.std.proofs.lemmas.List.Folds.{list_all-append}
use Rattle.std.proofs.lemmas.List.FromFn.{length-map-range_with_len}
use Rattle.kql_cells.specs.Named.{HasDistinctNames, column_name}
use Rattle.kql_cells.specs.Table.{Grid}
use Rattle.kql_cells.specs.declared.schema.Column.{Column}
use Rattle.kql_cells.specs.declared.value.Value.{Value}
use Rattle.kql_values.specs.Moves.{beside, side_by_side}
use Rattle.kql_bound.specs.declared.expr.BExpr.{BExpr}
use Rattle.kql_bound.specs.declared.expr.BExpr.TheVariants as V
use Rattle.kql_bound.specs.declared.expr.WinCall.{WinCall}
use Rattle.kql_bound.specs.declared.parts.BItem.{BItem}
use Rattle.kql_meaning.specs.declared.position.Position.TheVariants as position
use Rattle.kql_meaning.specs.FittingExpressions.{scope_of}
use Rattle.kql_meaning.specs.FittingOperators.{item_fits, items_fit}
use Rattle.kql_meaning.specs.Items.{items_columns, items_values, named_columns}
use Rattle.kql_meaning.specs.Project.{project_table}
use Rattle.kql_meaning.specs.Results.{result_kinds, results}
use Rattle.kql_meaning.specs.Tables.{places, places_below}
use Rattle.row_ops.proofs.ProjectFacts.{last-differ}
use Rattle.phase_windows.specs.Rounds.{AreRounds, rounds_for}
use Rattle.window_ops.specs.Calls.{calls_of, calls_of_items}
use Rattle.window_ops.proofs.CallLaws.{calls-Column}
use Rattle.worker_board.specs.Views.{WholeClaims}

-- Columns in front.

pub column-calls : (e : BExpr) (n : List ℕ) → e ≡ V.Column n → calls_of e ≡ []
column-calls e n is = ap calls_of is ∙ calls-Column n

pub ruleset column_steps = (column-calls)

pub front-start : (items : List BItem) → calls_of_items (take 0 items) ≡ []
unfolding calls_of_items
front-start items = refl

pub front-step : (items : List BItem) (i : ℕ) (b : BItem) → i < length items → b ≡ get_or items i b → calls_of_items (take i items) ≡ [] → calls_of b.expr ≡ [] → calls_of_items (take (i + 1) items) ≡ []
unfolding calls_of_items
front-step items i b lt is none own =
    let f = λ (x : BItem). calls_of x.expr in
    ap (flat_map f) (take_more items i b lt ∙ ap (λ (x : BItem). take i items ++ x ∷ []) (sym is))
    ∙ (flat_map-append f (take i items) (b ∷ [])
    ∙ ap₂ (λ (ws vs : List WinCall). ws ++ vs) none (append-nil (calls_of b.expr) ∙ own))

pub ruleset front_steps = (front-start, front-step)

-- Items in front, and the others.

parted : (items front others : List BItem) (k : ℕ) → front ≡ take k items → others ≡ drop k items → front ++ others ≡ items
parted items front others k first rest = ap₂ (λ (xs ys : List BItem). xs ++ ys) first rest ∙ take-append-drop k items

columns-parted : (xs ys : List BItem) (cs : List Column) → items_columns (xs ++ ys) cs ≡ items_columns xs cs ++ items_columns ys cs
unfolding items_columns
columns-parted xs ys cs = flat_map-append (λ (b : BItem). named_columns b.names (result_kinds b.expr cs)) xs ys

values-parted : (xs ys : List BItem) (t : Grid) (i : ℕ) → items_values (xs ++ ys) t i ≡ items_values xs t i ++ items_values ys t i
unfolding items_values
values-parted xs ys t i = flat_map-append (λ (b : BItem). results b.expr t i []) xs ys

calls-parted : (xs ys : List BItem) → calls_of_items (xs ++ ys) ≡ calls_of_items xs ++ calls_of_items ys
unfolding calls_of_items
calls-parted xs ys = flat_map-append (λ (b : BItem). calls_of b.expr) xs ys

both-fit : (xs ys : List BItem) (cs : List Column) → items_fit (xs ++ ys) cs position.Window ≡ true → (items_fit xs cs position.Window ≡ true) × (items_fit ys cs position.Window ≡ true)
unfolding items_fit
both-fit xs ys cs fits =
    let p = item_fits (scope_of cs) position.Window in
    and_parts (list_all p xs) (list_all p ys) (sym (list_all-append p xs ys) ∙ fits)

pub front-fits : (items front others : List BItem) (k : ℕ) (cs : List Column) → front ≡ take k items → others ≡ drop k items → items_fit items cs position.Window ≡ true → items_fit front cs position.Window ≡ true
front-fits items front others k cs first rest fits = (both-fit front others cs (ap (λ (bs : List BItem). items_fit bs cs position.Window) (parted items front others k first rest) ∙ fits)).0

pub others-fit : (items front others : List BItem) (k : ℕ) (cs : List Column) → front ≡ take k items → others ≡ drop k items → items_fit items cs position.Window ≡ true → items_fit others cs position.Window ≡ true
others-fit items front others k cs first rest fits = (both-fit front others cs (ap (λ (bs : List BItem). items_fit bs cs position.Window) (parted items front others k first rest) ∙ fits)).1

first-differ : (cs ds : List Column) → HasDistinctNames column_name (cs ++ ds) → HasDistinctNames column_name cs
first-differ cs ds h = λ i j d lt inside.
    (let n = length-append cs ds in
    subst (λ (c : Column). column_name c ≢ column_name (get_or cs j d)) (get_or_append_left cs ds d i (omega (arith, lt, inside)))
    (subst (λ (c : Column). column_name (get_or (cs ++ ds) i d) ≢ column_name c) (get_or_append_left cs ds d j inside) (h i j d lt (omega (arith, n, inside)))))

differ : (items front others : List BItem) (k : ℕ) (cs : List Column) → front ≡ take k items → others ≡ drop k items → HasDistinctNames column_name (items_columns items cs) → HasDistinctNames column_name (items_columns front cs ++ items_columns others cs)
differ items front others k cs first rest h =
    subst (HasDistinctNames column_name) (sym (ap (λ (bs : List BItem). items_columns bs cs) (parted items front others k first rest)) ∙ columns-parted front others cs) h

pub front-differ : (items front others : List BItem) (k : ℕ) (cs : List Column) → front ≡ take k items → others ≡ drop k items → HasDistinctNames column_name (items_columns items cs) → HasDistinctNames column_name (items_columns front cs)
front-differ items front others k cs first rest h = first-differ (items_columns front cs) (items_columns others cs) (differ items front others k cs first rest h)

pub others-differ : (items front others : List BItem) (k : ℕ) (cs : List Column) → front ≡ take k items → others ≡ drop k items → HasDistinctNames column_name (items_columns items cs) → HasDistinctNames column_name (items_columns others cs)
others-differ items front others k cs first rest h = last-differ (items_columns front cs) (items_columns others cs) (differ items front others k cs first rest h)

-- Their tables, side by side.

lines-long : (items : List BItem) (t made : Grid) → made ≡ project_table items t → length made.lines ≡ length t.lines
unfolding project_table places places_below
lines-long items t made is = ap (λ (u : Grid). length u.lines) is ∙ length-map-range_with_len (λ i. items_values items t i) 0 (length t.lines)

pub same-count : (front others : List BItem) (t moved computed : Grid) → moved ≡ project_table front t → computed ≡ project_table others t → length moved.lines ≡ length computed.lines
same-count front others t moved computed m c = lines-long front t moved m ∙ sym (lines-long others t computed c)

pub both-differ : (items front others : List BItem) (k : ℕ) (t moved computed : Grid) → front ≡ take k items → others ≡ drop k items → moved ≡ project_table front t → computed ≡ project_table others t → HasDistinctNames column_name (items_columns items t.columns) → HasDistinctNames column_name (moved.columns ++ computed.columns)
unfolding project_table
both-differ items front others k t moved computed first rest m c h =
    subst (HasDistinctNames column_name) (sym (ap₂ (λ (u v : Grid). u.columns ++ v.columns) m c)) (differ items front others k t.columns first rest h)

beside-maps : (f g : ℕ → List Value) (xs : List ℕ) → beside (map f xs) (map g xs) ≡ map (λ x. f x ++ g x) xs
unfolding beside
beside-maps f g [] = refl
beside-maps f g (x ∷ xs) = ap (λ (rows : List (List Value)). (f x ++ g x) ∷ rows) (beside-maps f g xs)

lines-parted : (xs ys : List BItem) (t : Grid) (ps : List ℕ) → map (λ i. items_values xs t i ++ items_values ys t i) ps ≡ map (λ i. items_values (xs ++ ys) t i) ps
lines-parted xs ys t [] = refl
lines-parted xs ys t (p ∷ ps) = ap₂ (λ (r : List Value) (rs : List (List Value)). r ∷ rs) (sym (values-parted xs ys t p)) (lines-parted xs ys t ps)

parts-beside : (xs ys : List BItem) (t : Grid) → side_by_side (project_table xs t) (project_table ys t) ≡ project_table (xs ++ ys) t
unfolding project_table
parts-beside xs ys t =
    ap₂ (λ (cs : List Column) (ls : List (List Value)). record { columns = cs; lines = ls })
    (sym (columns-parted xs ys t.columns))
    (beside-maps (λ i. items_values xs t i) (λ i. items_values ys t i) (places t) ∙ lines-parted xs ys t (places t))

pub put-beside : (items front others : List BItem) (k : ℕ) (t moved computed made : Grid) → front ≡ take k items → others ≡ drop k items → moved ≡ project_table front t → computed ≡ project_table others t → made ≡ side_by_side moved computed → made ≡ project_table items t
put-beside items front others k t moved computed made first rest m c is =
    is
    ∙ (ap₂ side_by_side m c
    ∙ (parts-beside front others t ∙ ap (λ (bs : List BItem). project_table bs t) (parted items front others k first rest)))

pub same-rounds : (n : ℕ) (items front others : List BItem) (k : ℕ) (gs : List WholeClaims) → front ≡ take k items → others ≡ drop k items → calls_of_items (take k items) ≡ [] → AreRounds n others gs → AreRounds n items gs
same-rounds n items front others k gs first rest none rounds =
    let same : calls_of_items others ≡ calls_of_items items =
    sym (ap (λ (ws : List WinCall). ws ++ calls_of_items others) (ap calls_of_items first ∙ none))
    ∙ (sym (calls-parted front others) ∙ ap calls_of_items (parted items front others k first rest)) in
    record { count = rounds.count ∙ ap rounds_for same; whole = rounds.whole }

pub ruleset project_steps = (front-fits, others-fit, front-differ, others-differ, same-count, both-differ, put-beside, same-rounds)

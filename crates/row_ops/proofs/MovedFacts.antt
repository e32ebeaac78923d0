-- The columns at the places of items are what `project` gives, under other names.
use Rattle.std.proofs.Common.{◌≡◌, ◌≢◌, ◌<◌, ◌+◌, ◌==◌, ℕ, zero, suc, true, false, List, [], ◌∷◌, ◌++◌, map, take, length, get_or, refl, ap, ap₂, sym, ◌∙◌, arith, eq-eqb}
use Rattle.std.specs.Prelude.{All, AllPairs, IfSome, Option, None, Some, slice_get, unwrap_or, option_map}
use Rattle.std.specs.List.{AllByRecursion, list_all, list_any}
use Rattle.std.proofs.lemmas.Bool.{and_parts, eqb-true, or_parts}
use Rattle.std.proofs.lemmas.List.{map-append, take_more}
use Rattle.std.proofs.lemmas.List.Elements.{All-from_recursion, All-push}
use Rattle.std.proofs.lemmas.List.Kept.{AllPairs-cons}
use Rattle.std.proofs.lemmas.Option.{get_or_from_slice_get, slice_get_within}
use Rattle.kql_cells.specs.Named.{column_name, place_of}
use Rattle.kql_cells.specs.Seen.{row_at, value_at}
use Rattle.kql_cells.specs.Table.{Grid, IsGrid}
use Rattle.kql_cells.specs.declared.schema.Column.{Column}
use Rattle.kql_cells.specs.declared.value.Kind.{Kind}
use Rattle.kql_cells.specs.declared.value.Kind.TheVariants as kind
use Rattle.kql_cells.specs.declared.value.Value.{Value}
use Rattle.kql_cells.specs.declared.value.Value.TheVariants as value
use Rattle.kql_cells.proofs.RowLaws.{length-RowFits}
use Rattle.kql_bound.specs.declared.expr.BExpr.{BExpr, out-BExpr}
use Rattle.kql_bound.specs.declared.expr.BExpr.TheVariants as V
use Rattle.kql_bound.specs.declared.parts.BItem.{BItem}
use Rattle.kql_meaning.specs.declared.position.Position.TheVariants as position
use Rattle.kql_meaning.specs.Expressions.{column_kind, val}
use Rattle.kql_meaning.specs.FittingExpressions.{expr_fits, scope_of}
use Rattle.kql_meaning.specs.FittingOperators.{has_its_names, item_fits, items_fit}
use Rattle.kql_meaning.specs.Items.{items_columns, items_values, named_columns}
use Rattle.kql_meaning.specs.Project.{project_table}
use Rattle.kql_meaning.specs.Results.{result_kinds, results, results_step, typed}
use Rattle.kql_meaning.specs.Tables.{absent_in, cell, cell_in, places, places_below}
use Rattle.kql_meaning.proofs.ExpressionFitLaws.{rolled-Column}
use Rattle.kql_meaning.proofs.JoinLaws.{map-map}
use Rattle.kql_meaning.proofs.KindLaws.{kind-Column}
use Rattle.kql_meaning.proofs.ResultLaws.{result-Column}
use Rattle.kql_meaning.proofs.RowByRowLaws.{rows-at-all}
use Rattle.kql_meaning.proofs.ValueLaws.{val-Column}
use Rattle.kql_fit_laws.proofs.RowFacts.{found-place}
use Rattle.kql_values.specs.Moves.{column_of, kinds_of, no_column, picked, selected}
use Rattle.row_ops.specs.MovedColumns.{AreColumnsAt, AreMoved, IsColumnAt}
use Rattle.row_ops.proofs.ItemColumnFacts.{map-range-same}

-- One item.

at-inside : (cs : List Column) (b : BItem) (j : ℕ) → IsColumnAt cs b j → j < length cs
unfolding IsColumnAt
at-inside cs b j h = let q = found-place cs h.0 j h.2 in slice_get_within cs j q.0 q.1

same-inside : (vs : List Value) (j : ℕ) (d e : Value) → j < length vs → get_or vs j d ≡ get_or vs j e
same-inside [] j d e lt = absurd (omega (arith, lt))
same-inside (v ∷ vs) zero d e lt = refl
same-inside (v ∷ vs) (suc j) d e lt = same-inside vs j d e (omega (arith, lt))

column-cell : (t : Grid) (i j : ℕ) (n : List ℕ) → IsGrid t → i < length t.lines → j < length t.columns → place_of column_name n t.columns ≡ Some j → val (V.Column n) t i [] ≡ value_at (row_at t.lines i) j
unfolding cell cell_in
column-cell t i j n fits row inside is =
    let width = length-RowFits t.columns (row_at t.lines i) (fits i [] row) in
    let k : j < length (row_at t.lines i) = omega (arith, width, inside) in
    val-Column n t i []
    ∙ (ap (cell_in t i) is ∙ same-inside (row_at t.lines i) j (absent_in (slice_get t.columns j)) value.Null k)

item-result : (t : Grid) (i : ℕ) (b : BItem) (j : ℕ) → IsGrid t → i < length t.lines → IsColumnAt t.columns b j → results b.expr t i [] ≡ value_at (row_at t.lines i) j ∷ []
unfolding IsColumnAt results
item-result t i b j fits row h =
    ap (λ (e : BExpr). results_step (out-BExpr e) (val e t i []) t []) h.1
    ∙ (ap (λ y. results_step y (val (V.Column h.0) t i []) t []) (rolled-Column h.0)
    ∙ ap (λ (v : Value). v ∷ []) (column-cell t i j h.0 fits row (let q = found-place t.columns h.0 j h.2 in slice_get_within t.columns j q.0 q.1) h.2))

one-name : (ns : List (List ℕ)) (k : Kind) → length ns ≡ 1 → kinds_of (named_columns ns (k ∷ [])) ≡ k ∷ []
unfolding named_columns
one-name [] k e = absurd (omega (arith, e))
one-name (n ∷ []) k e = refl
one-name (n ∷ m ∷ ns) k e = absurd (omega (arith, e))

column-typed : (cs : List Column) (n : List ℕ) (j : ℕ) → place_of column_name n cs ≡ Some j → typed (V.Column n) cs ≡ (column_of cs j).kind
unfolding typed column_kind
column-typed cs n j is =
    let q = found-place cs n j is in
    ap (λ o. unwrap_or o kind.Dynamic) (kind-Column n cs ∙ ap (option_map (λ (c : Column). c.kind)) q.2)
    ∙ ap (λ (c : Column). c.kind) (sym (get_or_from_slice_get cs j q.0 no_column q.1))

item-kind : (cs : List Column) (b : BItem) (j : ℕ) → has_its_names b cs ≡ true → IsColumnAt cs b j → kinds_of (named_columns b.names (result_kinds b.expr cs)) ≡ (column_of cs j).kind ∷ []
unfolding IsColumnAt has_its_names
item-kind cs b j named h =
    let own : result_kinds b.expr cs ≡ (column_of cs j).kind ∷ [] =
    ap (λ (e : BExpr). result_kinds e cs) h.1 ∙ (result-Column h.0 cs ∙ ap (λ (k : Kind). k ∷ []) (column-typed cs h.0 j h.2)) in
    let many : length b.names ≡ 1 = eqb-true (length b.names) (length (result_kinds b.expr cs)) named ∙ ap length own in
    ap (λ (ks : List Kind). kinds_of (named_columns b.names ks)) own ∙ one-name b.names (column_of cs j).kind many

pub column-found : (cs : List Column) (b : BItem) (m n : List ℕ) (o : Option ℕ) → b.expr ≡ V.Column m → n ≡ m → o ≡ place_of column_name n cs → IfSome o (IsColumnAt cs b)
unfolding IsColumnAt
column-found cs b m n None is same found = tt
column-found cs b m n (Some j) is same found = (m, is, sym (found ∙ ap (λ k. place_of column_name k cs) same))

-- All items.

all-inside : (cs : List Column) (items : List BItem) (ps : List ℕ) → AreColumnsAt cs items ps → AllByRecursion (λ j. j < length cs) ps
unfolding AreColumnsAt
all-inside cs [] [] h = tt
all-inside cs [] (j ∷ js) h = absurd h
all-inside cs (b ∷ bs) [] h = absurd h
all-inside cs (b ∷ bs) (j ∷ js) h = (at-inside cs b j h.0, all-inside cs bs js h.1)

row-moved : (t : Grid) (i : ℕ) (items : List BItem) (ps : List ℕ) → IsGrid t → i < length t.lines → AreColumnsAt t.columns items ps → picked ps (row_at t.lines i) ≡ items_values items t i
unfolding AreColumnsAt items_values
row-moved t i [] [] fits row h = refl
row-moved t i [] (j ∷ js) fits row h = absurd h
row-moved t i (b ∷ bs) [] fits row h = absurd h
row-moved t i (b ∷ bs) (j ∷ js) fits row h =
    ap (λ (vs : List Value). value_at (row_at t.lines i) j ∷ vs) (row-moved t i bs js fits row h.1)
    ∙ ap (λ (vs : List Value). vs ++ items_values bs t i) (sym (item-result t i b j fits row h.0))

kinds-moved : (cs : List Column) (items : List BItem) (ps : List ℕ) → list_all (item_fits (scope_of cs) position.Window) items ≡ true → AreColumnsAt cs items ps → kinds_of (map (column_of cs) ps) ≡ kinds_of (items_columns items cs)
unfolding AreColumnsAt items_columns item_fits
kinds-moved cs [] [] fits h = refl
kinds-moved cs [] (j ∷ js) fits h = absurd h
kinds-moved cs (b ∷ bs) [] fits h = absurd h
kinds-moved cs (b ∷ bs) (j ∷ js) fits h =
    let parts = and_parts (item_fits (scope_of cs) position.Window b) (list_all (item_fits (scope_of cs) position.Window) bs) fits in
    let own = and_parts (expr_fits b.expr (scope_of cs) position.Window) (has_its_names b cs) parts.0 in
    ap₂ (λ (ks ls : List Kind). ks ++ ls) (sym (item-kind cs b j own.1 h.0)) (kinds-moved cs bs js parts.1 h.1)
    ∙ sym (map-append (λ (c : Column). c.kind) (named_columns b.names (result_kinds b.expr cs)) (items_columns bs cs))

-- The steps of `project`.

pub moved-inside : (cs : List Column) (items : List BItem) (ps : List ℕ) → AreMoved cs items ps → All (λ j. j < length cs) ps
unfolding AreMoved
moved-inside cs items ps h = All-from_recursion (λ j. j < length cs) ps (all-inside cs items ps h.0)

pub moved-differ : (cs : List Column) (items : List BItem) (ps : List ℕ) → AreMoved cs items ps → AllPairs (λ i j. i ≢ j) ps
unfolding AreMoved
moved-differ cs items ps h = h.1

pub moved-kinds : (t kept : Grid) (items : List BItem) (ps : List ℕ) (cs : List Column) → items_fit items t.columns position.Window ≡ true → AreMoved t.columns items ps → kept ≡ selected t ps → cs ≡ items_columns items t.columns → kinds_of kept.columns ≡ kinds_of cs
unfolding AreMoved items_fit
moved-kinds t kept items ps cs fits h is named =
    ap (λ (g : Grid). kinds_of g.columns) is ∙ (kinds-moved t.columns items ps fits h.0 ∙ ap kinds_of (sym named))

pub moved-made : (t kept made : Grid) (items : List BItem) (ps : List ℕ) (cs : List Column) → IsGrid t → AreMoved t.columns items ps → kept ≡ selected t ps → cs ≡ items_columns items t.columns → made ≡ record kept { columns = cs } → made ≡ project_table items t
unfolding AreMoved project_table places places_below
moved-made t kept made items ps cs fits h is named e =
    let lines : map (picked ps) t.lines ≡ map (λ i. items_values items t i) (places t) =
    ap (map (picked ps)) (sym (rows-at-all t))
    ∙ (map-map (picked ps) (row_at t.lines) (places t)
    ∙ map-range-same (λ i. picked ps (row_at t.lines i)) (λ i. items_values items t i) 0 (length t.lines) (λ i lt. row-moved t i items ps fits (omega (arith, lt)) h.0)) in
    e ∙ (ap₂ (λ (g : Grid) (ds : List Column). record g { columns = ds }) is named
    ∙ ap (λ (ls : List (List Value)). record { columns = items_columns items t.columns; lines = ls }) lines)

pub ruleset moved_facts = (moved-inside, moved-differ, moved-kinds, moved-made)

-- One item more.

columns-push : (cs : List Column) (items : List BItem) (ps : List ℕ) (b : BItem) (j : ℕ) → AreColumnsAt cs items ps → IsColumnAt cs b j → AreColumnsAt cs (items ++ b ∷ []) (ps ++ j ∷ [])
unfolding AreColumnsAt
columns-push cs [] [] b j h k = (k, tt)
columns-push cs [] (p ∷ ps) b j h k = absurd h
columns-push cs (x ∷ xs) [] b j h k = absurd h
columns-push cs (x ∷ xs) (p ∷ ps) b j h k = (h.0, columns-push cs xs ps b j h.1 k)

differ-push : (ps : List ℕ) (j : ℕ) → list_any (λ p. p == j) ps ≡ false → AllPairs (λ i j. i ≢ j) ps → AllPairs (λ i j. i ≢ j) (ps ++ j ∷ [])
differ-push [] j e h = AllPairs-cons (λ i j. i ≢ j) j [] (λ k d lt. absurd (omega (arith, lt))) h
differ-push (p ∷ ps) j e h =
    let parts = or_parts (p == j) (list_any (λ q. q == j) ps) e in
    let apart : p ≢ j = λ same. (let no : true ≡ false = sym (eq-eqb p j same) ∙ parts.0 in absurd cc) in
    AllPairs-cons (λ i j. i ≢ j) p (ps ++ j ∷ [])
    (All-push (λ q. p ≢ q) ps j (λ k d lt. h 0 (suc k) d (omega arith) (omega (arith, lt))) apart)
    (differ-push ps j parts.1 (λ i k d below lt. h (suc i) (suc k) d (omega (arith, below)) (omega (arith, lt))))

pub moved-start : (cs : List Column) → AreMoved cs [] []
unfolding AreMoved AreColumnsAt
moved-start cs = (tt, λ i j d lt inside. absurd (omega (arith, inside)))

pub moved-step : (cs : List Column) (items : List BItem) (i : ℕ) (b : BItem) (old new : List ℕ) (j : ℕ) → i < length items → b ≡ get_or items i b → AreMoved cs (take i items) old → IsColumnAt cs b j → list_any (λ p. p == j) old ≡ false → new ≡ old ++ j ∷ [] → AreMoved cs (take (i + 1) items) new
unfolding AreMoved
moved-step cs items i b old new j lt is h at free e =
    let more : take (i + 1) items ≡ take i items ++ b ∷ [] = take_more items i b lt ∙ ap (λ (x : BItem). take i items ++ x ∷ []) (sym is) in
    rw (more, e) (columns-push cs (take i items) old b j h.0 at, differ-push old j free h.1)

pub ruleset moved_steps = (moved-start, moved-step)

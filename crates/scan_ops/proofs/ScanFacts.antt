-- The scan of a whole table, and of the rows at some places.
use Rattle.std.proofs.Common.{◌≡◌, ◌↔◌, ◌<◌, ◌≤◌, ◌+◌, ◌++◌, ℕ, Bool, true, List, [], ◌∷◌, length, take, get_or, refl, sym, ap, ap₂, ◌∙◌, subst, arith, append-nil, append_assoc}
use Rattle.std.specs.Prelude.{All, fold}
use Rattle.std.specs.List.{range_with_len}
use Rattle.std.proofs.lemmas.Grind.{fold-append}
use Rattle.std.proofs.lemmas.List.{map-id, take_all, take_more}
use Rattle.std.proofs.lemmas.List.FromFn.{map-range_with_len_more}
use Rattle.kql_cells.specs.Named.{HasDistinctNames, column_name}
use Rattle.kql_cells.specs.Table.{Grid, IsGrid}
use Rattle.kql_cells.specs.declared.schema.Column.{Column}
use Rattle.kql_cells.specs.declared.value.Value.{Value}
use Rattle.kql_bound.specs.declared.parts.ScanPlan.{ScanPlan}
use Rattle.kql_meaning.specs.Scan.{Turn, after, all_rows, machine_at_start, row_after, rows_at_end, scan_columns, scan_rows, scan_table, with_declared}
use Rattle.kql_meaning.specs.Tables.{places, places_below}
use Rattle.scan_ops.specs.Scans.{rows_scanned, turn_at}
use Rattle.scan_ops.specs.Steps.{scan_answers}
use Rattle.scan_ops.proofs.ExtendedFacts.{columns-all, columns-start}
use Rattle.scan_ops.proofs.FitFacts.{answer-differ, declared-differ, declared-fit, scan-grid, scan-scalar}
use Rattle.scan_ops.proofs.RowFacts.{after-twice}
use Rattle.scan_ops.proofs.RunFacts.{width-start}

-- The table.

abbrev answer_of : List Column → List (List Value) → Grid
answer_of cs rows = record { columns = cs; lines = rows }

pub grid-made : (p : ScanPlan) (u none : Grid) (cs : List Column) (rows : List (List Value)) → cs ≡ none.columns → rows ≡ scan_rows p u → IsGrid (record { columns = none.columns; lines = scan_rows p u }) → IsGrid (record { columns = cs; lines = rows })
grid-made p u none cs rows named made h = subst IsGrid (sym (ap₂ answer_of named made)) h

pub rows-made : (p : ScanPlan) (u none r : Grid) (cs : List Column) (rows : List (List Value)) → cs ≡ none.columns → rows ≡ scan_rows p u → r ≡ record { columns = cs; lines = rows } → r ≡ record { columns = none.columns; lines = scan_rows p u }
rows-made p u none r cs rows named made e = e ∙ ap₂ answer_of named made

pub none-rows : (none : Grid) (rows : List (List Value)) → rows ≡ none.lines → none.lines ≡ [] → rows ≡ []
none-rows none rows is e = is ∙ e

-- Where no column is declared, the rows are those of the table.
pub none-declared : (p : ScanPlan) (t : Grid) → p.declared ≡ [] → t ≡ with_declared p t
none-declared p t none = columns-all p [] 0 t t (sym none) (omega arith) (columns-start t t [] refl)

pub grid-more : (p : ScanPlan) (t u none : Grid) → HasDistinctNames column_name t.columns → IsGrid t → scan_answers p t.columns ≡ true → u ≡ with_declared p t → none ≡ record { columns = scan_columns p t.columns; lines = [] } → IsGrid (record { columns = none.columns; lines = scan_rows p u })
unfolding scan_table
grid-more p t u none names grid fits extended is =
    subst IsGrid (sym (ap₂ (λ (g v : Grid). answer_of g.columns (scan_rows p v)) is extended)) (scan-grid p t names grid fits)

pub table-more : (p : ScanPlan) (t u none r : Grid) → u ≡ with_declared p t → none ≡ record { columns = scan_columns p t.columns; lines = [] } → r ≡ record { columns = none.columns; lines = scan_rows p u } → r ≡ scan_table p t
unfolding scan_table
table-more p t u none r extended is e = e ∙ ap₂ (λ (g v : Grid). answer_of g.columns (scan_rows p v)) is extended

pub grid-plain : (p : ScanPlan) (t none : Grid) (b : Bool) → HasDistinctNames column_name t.columns → IsGrid t → scan_answers p t.columns ≡ true → (b ≡ true) ↔ (p.declared ≡ []) → b ≡ true → none ≡ record { columns = scan_columns p t.columns; lines = [] } → IsGrid (record { columns = none.columns; lines = scan_rows p t })
grid-plain p t none b names grid fits bare so is = grid-more p t t none names grid fits (none-declared p t (bare.0 so)) is

pub table-plain : (p : ScanPlan) (t none r : Grid) (b : Bool) → (b ≡ true) ↔ (p.declared ≡ []) → b ≡ true → none ≡ record { columns = scan_columns p t.columns; lines = [] } → r ≡ record { columns = none.columns; lines = scan_rows p t } → r ≡ scan_table p t
table-plain p t none r b bare so is e = table-more p t t none r (none-declared p t (bare.0 so)) is e

pub none-lines : (none : Grid) (cs : List Column) → none ≡ record { columns = cs; lines = [] } → none.lines ≡ []
none-lines none cs is = ap (λ (g : Grid). g.lines) is

pub ruleset scan_facts = (declared-differ, declared-fit, scan-scalar, grid-more, grid-plain, table-more, table-plain, none-lines)

pub ruleset answer_facts = (answer-differ)

pub ruleset made_facts = (grid-made, rows-made, none-rows)

-- All rows.

pub rows-start : (p : ScanPlan) (t : Grid) (turn : Turn) (out : List (List Value)) → out ≡ [] → turn ≡ record { machine = machine_at_start p; emitted = out } → turn ≡ fold (row_after p t) (record { machine = machine_at_start p; emitted = [] }) (range_with_len 0 0)
rows-start p t turn out none e = e ∙ ap (λ (rows : List (List Value)). record { machine = machine_at_start p; emitted = rows }) none

range-more : (n : ℕ) → range_with_len 0 (n + 1) ≡ range_with_len 0 n ++ n ∷ []
range-more n = sym (map-id (range_with_len 0 (n + 1))) ∙ (map-range_with_len_more (λ (x : ℕ). x) 0 n n (omega arith) ∙ ap (λ xs. xs ++ n ∷ []) (map-id (range_with_len 0 n)))

pub rows-more : (p : ScanPlan) (t : Grid) (n : ℕ) (start old new : Turn) → old ≡ fold (row_after p t) start (range_with_len 0 n) → new ≡ row_after p t old n → new ≡ fold (row_after p t) start (range_with_len 0 (n + 1))
rows-more p t n start old new is e =
    e ∙ (ap (λ (x : Turn). row_after p t x n) is ∙ (sym (fold-append (row_after p t) start (range_with_len 0 n) (n ∷ [])) ∙ ap (fold (row_after p t) start) (sym (range-more n))))

pub rows-all : (p : ScanPlan) (t : Grid) (n : ℕ) (turn : Turn) (rows : List (List Value)) → n ≡ length t.lines → turn ≡ fold (row_after p t) (record { machine = machine_at_start p; emitted = [] }) (range_with_len 0 n) → rows ≡ turn.emitted ++ rows_at_end p turn.machine → rows ≡ scan_rows p t
unfolding scan_rows all_rows places places_below
rows-all p t n turn rows size is e =
    let whole : turn ≡ fold (row_after p t) (record { machine = machine_at_start p; emitted = [] }) (range_with_len 0 (length t.lines)) = is ∙ ap (λ k. fold (row_after p t) (record { machine = machine_at_start p; emitted = [] }) (range_with_len 0 k)) size in
    e ∙ ap (λ (x : Turn). x.emitted ++ rows_at_end p x.machine) whole

pub ruleset rows_facts = (rows-start, rows-more, width-start)

-- The rows at some places.

pub turns-start : (p : ScanPlan) (t : Grid) (ps : List ℕ) (out : List (List Value)) (turn : Turn) → turn ≡ record { machine = machine_at_start p; emitted = out } → turn ≡ after out (turn_at p t (take 0 ps))
unfolding after turn_at
turns-start p t ps out turn e = e ∙ ap (λ (rows : List (List Value)). record { machine = machine_at_start p; emitted = rows }) (sym (append-nil out))

row-behind : (p : ScanPlan) (t : Grid) (out : List (List Value)) (turn : Turn) (i : ℕ) → row_after p t (after out turn) i ≡ after out (row_after p t turn i)
unfolding row_after after
row-behind p t out turn i = after-twice out turn.emitted _

pub turns-more : (p : ScanPlan) (t : Grid) (ps : List ℕ) (k i d : ℕ) (out : List (List Value)) (old new : Turn) → k < length ps → i ≡ get_or ps k d → old ≡ after out (turn_at p t (take k ps)) → new ≡ row_after p t old i → new ≡ after out (turn_at p t (take (k + 1) ps))
unfolding turn_at
turns-more p t ps k i d out old new lt is before e =
    let start : Turn = record { machine = machine_at_start p; emitted = [] } in
    let one : take (k + 1) ps ≡ take k ps ++ i ∷ [] = take_more ps k d lt ∙ ap (λ (x : ℕ). take k ps ++ x ∷ []) (sym is) in
    e ∙ (ap (λ (x : Turn). row_after p t x i) before
    ∙ (row-behind p t out (fold (row_after p t) start (take k ps)) i
    ∙ ap (after out) (sym (fold-append (row_after p t) start (take k ps) (i ∷ [])) ∙ ap (fold (row_after p t) start) (sym one))))

pub turns-next : (p : ScanPlan) (t : Grid) (ps : List ℕ) (k d : ℕ) (out : List (List Value)) (old new : Turn) → k < length ps → old ≡ after out (turn_at p t (take k ps)) → new ≡ row_after p t old (get_or ps k d) → new ≡ after out (turn_at p t (take (k + 1) ps))
turns-next p t ps k d out old new lt before e = turns-more p t ps k (get_or ps k d) d out old new lt refl before e

pub turns-all : (p : ScanPlan) (t : Grid) (ps : List ℕ) (k : ℕ) (out rows : List (List Value)) (turn : Turn) → length ps ≤ k → turn ≡ after out (turn_at p t (take k ps)) → rows ≡ turn.emitted ++ rows_at_end p turn.machine → rows ≡ out ++ rows_scanned p t ps
unfolding after rows_scanned
turns-all p t ps k out rows turn le is e =
    let whole : turn ≡ after out (turn_at p t ps) = is ∙ ap (λ (qs : List ℕ). after out (turn_at p t qs)) (take_all k ps le) in
    e ∙ (ap (λ (x : Turn). x.emitted ++ rows_at_end p x.machine) whole ∙ append_assoc out (turn_at p t ps).emitted (rows_at_end p (turn_at p t ps).machine))

pub place-there : (n k i : ℕ) (ps : List ℕ) → All (λ i. i < n) ps → k < length ps → i ≡ get_or ps k i → i < n
place-there n k i ps h lt is = subst (λ j. j < n) (sym is) (h k i lt)

pub ruleset place_facts = (turns-start, place-there)

pub length-same : (cs ds : List Column) → cs ≡ ds → length cs ≡ length ds
length-same cs ds e = ap length e

pub ruleset end_facts = (length-same)

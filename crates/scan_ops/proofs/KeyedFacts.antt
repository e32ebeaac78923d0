-- A scan reads each row alone, so that of gathered rows is that of the rows at their places; and scans of the rows of each key.
use Rattle.std.proofs.Common.{◌≡◌, ◌↔◌, ◌<◌, ◌≤◌, ◌+◌, ◌-◌, ℕ, zero, suc, Bool, true, List, [], ◌∷◌, ◌++◌, map, filter, length, take, drop, get_or, refl, sym, ap, ap₂, ◌∙◌, subst, arith, inl, inr, append-nil}
use Rattle.std.specs.Prelude.{All, IfSome, None, Option, Some, find, fold, reverse, slice_get, slice_index_or, slice_range}
use Rattle.std.specs.List.{enumerate_from, flat_map, list_all, range_with_len}
use Rattle.std.proofs.lemmas.Bool.{and_from, and_parts, cases_Bool}
use Rattle.std.proofs.lemmas.Grind.{flat_map-append}
use Rattle.std.proofs.lemmas.List.{get_or-drop, get_or-map, length-drop, length-map, take_all, take_more}
use Rattle.std.proofs.lemmas.List.Elements.{All-append, All-drop, All-nil, All-take}
use Rattle.kql_cells.specs.Named.{HasDistinctNames, column_name, place_of}
use Rattle.kql_cells.specs.Seen.{row_at}
use Rattle.kql_cells.specs.Table.{Grid, IsGrid, RowFits, gathered}
use Rattle.kql_cells.specs.declared.schema.Column.{Column}
use Rattle.kql_cells.specs.declared.value.Value.{Value}
use Rattle.kql_dynamic.proofs.ArrayFormLaws.{list_all-reverse}
use Rattle.kql_bound.specs.declared.parts.BItem.{BItem}
use Rattle.kql_bound.specs.declared.parts.ScanPlan.{ScanPlan}
use Rattle.kql_bound.specs.declared.parts.ScanStep.{ScanStep}
use Rattle.kql_meaning.specs.Groups.{distinct_keys, group_of}
use Rattle.kql_meaning.specs.Partition.{key_in_column, partition_table}
use Rattle.kql_meaning.specs.Readings.{Records}
use Rattle.kql_meaning.specs.RowByRow.{are_plain, is_plain}
use Rattle.kql_meaning.specs.Scan.{Held, Machine, Turn, after, all_rows, assigned, begun_anew, check_one, check_two, comes_true, declared_defaults, first_outcome, machine_at_start, new_record, promoted, records_of, renewed, replaced, row_after, row_turn, rows_at_end, scan_columns, scan_rows, scan_table, state_before, state_of, steps_down, tried, with_declared}
use Rattle.kql_meaning.specs.Tables.{absent_in, cell, cell_in, emptied, is_name_among, places, places_below}
use Rattle.kql_meaning.specs.Values.{holds, same_keys}
use Rattle.kql_meaning.proofs.RowByRowLaws.{plain_reads_its_row}
use Rattle.kql_fit_laws.proofs.RowFacts.{gathered-table}
use Rattle.scan_ops.specs.Scans.{is_plain_step, name_at, rows_by_key, rows_of_key, rows_scanned, scans_of, turn_at}
use Rattle.scan_ops.specs.Steps.{scan_answers}
use Rattle.scan_ops.proofs.KeySteps.{key-within, named-there}
use Rattle.scan_ops.proofs.FitFacts.{declared-differ, declared-fit, scan-grid, scan-scalar, steps-plain}
use Rattle.scan_ops.proofs.ScanFacts.{none-declared}

-- One row in two tables.

cell-in-same : (t u : Grid) (i j : ℕ) (o : Option ℕ) → t.columns ≡ u.columns → row_at t.lines i ≡ row_at u.lines j → cell_in t i o ≡ cell_in u j o
unfolding cell_in
cell-in-same t u i j None cols row = refl
cell-in-same t u i j (Some k) cols row = ap₂ (λ (r : List Value) (cs : List Column). slice_index_or r k (absent_in (slice_get cs k))) row cols

cell-same : (t u : Grid) (i j : ℕ) (n : List ℕ) → t.columns ≡ u.columns → row_at t.lines i ≡ row_at u.lines j → cell t i n ≡ cell u j n
unfolding cell
cell-same t u i j n cols row =
    ap (λ (cs : List Column). cell_in t i (place_of column_name n cs)) cols ∙ cell-in-same t u i j (place_of column_name n u.columns) cols row

found-plain : (q : BItem → Bool) (sets : List BItem) → list_all (λ (b : BItem). is_plain b.expr) sets ≡ true → IfSome (find q sets) (λ (b : BItem). is_plain b.expr ≡ true)
found-plain q [] h = tt
found-plain q (b ∷ sets) h =
    let parts = and_parts (is_plain b.expr) (list_all (λ (b : BItem). is_plain b.expr) sets) h in
    elim (cases_Bool (q b)) [
      | inl y ↦ rw y parts.0
      | inr f ↦ rw f (found-plain q sets parts.1)
    ]

assigned-same : (o : Option BItem) (c : Column) (t u : Grid) (i j : ℕ) (s : Records) → IfSome o (λ (b : BItem). is_plain b.expr ≡ true) → t.columns ≡ u.columns → row_at t.lines i ≡ row_at u.lines j → assigned o c t i s ≡ assigned o c u j s
unfolding assigned
assigned-same None c t u i j s h cols row = cell-same t u i j c.name cols row
assigned-same (Some b) c t u i j s h cols row = plain_reads_its_row b.expr t u i j s h cols row

each-same : {X Y : Type 0} (f g : X → Y) (xs : List X) → ((x : X) → f x ≡ g x) → map f xs ≡ map g xs
each-same f g [] h = refl
each-same f g (x ∷ xs) h = ap₂ (λ y ys. y ∷ ys) (h x) (each-same f g xs h)

record-same : (s : ScanStep) (t u : Grid) (i j : ℕ) (rs : Records) → is_plain_step s ≡ true → t.columns ≡ u.columns → row_at t.lines i ≡ row_at u.lines j → new_record s t i rs ≡ new_record s u j rs
unfolding new_record is_plain_step are_plain
record-same s t u i j rs plain cols row =
    let sets = (and_parts (is_plain s.condition) (list_all (λ (b : BItem). is_plain b.expr) s.sets) plain).1 in
    let f = λ (c : Column). assigned (find (λ (b : BItem). is_name_among b.names c.name) s.sets) c t i rs in
    let g = λ (c : Column). assigned (find (λ (b : BItem). is_name_among b.names c.name) s.sets) c u j rs in
    each-same f g t.columns (λ c. assigned-same (find (λ (b : BItem). is_name_among b.names c.name) s.sets) c t u i j rs (found-plain (λ (b : BItem). is_name_among b.names c.name) s.sets sets) cols row)
    ∙ ap (map g) cols

truth-same : (p : ScanPlan) (s : ScanStep) (t u : Grid) (i j : ℕ) (h : Option Held) → is_plain_step s ≡ true → t.columns ≡ u.columns → row_at t.lines i ≡ row_at u.lines j → comes_true p s t i h ≡ comes_true p s u j h
unfolding comes_true is_plain_step
truth-same p s t u i j h plain cols row =
    ap holds (plain_reads_its_row s.condition t u i j (records_of (length p.steps) h) (and_parts (is_plain s.condition) (are_plain s.sets) plain).0 cols row)

promoted-same : (p : ScanPlan) (s : ScanStep) (t u : Grid) (i j k : ℕ) (m : Machine) (h : Held) → is_plain_step s ≡ true → t.columns ≡ u.columns → row_at t.lines i ≡ row_at u.lines j → promoted p s t i k m h ≡ promoted p s u j k m h
unfolding promoted
promoted-same p s t u i j k m h plain cols row = rw (record-same s t u i j (records_of (length p.steps) (Some h)) plain cols row) refl

one-same : (p : ScanPlan) (s : ScanStep) (t u : Grid) (i j k : ℕ) (m : Machine) (h : Option Held) → is_plain_step s ≡ true → t.columns ≡ u.columns → row_at t.lines i ≡ row_at u.lines j → check_one p s t i k m h ≡ check_one p s u j k m h
unfolding check_one
one-same p s t u i j k m None plain cols row = refl
one-same p s t u i j k m (Some h) plain cols row = rw (truth-same p s t u i j (Some h) plain cols row, promoted-same p s t u i j k m h plain cols row) refl

begun-same : (p : ScanPlan) (s : ScanStep) (t u : Grid) (i j : ℕ) (m : Machine) (h : Option Held) → is_plain_step s ≡ true → t.columns ≡ u.columns → row_at t.lines i ≡ row_at u.lines j → begun_anew p s t i m h ≡ begun_anew p s u j m h
unfolding begun_anew
begun-same p s t u i j m h plain cols row = rw (record-same s t u i j (records_of (length p.steps) h) plain cols row) refl

replaced-same : (p : ScanPlan) (s : ScanStep) (t u : Grid) (i j k : ℕ) (m : Machine) (h : Held) → is_plain_step s ≡ true → t.columns ≡ u.columns → row_at t.lines i ≡ row_at u.lines j → replaced p s t i k m h ≡ replaced p s u j k m h
unfolding replaced
replaced-same p s t u i j k m h plain cols row = rw (record-same s t u i j (records_of (length p.steps) (Some h)) plain cols row) refl

renewed-same : (p : ScanPlan) (s : ScanStep) (t u : Grid) (i j k : ℕ) (m : Machine) (h : Option Held) → is_plain_step s ≡ true → t.columns ≡ u.columns → row_at t.lines i ≡ row_at u.lines j → renewed p s t i k m h ≡ renewed p s u j k m h
unfolding renewed
renewed-same p s t u i j k m None plain cols row = rw (begun-same p s t u i j m None plain cols row) refl
renewed-same p s t u i j k m (Some h) plain cols row = rw (begun-same p s t u i j m (Some h) plain cols row, replaced-same p s t u i j k m h plain cols row) refl

two-same : (p : ScanPlan) (s : ScanStep) (t u : Grid) (i j k : ℕ) (m : Machine) → is_plain_step s ≡ true → t.columns ≡ u.columns → row_at t.lines i ≡ row_at u.lines j → check_two p s t i k m ≡ check_two p s u j k m
unfolding check_two
two-same p s t u i j k m plain cols row = rw (truth-same p s t u i j (state_of m k) plain cols row, renewed-same p s t u i j k m (state_of m k) plain cols row) refl

tried-same : (p : ScanPlan) (t u : Grid) (i j : ℕ) (turn : Turn) (e : ℕ × ScanStep) → is_plain_step e.1 ≡ true → t.columns ≡ u.columns → row_at t.lines i ≡ row_at u.lines j → tried p t i turn e ≡ tried p u j turn e
unfolding tried
tried-same p t u i j turn e plain cols row =
    ap₂ (first_outcome turn) (one-same p e.1 t u i j e.0 turn.machine (state_before turn.machine e.0) plain cols row) (two-same p e.1 t u i j e.0 turn.machine plain cols row)

abbrev numbered-plain : ℕ × ScanStep → Bool
numbered-plain e = is_plain_step e.1

all-same : (p : ScanPlan) (t u : Grid) (i j : ℕ) (es : List (ℕ × ScanStep)) (turn : Turn) → list_all numbered-plain es ≡ true → t.columns ≡ u.columns → row_at t.lines i ≡ row_at u.lines j → fold (tried p t i) turn es ≡ fold (tried p u j) turn es
all-same p t u i j [] turn plain cols row = refl
all-same p t u i j (e ∷ es) turn plain cols row =
    let parts = and_parts (is_plain_step e.1) (list_all numbered-plain es) plain in
    ap (λ (x : Turn). fold (tried p t i) x es) (tried-same p t u i j turn e parts.0 cols row) ∙ all-same p t u i j es (tried p u j turn e) parts.1 cols row

numbered : (a : ℕ) (steps : List ScanStep) → list_all is_plain_step steps ≡ true → list_all numbered-plain (enumerate_from a steps) ≡ true
numbered a [] h = refl
numbered a (s ∷ steps) h =
    let parts = and_parts (is_plain_step s) (list_all is_plain_step steps) h in
    and_from (is_plain_step s) (list_all numbered-plain (enumerate_from (a + 1) steps)) parts.0 (numbered (a + 1) steps parts.1)

row-same : (p : ScanPlan) (t u : Grid) (i j : ℕ) (turn : Turn) → list_all is_plain_step p.steps ≡ true → t.columns ≡ u.columns → row_at t.lines i ≡ row_at u.lines j → row_after p t turn i ≡ row_after p u turn j
unfolding row_after row_turn steps_down
row-same p t u i j turn plain cols row =
    ap (after turn.emitted) (all-same p t u i j (reverse (enumerate_from 1 p.steps)) (record { machine = turn.machine; emitted = [] }) (list_all-reverse numbered-plain (enumerate_from 1 p.steps) (numbered 1 p.steps plain)) cols row)

-- Gathered rows.

fold-places : {S : Type 0} (f g : S → ℕ → S) (ps : List ℕ) (a : ℕ) (s : S) → ((k : ℕ) (x : S) → k < length ps → f x (a + k) ≡ g x (slice_index_or ps k 0)) → fold f s (range_with_len a (length ps)) ≡ fold g s ps
fold-places f g [] a s h = refl
fold-places f g (p ∷ ps) a s h =
    let zeroth : a ≡ a + 0 = omega arith in
    let first : f s a ≡ g s p = ap (f s) zeroth ∙ h 0 s (omega arith) in
    ap (λ x. fold f x (range_with_len (a + 1) (length ps))) first
    ∙ fold-places f g ps (a + 1) (g s p) (λ k x lt. let next : a + 1 + k ≡ a + suc k = omega arith in ap (f x) next ∙ h (suc k) x (omega (arith, lt)))

row-gathered : (lines : List (List Value)) (ps : List ℕ) (k : ℕ) → k < length ps → row_at (map (row_at lines) ps) k ≡ row_at lines (slice_index_or ps k 0)
row-gathered lines [] k lt = absurd (omega (arith, lt))
row-gathered lines (p ∷ ps) zero lt = refl
row-gathered lines (p ∷ ps) (suc k) lt = row-gathered lines ps k (omega (arith, lt))

turns-gathered : (p : ScanPlan) (t : Grid) (ps : List ℕ) → list_all is_plain_step p.steps ≡ true → all_rows p (gathered t ps) ≡ turn_at p t ps
unfolding all_rows turn_at places places_below
turns-gathered p t ps plain =
    let start : Turn = record { machine = machine_at_start p; emitted = [] } in
    ap (λ n. fold (row_after p (gathered t ps)) start (range_with_len 0 n)) (length-map ps (row_at t.lines))
    ∙ fold-places (row_after p (gathered t ps)) (row_after p t) ps 0 start (λ k x lt. let z : 0 + k ≡ k = omega arith in ap (row_after p (gathered t ps) x) z ∙ row-same p (gathered t ps) t k (slice_index_or ps k 0) x plain refl (row-gathered t.lines ps k lt))

rows-gathered : (p : ScanPlan) (t : Grid) (ps : List ℕ) → list_all is_plain_step p.steps ≡ true → scan_rows p (gathered t ps) ≡ rows_scanned p t ps
unfolding scan_rows rows_scanned
rows-gathered p t ps plain = ap (λ (x : Turn). x.emitted ++ rows_at_end p x.machine) (turns-gathered p t ps plain)

rest-within : {n : ℕ} (i : ℕ) (is : List ℕ) → All (λ j. j < n) (i ∷ is) → All (λ j. j < n) is
rest-within i is h = λ k d lt. h (suc k) d (omega (arith, lt))

widened-gathered : (f : List Value → List Value) (lines : List (List Value)) (ps : List ℕ) → All (λ i. i < length lines) ps → map f (map (row_at lines) ps) ≡ map (row_at (map f lines)) ps
widened-gathered f lines [] h = refl
widened-gathered f lines (i ∷ is) h =
    let lt : i < length lines = h 0 i (omega arith) in
    ap₂ (λ (r : List Value) (rs : List (List Value)). r ∷ rs) (sym (get_or-map f lines i [] [] lt)) (widened-gathered f lines is (rest-within i is h))

declared-gathered : (p : ScanPlan) (t : Grid) (ps : List ℕ) → All (λ i. i < length t.lines) ps → with_declared p (gathered t ps) ≡ gathered (with_declared p t) ps
unfolding with_declared
declared-gathered p t ps h =
    ap (λ (ls : List (List Value)). record { columns = (with_declared p t).columns; lines = ls }) (widened-gathered (λ line. line ++ declared_defaults p) t.lines ps h)

part-scanned : (p : ScanPlan) (t : Grid) (ps : List ℕ) → list_all is_plain_step p.steps ≡ true → All (λ i. i < length t.lines) ps → (scan_table p (gathered t ps)).lines ≡ rows_scanned p (with_declared p t) ps
unfolding scan_table
part-scanned p t ps plain h = ap (scan_rows p) (declared-gathered p t ps h) ∙ rows-gathered p (with_declared p t) ps plain

-- The rows of each key.

keys-scanned : (p : ScanPlan) (c : List ℕ) (t : Grid) (ks : List (List Value)) → list_all is_plain_step p.steps ≡ true → flat_map (λ k. (scan_table p (group_of (key_in_column c t) t k)).lines) ks ≡ flat_map (rows_scanned p (with_declared p t)) (map (rows_of_key c t) ks)
unfolding group_of rows_of_key
keys-scanned p c t [] plain = refl
keys-scanned p c t (k ∷ ks) plain =
    ap₂ (λ (rows more : List (List Value)). rows ++ more) (part-scanned p t (filter (λ i. same_keys (key_in_column c t i) k) (places t)) plain (key-within c t k)) (keys-scanned p c t ks plain)

abbrev scanned_by_key : ScanPlan → List ℕ → Grid → Grid
scanned_by_key p c t = record { columns = scan_columns p t.columns; lines = scans_of p (with_declared p t) (rows_by_key c t) }

columns-scanned : (p : ScanPlan) (t : Grid) → (scan_table p (emptied t)).columns ≡ scan_columns p t.columns
unfolding scan_table emptied
columns-scanned p t = refl

pub partition-scanned : (p : ScanPlan) (c : List ℕ) (t : Grid) → list_all is_plain_step p.steps ≡ true → partition_table c (scan_table p) t ≡ scanned_by_key p c t
unfolding partition_table scans_of rows_by_key
partition-scanned p c t plain =
    ap₂ (λ (cs : List Column) (ls : List (List Value)). record { columns = cs; lines = ls }) (columns-scanned p t) (keys-scanned p c t (distinct_keys (key_in_column c t) t) plain)

-- The table.

pub keyed-made : (p : ScanPlan) (t u r : Grid) (k : ℕ) (lists : List (List ℕ)) → scan_answers p t.columns ≡ true → lists ≡ rows_by_key (name_at k t.columns) t → u ≡ with_declared p t → r ≡ record { columns = scan_columns p t.columns; lines = scans_of p u lists } → r ≡ partition_table (name_at k t.columns) (scan_table p) t
keyed-made p t u r k lists fits is extended e =
    e ∙ (ap₂ (λ (g : Grid) (ls : List (List ℕ)). record { columns = scan_columns p t.columns; lines = scans_of p g ls }) extended is
    ∙ sym (partition-scanned p (name_at k t.columns) t (steps-plain p t.columns fits)))

pub bare-declared : (p : ScanPlan) (t : Grid) (b : Bool) → (b ≡ true) ↔ (p.declared ≡ []) → b ≡ true → t ≡ with_declared p t
bare-declared p t b bare so = none-declared p t (bare.0 so)

pub keyed-plain : (p : ScanPlan) (t r : Grid) (k : ℕ) (lists : List (List ℕ)) (b : Bool) → scan_answers p t.columns ≡ true → lists ≡ rows_by_key (name_at k t.columns) t → (b ≡ true) ↔ (p.declared ≡ []) → b ≡ true → r ≡ record { columns = scan_columns p t.columns; lines = scans_of p t lists } → r ≡ partition_table (name_at k t.columns) (scan_table p) t
keyed-plain p t r k lists b fits is bare so e = keyed-made p t t r k lists fits is (bare-declared p t b bare so) e

pub keyed-named : (p : ScanPlan) (t r : Grid) (k : ℕ) → r ≡ partition_table (name_at k t.columns) (scan_table p) t → (c : List ℕ) → place_of column_name c t.columns ≡ Some k → r ≡ partition_table c (scan_table p) t
keyed-named p t r k e c there = e ∙ ap (λ (n : List ℕ). partition_table n (scan_table p) t) (named-there c t.columns k there)

part-fits : (p : ScanPlan) (t : Grid) (ps : List ℕ) → HasDistinctNames column_name t.columns → IsGrid t → scan_answers p t.columns ≡ true → All (λ i. i < length t.lines) ps → All (RowFits (scan_columns p t.columns)) (rows_scanned p (with_declared p t) ps)
unfolding scan_table
part-fits p t ps names grid fits h =
    let part = gathered-table t ps (names, grid) h in
    subst (All (RowFits (scan_columns p t.columns))) (part-scanned p t ps (steps-plain p t.columns fits) h) (scan-grid p (gathered t ps) names part.1 fits)

parts-fit : (p : ScanPlan) (t : Grid) (lists : List (List ℕ)) → HasDistinctNames column_name t.columns → IsGrid t → scan_answers p t.columns ≡ true → All (All (λ i. i < length t.lines)) lists → All (RowFits (scan_columns p t.columns)) (flat_map (rows_scanned p (with_declared p t)) lists)
parts-fit p t [] names grid fits h = All-nil (RowFits (scan_columns p t.columns))
parts-fit p t (ps ∷ lists) names grid fits h =
    All-append (RowFits (scan_columns p t.columns)) (rows_scanned p (with_declared p t) ps) (flat_map (rows_scanned p (with_declared p t)) lists) (part-fits p t ps names grid fits (h 0 ps (omega arith)))
    (parts-fit p t lists names grid fits (λ k d lt. h (suc k) d (omega (arith, lt))))

abbrev answer_of : List Column → List (List Value) → Grid
answer_of cs rows = record { columns = cs; lines = rows }

named-as : (p : ScanPlan) (t none : Grid) (cs : List Column) → none ≡ record { columns = scan_columns p t.columns; lines = [] } → cs ≡ none.columns → cs ≡ scan_columns p t.columns
named-as p t none cs is named = named ∙ ap (λ (g : Grid). g.columns) is

pub keyed-fits : (p : ScanPlan) (t u none : Grid) (cs : List Column) (rows : List (List Value)) (lists : List (List ℕ)) (from to : ℕ) → HasDistinctNames column_name t.columns → IsGrid t → scan_answers p t.columns ≡ true → u ≡ with_declared p t → All (All (λ i. i < length t.lines)) lists → none ≡ record { columns = scan_columns p t.columns; lines = [] } → cs ≡ none.columns → rows ≡ scans_of p u (slice_range lists from to) → IsGrid (record { columns = cs; lines = rows })
unfolding scans_of
keyed-fits p t u none cs rows lists from to names grid fits extended within is named made =
    let inside = All (λ i. i < length t.lines) in
    let some : All inside (slice_range lists from to) = All-take inside (to - from) (drop from lists) (All-drop inside from lists within) in
    subst (λ (ds : List Column). All (RowFits ds) rows) (sym (named-as p t none cs is named))
    (subst (All (RowFits (scan_columns p t.columns))) (sym (made ∙ ap (λ (g : Grid). flat_map (rows_scanned p g) (slice_range lists from to)) extended)) (parts-fit p t (slice_range lists from to) names grid fits some))

pub keyed-table : (p : ScanPlan) (t u none r : Grid) (cs : List Column) (rows : List (List Value)) (lists : List (List ℕ)) → none ≡ record { columns = scan_columns p t.columns; lines = [] } → cs ≡ none.columns → rows ≡ scans_of p u lists → r ≡ record { columns = cs; lines = rows } → r ≡ record { columns = scan_columns p t.columns; lines = scans_of p u lists }
keyed-table p t u none r cs rows lists is named made e = e ∙ ap₂ answer_of (named-as p t none cs is named) made

pub no-rows : (p : ScanPlan) (t none : Grid) (rows : List (List Value)) → none ≡ record { columns = scan_columns p t.columns; lines = [] } → rows ≡ none.lines → rows ≡ []
no-rows p t none rows is e = e ∙ ap (λ (g : Grid). g.lines) is

-- The lists lie within the table that has the declared columns too.

declared-length : (p : ScanPlan) (t : Grid) → length (with_declared p t).lines ≡ length t.lines
unfolding with_declared
declared-length p t = length-map t.lines (λ line. line ++ declared_defaults p)

pub lists-extended : (p : ScanPlan) (t u : Grid) (lists : List (List ℕ)) → u ≡ with_declared p t → All (All (λ i. i < length t.lines)) lists → All (All (λ i. i < length u.lines)) lists
lists-extended p t u lists extended h =
    let same : length t.lines ≡ length u.lines = sym (ap (λ (g : Grid). length g.lines) extended ∙ declared-length p t) in
    subst (λ n. All (All (λ i. i < n)) lists) same h

pub list-within : (n k : ℕ) (lists : List (List ℕ)) (ps : List ℕ) → All (All (λ i. i < n)) lists → k < length lists → ps ≡ get_or lists k [] → All (λ i. i < n) ps
list-within n k lists ps h lt is = subst (All (λ i. i < n)) (sym is) (h k [] lt)

-- One list of rows after another.

pub none-between : (lists : List (List ℕ)) (k : ℕ) → slice_range lists k k ≡ []
none-between lists k = let none : k - k ≡ 0 = omega arith in ap (λ n. take n (drop k lists)) none

pub more-between : (lists : List (List ℕ)) (from k : ℕ) → from ≤ k → k < length lists → slice_range lists from (k + 1) ≡ slice_range lists from k ++ get_or lists k [] ∷ []
more-between lists from k order lt =
    let count : k + 1 - from ≡ (k - from) + 1 = omega (arith, order) in
    let place : from + (k - from) ≡ k = omega (arith, order) in
    let long = length-drop from lists in
    ap (λ n. take n (drop from lists)) count
    ∙ (take_more (drop from lists) (k - from) [] (omega (arith, long, order, lt))
    ∙ ap (λ (ps : List ℕ). slice_range lists from k ++ ps ∷ []) (get_or-drop from lists (k - from) [] ∙ ap (λ (i : ℕ). get_or lists i []) place))

all-between : (lists : List (List ℕ)) (count : ℕ) → count ≡ length lists → slice_range lists 0 count ≡ lists
all-between lists count is = take_all (count - 0) (drop 0 lists) (omega (arith, is))

pub scans-start : (p : ScanPlan) (t : Grid) (lists : List (List ℕ)) (from : ℕ) (rows : List (List Value)) → rows ≡ [] → rows ≡ scans_of p t (slice_range lists from from)
unfolding scans_of
scans-start p t lists from rows e = e ∙ sym (ap (flat_map (rows_scanned p t)) (none-between lists from))

pub scans-more : (p : ScanPlan) (t : Grid) (lists : List (List ℕ)) (from k : ℕ) (ps : List ℕ) (old new : List (List Value)) → from ≤ k → k < length lists → ps ≡ get_or lists k [] → old ≡ scans_of p t (slice_range lists from k) → new ≡ old ++ rows_scanned p t ps → new ≡ scans_of p t (slice_range lists from (k + 1))
unfolding scans_of
scans-more p t lists from k ps old new order lt is before e =
    let f = rows_scanned p t in
    let so_far = slice_range lists from k in
    e ∙ (ap (λ (rows : List (List Value)). rows ++ f ps) before
    ∙ (ap (λ (qs : List ℕ). flat_map f so_far ++ f qs) is
    ∙ (ap (λ (rows : List (List Value)). flat_map f so_far ++ rows) (sym (append-nil (f (get_or lists k []))))
    ∙ (sym (flat_map-append f so_far (get_or lists k [] ∷ [])) ∙ ap (flat_map f) (sym (more-between lists from k order lt))))))

pub scans-end : (p : ScanPlan) (t : Grid) (lists : List (List ℕ)) (from to k : ℕ) (rows : List (List Value)) → k ≡ to → rows ≡ scans_of p t (slice_range lists from k) → rows ≡ scans_of p t (slice_range lists from to)
scans-end p t lists from to k rows is e = e ∙ ap (λ (n : ℕ). scans_of p t (slice_range lists from n)) is

pub whole-answer : (p : ScanPlan) (t u r : Grid) (lists : List (List ℕ)) (count : ℕ) → count ≡ length lists → r ≡ record { columns = scan_columns p t.columns; lines = scans_of p u (slice_range lists 0 count) } → r ≡ record { columns = scan_columns p t.columns; lines = scans_of p u lists }
whole-answer p t u r lists count is e = e ∙ ap (λ (ls : List (List ℕ)). record { columns = scan_columns p t.columns; lines = scans_of p u ls }) (all-between lists count is)

pub ruleset all_facts = (whole-answer)

pub ruleset keyed_facts = (declared-differ, declared-fit, bare-declared, keyed-made, keyed-plain)

pub ruleset answer_facts = (scan-scalar, keyed-fits, keyed-table, no-rows, lists-extended)

pub ruleset list_facts = (list-within, scans-more)

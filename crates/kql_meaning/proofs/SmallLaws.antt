-- Laws of tables without rows, and of one key.
use Rattle.std.proofs.Common.{◌≡◌, ◌<◌, ◌-◌, ℕ, zero, suc, true, List, [], ◌∷◌, map, length, refl, ap, ap₂, ◌∙◌, arith, append-nil}
use Rattle.std.specs.Prelude.{Option, Some, None, slice_index_or, replicate, slice_get}
use Rattle.std.specs.List.{range_with_len}
use Rattle.std.proofs.lemmas.List.{length-map}
use Rattle.kql_cells.specs.Table.{Grid, gathered}
use Rattle.kql_cells.specs.declared.value.Value.{Value}
use Rattle.kql_bound.specs.declared.parts.ScanPlan.{ScanPlan}
use Rattle.kql_bound.specs.declared.parts.ScanStep.{ScanStep}
use Rattle.kql_meaning.specs.Groups.{distinct_keys, group_of, key_by}
use Rattle.kql_meaning.specs.Laws.{NoGroupWithoutRows, OneRowWithoutKeys, PartitionOfNoRows, PartitionOfOneKey, PartitionRowsOfOneKey, RowForEachKey, ScanOfNoRows, first_places}
use Rattle.kql_meaning.specs.Partition.{key_in_column, partition_table}
use Rattle.kql_meaning.specs.Scan.{Held, all_rows, emitted_if_last, held_rows, machine_at_start, rows_at_end, scan_rows, scan_table, state_of, with_declared}
use Rattle.kql_meaning.specs.Summarize.{group_row, group_rows, summarize_table}
use Rattle.kql_meaning.specs.Tables.{cell, distinct_by, emptied, places, places_below}
use Rattle.kql_meaning.specs.Values.{same_keys}
use Rattle.kql_meaning.proofs.GroupLaws.{keys_by_first_row}
use Rattle.kql_cells.specs.Keys.{same_keys-refl}
use Rattle.kql_meaning.proofs.ListLaws.{distinct-one, every-map-range, every-range, filter-all, flat_map-nothing, gathered-all}

pub one_row_without_keys : OneRowWithoutKeys
unfolding summarize_table group_rows
one_row_without_keys items t = refl

pub no_group_without_rows : NoGroupWithoutRows
unfolding summarize_table group_rows distinct_keys places places_below distinct_by
no_group_without_rows key keys items columns = refl

no_state : Option Held
no_state = None

none-at : (n i : ℕ) → slice_index_or (replicate n no_state) i no_state ≡ no_state
none-at zero i = refl
none-at (suc n) zero = refl
none-at (suc n) (suc i) = none-at n i

of_none : (p : ScanPlan) (k : ℕ) (s : Option ScanStep) → emitted_if_last p k s None ≡ []
unfolding emitted_if_last
of_none p k None = refl
of_none p k (Some s) = refl

nothing_held : (p : ScanPlan) (k : ℕ) → held_rows p k (state_of (machine_at_start p) k) ≡ []
unfolding held_rows state_of machine_at_start no_state
nothing_held p k = rw (none-at (length p.steps) (k - 1)) (of_none p k (slice_get p.steps (k - 1)))

pub scan_of_no_rows : ScanOfNoRows
unfolding scan_table scan_rows with_declared all_rows places places_below rows_at_end
scan_of_no_rows p columns = flat_map-nothing (λ k. held_rows p k (state_of (machine_at_start p) k)) (range_with_len 1 (length p.steps)) (nothing_held p)

pub partition_of_no_rows : PartitionOfNoRows
unfolding partition_table distinct_keys places places_below distinct_by
partition_of_no_rows c subquery columns = refl

-- The keys of rows that all have one value are one key.
one-key : (key : ℕ → List Value) (t : Grid) (k : List Value) → 0 < length t.lines → ((i : ℕ) → i < length t.lines → key i ≡ k) → distinct_keys key t ≡ k ∷ []
unfolding distinct_keys places places_below
one-key key t k some same = several (length t.lines) some (λ i low. same i low)
  where
    several : (n : ℕ) → 0 < n → ((i : ℕ) → i < n → key i ≡ k) → distinct_by same_keys (map key (range_with_len 0 n)) ≡ k ∷ []
    several zero some same = absurd (omega arith)
    several (suc n) some same = rw (same 0 (omega arith)) (distinct-one same_keys k (map key (range_with_len 1 n)) (every-map-range (λ y. same_keys k y ≡ true) key 1 n (λ i low high. rw (same i (omega arith)) (same_keys-refl k))))

-- The group of that key is the whole table.
whole-group : (key : ℕ → List Value) (t : Grid) (k : List Value) → ((i : ℕ) → i < length t.lines → key i ≡ k) → group_of key t k ≡ t
unfolding group_of places places_below
whole-group key t k same =
    ap (λ ps. gathered t ps) (filter-all (λ i. same_keys (key i) k) (range_with_len 0 (length t.lines)) (every-range (λ i. same_keys (key i) k ≡ true) 0 (length t.lines) (λ i low high. rw (same i (omega arith)) (same_keys-refl k)))) ∙ gathered-all t

pub partition_rows_of_one_key : PartitionRowsOfOneKey
unfolding partition_table key_in_column
partition_rows_of_one_key c subquery t v some same =
    let key = λ (i : ℕ). cell t i c ∷ [] in
    let all : (i : ℕ) → i < length t.lines → key i ≡ v ∷ [] = λ i low. ap (λ x. x ∷ []) (same i low) in
    rw (one-key key t (v ∷ []) some all, whole-group key t (v ∷ []) all) (append-nil (subquery t).lines)

pub partition_of_one_key : PartitionOfOneKey
unfolding partition_table emptied
partition_of_one_key c subquery t v some same steady =
    ap₂ (λ columns lines. record { columns = columns; lines = lines }) (steady (emptied t) t refl) (partition_rows_of_one_key c subquery t v some same)

pub row_for_each_key : RowForEachKey
unfolding summarize_table group_rows
row_for_each_key key keys items t =
    let all = key ∷ keys in
    let by = key_by all t in
    length-map (distinct_keys by t) (group_row all items t) ∙ (ap (λ (ks : List (List Value)). length ks) (keys_by_first_row by t) ∙ length-map (first_places by t) by)

pub ruleset small_laws = (one_row_without_keys, no_group_without_rows, row_for_each_key, scan_of_no_rows, partition_of_no_rows, partition_rows_of_one_key, partition_of_one_key)

-- What the definitions keep, in words of rows, places and orders.
use Rattle.std.specs.Prelude.{◌≡◌, ◌≢◌, ◌<◌, ◌≤◌, ◌↔◌, ◌⊎◌, Bool, not, ℕ, List, [], ◌∷◌, ◌++◌, slice_range, map, length, filter, IsTrue, IsFalse, Contains, None, Some, AllPairs, IsPermutation, if◌then◌else◌}
use Rattle.std.specs.Cmp.Lexicographic.{slice_cmp}
use Rattle.std.specs.List.{flat_map}
use Rattle.std.specs.Ordering.{is_le, nat_cmp}
use Rattle.std.specs.declared.cmp.Ordering.{Ordering}
use Rattle.std.specs.declared.cmp.Ordering.TheVariants.{Less, Equal, Greater}
use Rattle.kql_cells.specs.Ordered.{value_cmp}
use Rattle.kql_cells.specs.Table.{Grid, gathered}
use Rattle.kql_cells.specs.declared.schema.Column.{Column}
use Rattle.kql_cells.specs.declared.value.Value.{Value}
use Rattle.kql_cells.specs.declared.value.Value.TheVariants as value
use Rattle.kql_bound.specs.declared.parts.BItem.{BItem}
use Rattle.kql_bound.specs.declared.parts.BKey.{BKey}
use Rattle.kql_bound.specs.declared.parts.JoinPlan.{JoinPlan}
use Rattle.kql_bound.specs.declared.parts.JoinKind.TheVariants as join
use Rattle.kql_bound.specs.declared.parts.OnPair.{OnPair}
use Rattle.kql_bound.specs.declared.parts.PatItem.{PatItem}
use Rattle.kql_bound.specs.declared.parts.ScanPlan.{ScanPlan}
use Rattle.kql_meaning.specs.Cuts.{cut, is_cut}
use Rattle.kql_meaning.specs.Expressions.{val}
use Rattle.kql_meaning.specs.Groups.{is_first_of_key, key_by}
use Rattle.kql_meaning.specs.Join.{both_rows, has_left, has_right, inner_rows, join_rows, keys_match, left_alone, left_key, left_outer_rows, matches_right, rows_match}
use Rattle.kql_meaning.specs.Partition.{partition_table}
use Rattle.kql_meaning.specs.Scan.{scan_table}
use Rattle.kql_meaning.specs.Sort.{key_cmp, keys_cmp, pair_cmp, sort_table, sorted_places, top_table}
use Rattle.kql_meaning.specs.Summarize.{summarize_table}
use Rattle.kql_meaning.specs.Tables.{cell, places}
use Rattle.kql_meaning.specs.TakeAndCount.{take_table}

-- A table without rows.
abbrev pub no_rows : List Column → Grid
no_rows columns = record { columns = columns; lines = [] }

-- The places of the first row of each key.
abbrev pub first_places : (ℕ → List Value) → Grid → List ℕ
first_places key t = filter (is_first_of_key key) (places t)

-- Sort.

-- Each row stands in the sorted table, as often as before.
abbrev pub SortRearranges : Type 0
SortRearranges = (keys : List BKey) (t : Grid) → IsPermutation (places t) (sorted_places keys t)

-- The pairs (keys, place) rise.
abbrev pub PairsRise : List BKey → Grid → List ℕ → Type 0
PairsRise keys t ps = AllPairs (λ i j. pair_cmp keys t i j ≡ Less) ps

abbrev pub SortOrders : Type 0
SortOrders = (keys : List BKey) (t : Grid) → PairsRise keys t (sorted_places keys t)

-- Rows of the same keys keep their order.
abbrev pub SortIsStable : Type 0
SortIsStable = (keys : List BKey) (t : Grid) → AllPairs (λ i j. keys_cmp keys t i j ≡ Equal → i < j) (sorted_places keys t)

-- There is one such rearrangement.
abbrev pub SortIsTheOne : Type 0
SortIsTheOne = (keys : List BKey) (t : Grid) (ps : List ℕ) → IsPermutation (places t) ps → PairsRise keys t ps → ps ≡ sorted_places keys t

-- Nulls stand at their end of the other values.
abbrev pub NullsAtTheirEnd : Type 0
NullsAtTheirEnd = (k : BKey) (v : Value) → v ≢ value.Null → key_cmp k value.Null v ≡ (if k.nulls_first then Less else Greater)

-- The other values rise, or fall where the key is descending.
abbrev pub KeysInDirection : Type 0
KeysInDirection = (k : BKey) (v w : Value) → v ≢ value.Null → w ≢ value.Null → key_cmp k v w ≡ (if k.asc then value_cmp v w else value_cmp w v)

-- The first key that tells two rows apart decides, and rows that no key tells apart are equal.
abbrev pub FirstKeyDecides : Type 0
FirstKeyDecides = (k : BKey) (ks : List BKey) (t : Grid) (i j : ℕ) (o : Ordering) → key_cmp k (val k.expr t i []) (val k.expr t j []) ≡ o → (o ≢ Equal → keys_cmp (k ∷ ks) t i j ≡ o) × (o ≡ Equal → keys_cmp (k ∷ ks) t i j ≡ keys_cmp ks t i j)

-- `top n by` is `sort by` and then `take n`.
abbrev pub TopIsFirstOfSorted : Type 0
TopIsFirstOfSorted = (n : ℕ) (keys : List BKey) (t : Grid) → top_table n keys t ≡ take_table n (sort_table keys t)

-- Summarize.

abbrev pub OneRowWithoutKeys : Type 0
OneRowWithoutKeys = (items : List BItem) (t : Grid) → length (summarize_table (record { items = items; keys = [] }) t).lines ≡ 1

abbrev pub NoGroupWithoutRows : Type 0
NoGroupWithoutRows = (key : BItem) (keys items : List BItem) (columns : List Column) → (summarize_table (record { items = items; keys = key ∷ keys }) (no_rows columns)).lines ≡ []

-- By keys it gives one row for each first row of a key.
abbrev pub RowForEachKey : Type 0
RowForEachKey = (key : BItem) (keys items : List BItem) (t : Grid) → length (summarize_table (record { items = items; keys = key ∷ keys }) t).lines ≡ length (first_places (key_by (key ∷ keys) t) t)

-- Scan.

abbrev pub ScanOfNoRows : Type 0
ScanOfNoRows = (p : ScanPlan) (columns : List Column) → (scan_table p (no_rows columns)).lines ≡ []

-- Partition.

-- Where all rows have one value in the column, the rows of the partition are those of the subquery.
abbrev pub PartitionRowsOfOneKey : Type 0
PartitionRowsOfOneKey = (c : List ℕ) (subquery : Grid → Grid) (t : Grid) (v : Value) → 0 < length t.lines → ((i : ℕ) → i < length t.lines → cell t i c ≡ v) → (partition_table c subquery t).lines ≡ (subquery t).lines

-- And where the columns of the subquery come from those of its table alone, the partition is the subquery.
abbrev pub PartitionOfOneKey : Type 0
PartitionOfOneKey = (c : List ℕ) (subquery : Grid → Grid) (t : Grid) (v : Value) → 0 < length t.lines → ((i : ℕ) → i < length t.lines → cell t i c ≡ v) → ((u w : Grid) → u.columns ≡ w.columns → (subquery u).columns ≡ (subquery w).columns) → partition_table c subquery t ≡ subquery t

abbrev pub PartitionOfNoRows : Type 0
PartitionOfNoRows = (c : List ℕ) (subquery : Grid → Grid) (columns : List Column) → (partition_table c subquery (no_rows columns)).lines ≡ []

-- Cuts.

-- The cut that is taken is a cut, and no cut is less than it.
abbrev pub LeastCutIsLeast : Type 0
LeastCutIsLeast = (relaxed : Bool) (pattern : List PatItem) (t ends : List ℕ) → cut relaxed pattern t ≡ Some ends → IsTrue (is_cut relaxed pattern t ends) × ((others : List ℕ) → IsTrue (is_cut relaxed pattern t others) → IsTrue (is_le (slice_cmp nat_cmp ends others)))

-- Where none is taken there is none.
abbrev pub NoCutWhereNone : Type 0
NoCutWhereNone = (relaxed : Bool) (pattern : List PatItem) (t others : List ℕ) → cut relaxed pattern t ≡ None → IsFalse (is_cut relaxed pattern t others)

-- The pieces of a text from a place on, by their ends.
abbrev pub pieces : List ℕ → ℕ → List ℕ → List (List ℕ)
pieces t start [] = []
pieces t start (end ∷ ends) = slice_range t start end ∷ pieces t end ends

-- A cut has a piece for each item of the pattern, and one after another they are the text.
abbrev pub PiecesAreTheText : Type 0
PiecesAreTheText = (relaxed : Bool) (pattern : List PatItem) (t ends : List ℕ) → IsTrue (is_cut relaxed pattern t ends) → (length (pieces t 0 ends) ≡ length pattern) × (flat_map (λ piece. piece) (pieces t 0 ends) ≡ t)

-- Join.

-- The pairs of an inner join: for each left row its matches.
abbrev pub inner_pairs : List OnPair → Grid → Grid → List (ℕ × ℕ)
inner_pairs on a b = flat_map (λ i. map (λ j. (i, j)) (matches_right on a b i)) (places a)

-- The rows of an inner join are those of its pairs.
abbrev pub InnerIsOfPairs : Type 0
InnerIsOfPairs = (j : JoinPlan) (a b : Grid) → inner_rows j a b ≡ map (λ (p : ℕ × ℕ). both_rows j a b p.0 p.1) (inner_pairs j.on a b)

-- A pair stands there exactly where it matches.
abbrev pub PairsMatch : Type 0
PairsMatch = (on : List OnPair) (a b : Grid) (i j : ℕ) → Contains (inner_pairs on a b) (i, j) ↔ ((i < length a.lines) × (j < length b.lines) × IsTrue (rows_match on a b i j))

-- Two values match as keys where they are identical and not null.
abbrev pub KeysMatch : Type 0
KeysMatch = (v w : Value) → IsTrue (keys_match v w) ↔ ((v ≡ w) × (v ≢ value.Null))

-- Two rows match where all pairs of keys do.
abbrev pub AllKeysMatch : Type 0
AllKeysMatch = (on : List OnPair) (a b : Grid) (i j : ℕ) → IsTrue (rows_match on a b i j) ↔ ((pair : OnPair) → Contains on pair → IsTrue (keys_match (cell a i pair.left) (cell b j pair.right)))

-- A row has a match where there is a row on the other side that it matches.
abbrev pub LeftHasMatch : Type 0
LeftHasMatch = (on : List OnPair) (a b : Grid) (i : ℕ) → IsTrue (has_right on a b i) ↔ ((j : ℕ) × (j < length b.lines) × IsTrue (rows_match on a b i j))

abbrev pub RightHasMatch : Type 0
RightHasMatch = (on : List OnPair) (a b : Grid) (j : ℕ) → IsTrue (has_left on a b j) ↔ ((i : ℕ) × (i < length a.lines) × IsTrue (rows_match on a b i j))

-- Pairs come in the order of the left row and then of the right one, so each stands there once.
abbrev pub PairComesBefore : ℕ × ℕ → ℕ × ℕ → Type 0
PairComesBefore p q = (p.0 < q.0) ⊎ ((p.0 ≡ q.0) × (p.1 < q.1))

abbrev pub PairsInOrder : Type 0
PairsInOrder = (on : List OnPair) (a b : Grid) → AllPairs PairComesBefore (inner_pairs on a b)

-- No two of them have one key.
abbrev pub FirstsDiffer : Type 0
FirstsDiffer = (key : ℕ → List Value) (t : Grid) → AllPairs (λ i j. key i ≢ key j) (first_places key t)

-- Each row has the key of one of them, which does not come after it.
abbrev pub EachHasItsFirst : Type 0
EachHasItsFirst = (key : ℕ → List Value) (t : Grid) (i : ℕ) → i < length t.lines → (j : ℕ) × Contains (first_places key t) j × (j ≤ i) × (key j ≡ key i)

-- A join of kind leftouter has the rows of the inner join, and for each left row without a match one more.
abbrev pub LeftOuterIsInnerAndMore : Type 0
LeftOuterIsInnerAndMore = (j : JoinPlan) (a b : Grid) → IsPermutation (inner_rows j a b ++ map (left_alone j a b) (filter (λ i. not (has_right j.on a b i)) (places a))) (left_outer_rows j a b)

-- A join of kind innerunique is an inner join over the first left row of each key.
abbrev pub InnerUniqueIsInner : Type 0
InnerUniqueIsInner = (j : JoinPlan) (a b : Grid) → join_rows join.InnerUnique j a b ≡ inner_rows j (gathered a (first_places (left_key j.on a) a)) b

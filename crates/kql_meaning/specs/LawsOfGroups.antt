-- The keys of groups, and where a run of `row_cumsum` begins.
use Rattle.std.specs.Prelude.{◌≡◌, ◌≢◌, ◌<◌, ◌≤◌, ◌↔◌, ℕ, List, filter, length, map, IsTrue, IsFalse, AllPairs, Contains, Bool}
use Rattle.kql_cells.specs.Table.{Grid, gathered}
use Rattle.kql_cells.specs.declared.value.Value.{Value}
use Rattle.kql_meaning.specs.Groups.{distinct_keys, group_of}
use Rattle.kql_meaning.specs.Laws.{first_places}
use Rattle.kql_meaning.specs.Tables.{places}
use Rattle.kql_meaning.specs.Values.{same_keys}
use Rattle.kql_meaning.specs.Windows.{last_where}

-- No two keys of a table's groups are the same.
abbrev pub KeysDiffer : Type 0
KeysDiffer = (key : ℕ → List Value) (t : Grid) → AllPairs (λ k l. k ≢ l) (distinct_keys key t)

-- Each row's key is one of them, and each of them is a row's key.
abbrev pub KeysAreOfRows : Type 0
KeysAreOfRows = (key : ℕ → List Value) (t : Grid) → ((i : ℕ) → i < length t.lines → Contains (distinct_keys key t) (key i)) × ((k : List Value) → Contains (distinct_keys key t) k → (i : ℕ) × (i < length t.lines) × (key i ≡ k))

-- They come in the order of the first row of each.
abbrev pub KeysByFirstRow : Type 0
KeysByFirstRow = (key : ℕ → List Value) (t : Grid) → distinct_keys key t ≡ map key (first_places key t)

-- The places of the rows of a key.
abbrev pub group_places : (ℕ → List Value) → Grid → List Value → List ℕ
group_places key t k = filter (λ i. same_keys (key i) k) (places t)

-- The group of a key has the rows of the key, each once, in their order.
abbrev pub GroupIsOfPlaces : Type 0
GroupIsOfPlaces = (key : ℕ → List Value) (t : Grid) (k : List Value) → group_of key t k ≡ gathered t (group_places key t k)

abbrev pub GroupHasItsRows : Type 0
GroupHasItsRows = (key : ℕ → List Value) (t : Grid) (k : List Value) (i : ℕ) → Contains (group_places key t k) i ↔ ((i < length t.lines) × (key i ≡ k))

abbrev pub GroupKeepsOrder : Type 0
GroupKeepsOrder = (key : ℕ → List Value) (t : Grid) (k : List Value) → AllPairs (λ i j. i < j) (group_places key t k)

-- Each row stands in the group of one of the keys, and in that of no other.
abbrev pub RowInOneGroup : Type 0
RowInOneGroup = (key : ℕ → List Value) (t : Grid) (i : ℕ) → i < length t.lines → (k : List Value) × Contains (distinct_keys key t) k × Contains (group_places key t k) i × ((l : List Value) → Contains (group_places key t l) i → l ≡ k)

-- The row from which `row_cumsum` and `row_number` count: not after i, with nothing in between, and the first row or one that passes.
abbrev pub RunBegins : Type 0
RunBegins = (test : ℕ → Bool) (i : ℕ) → (last_where test i ≤ i) × ((j : ℕ) → last_where test i < j → j ≤ i → IsFalse (test j)) × (0 < last_where test i → IsTrue (test (last_where test i)))

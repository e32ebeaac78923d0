-- The names of the columns of a join.
use Rattle.std.specs.Prelude.{◌≡◌, ◌≢◌, ◌<◌, ◌+◌, ◌^◌, ◌⊎◌, ◌++◌, ℕ, List, decimal, length, map, AllPairs, IsFalse, IsTrue}
use Rattle.kql_cells.specs.declared.schema.Column.{Column}
use Rattle.kql_bound.specs.declared.parts.JoinPlan.{JoinPlan}
use Rattle.kql_meaning.specs.Join.{both_columns, free_name, renamed}
use Rattle.kql_meaning.specs.Tables.{is_name_among, names_of}

-- The name of a right column is not in the result yet.
abbrev pub NameIsFree : Type 0
NameIsFree = (taken : List (List ℕ)) (name : List ℕ) → length taken < 2 ^ 63 → IsFalse (is_name_among taken (free_name taken name))

-- It is its own, or, where that is taken, its own with a number from 1 at the end, where all smaller numbers are taken.
abbrev pub NameIsFirstFree : Type 0
NameIsFirstFree = (taken : List (List ℕ)) (name : List ℕ) → length taken < 2 ^ 63 → (IsFalse (is_name_among taken name) × (free_name taken name ≡ name)) ⊎ (IsTrue (is_name_among taken name) × ((n : ℕ) × (0 < n) × (free_name taken name ≡ name ++ decimal n) × ((m : ℕ) → 0 < m → m < n → IsTrue (is_name_among taken (name ++ decimal m)))))

-- No two columns of the result have one name, where no two of the left table have.
abbrev pub NamesDiffer : List Column → Type 0
NamesDiffer columns = AllPairs (λ m n. m ≢ n) (names_of columns)

abbrev pub BothNamesDiffer : Type 0
BothNamesDiffer = (j : JoinPlan) (left right : List Column) → NamesDiffer left → length left + length right < 2 ^ 63 → NamesDiffer (both_columns j left right)

-- The right columns keep their types.
abbrev pub RightKindsStay : Type 0
RightKindsStay = (taken : List (List ℕ)) (columns : List Column) → map (λ (c : Column). c.kind) (renamed taken columns) ≡ map (λ (c : Column). c.kind) columns

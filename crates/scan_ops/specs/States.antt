-- The states of steps.
use Rattle.std.specs.Prelude.{ℕ, ◌<◌, List, [], ◌∷◌, ◌++◌, Option, None, Some, IfSome, length, slice_index_or, take}
use Rattle.kql_cells.specs.declared.value.Value.{Value}
use Rattle.kql_meaning.specs.Readings.{Records}
use Rattle.kql_bound.specs.declared.parts.ScanPlan.{ScanPlan}
use Rattle.kql_meaning.specs.Scan.{Held, row_of_record}

-- What contracts see of a state: how many steps the scan has, and what is held.
pub record StateSeen : Type 0 where
  pub size : ℕ
  pub held : Option Held

-- The records that stand before the first step without one.
unfoldable pub present : Records → List (List Value)
present [] = []
present (None ∷ rs) = []
present (Some r ∷ rs) = r ∷ present rs

-- What is held where there is a match id, and nothing where there is none.
unfoldable pub held_of : Option ℕ → Records → Option Held
held_of None rs = None
held_of (Some id) rs = Some (record { records = present rs; id = id })

-- The match id of a state.
unfoldable pub id_in : Option Held → Option ℕ
id_in None = None
id_in (Some h) = Some h.id

-- A record of a state, from 0, where there is one for it.
abbrev pub IsHeld : ℕ → Option Held → Type 0
IsHeld at h = IfSome h (λ s. at < length s.records)

unfoldable pub record_in : ℕ → Option Held → Option (List Value)
record_in at None = None
record_in at (Some h) = Some (slice_index_or h.records at [])

-- A state with a record for a step behind those of the steps before it, and with the record that begins a sequence.
abbrev pub held_with : ℕ → List Value → Held → Held
held_with at row h = record { records = take at h.records ++ row ∷ []; id = h.id }

abbrev pub begun_with : ℕ → List Value → Held
begun_with id row = record { records = row ∷ []; id = id }

-- The row of a record of a state, where that is not empty.
unfoldable pub rows_held : ScanPlan → ℕ → Option Held → List (List Value)
rows_held p at None = []
rows_held p at (Some h) = row_of_record p (slice_index_or h.records at []) h.id ∷ []

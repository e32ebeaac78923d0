-- What a reader saw in a run.
use Rattle.std.specs.Prelude.{◌≡◌, ℕ, ◌+◌, ◌≤◌, List, [], ◌∷◌, ◌++◌, All, fold, length, take}
use Rattle.kql_cells.specs.Table.{Grid}
use Rattle.live_tables.specs.Growing.{with_rows}
use Rattle.live_run.specs.declared.watch.Seen.{Seen}

-- what a query answers over the opening table grown by the first batches
abbrev pub answer_after : (Grid → Grid) → Grid → List Grid → ℕ → Grid
answer_after answer opening batches k = answer (fold with_rows opening (take k batches))

-- what was seen once: so many batches, and the number of rows of the answer after them
pub record IsSight (answer : Grid → Grid) (opening : Grid) (batches : List Grid) (s : Seen) : Type 0 where
  pub within : s.batches ≤ length batches
  pub rows : s.rows ≡ length (answer_after answer opening batches s.batches).lines

-- the numbers of batches never fall: they begin at `low` or above, and end at `high` or below
abbrev pub Rises : ℕ → List Seen → ℕ → Type 0
Rises low [] high = low ≤ high
Rises low (s ∷ ss) high = (low ≤ s.batches) × Rises s.batches ss high

-- what a reader saw, from so many batches to so many
abbrev pub HasSeen : (Grid → Grid) → Grid → List Grid → ℕ → List Seen → ℕ → Type 0
HasSeen answer opening batches low seen high = Rises low seen high × All (IsSight answer opening batches) seen

-- what a reader saw in a whole run, where B batches were published: B + 1 sights beside the appender, and then one of all batches
pub record IsSeenList (answer : Grid → Grid) (opening : Grid) (batches : List Grid) (seen : List Seen) : Type 0 where
  pub sights : HasSeen answer opening batches 0 seen (length batches)
  pub count : length seen ≡ length batches + 2
  pub before : List Seen
  pub last : Seen
  pub ends : seen ≡ before ++ last ∷ []
  pub all : last.batches ≡ length batches

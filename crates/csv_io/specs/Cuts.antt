-- Fields and records of a text, by places.
use Rattle.std.specs.Prelude.{◌≡◌, ℕ, ◌<◌, ◌≤◌, ◌∷◌, false, List, [], drop, length, slice_index, slice_range}
use Rattle.csv.specs.Machine.{next_record}
use Rattle.csv.specs.Reading.{default_config, records}
use Rattle.csv.specs.declared.parser.State.TheVariants as st
use Rattle.csv_io.specs.Runs.{is_plain}

-- the records from a place on
abbrev pub records_at : List ℕ → ℕ → List (List (List ℕ))
records_at text at = records default_config (drop at text)

-- the field that begins at a place is the text from one place to another, and ends at a third, where a comma stands, the
-- end of the line, or no byte
pub record IsCut (text : List ℕ) (at from to end : ℕ) : Type 0 where
  pub ordered : from ≤ to
  pub within : to ≤ length text
  pub behind : at ≤ end
  pub last : end ≤ length text
  pub stops : end < length text → is_plain (slice_index text end) ≡ false
  pub reads : (fields : List (List ℕ)) → next_record default_config st.StartField fields [] (drop at text) ≡ next_record default_config st.InField fields (slice_range text from to) (drop end text)

-- the record that begins at a place has these fields, and the others come from a second place on
abbrev pub IsRecordAt : List ℕ → ℕ → List (List ℕ) → ℕ → Type 0
IsRecordAt text at fields end = (end ≤ length text) × (records_at text at ≡ fields ∷ records_at text end)

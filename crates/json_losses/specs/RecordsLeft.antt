-- The records that a reader has left.
use Rattle.std.specs.Prelude.{◌≡◌, ◌⊎◌, ◌+◌, ◌∷◌, ℕ, Bool, true, false, List, [], length, Option, Some, None, IsSome}
use Rattle.std.specs.Borrow.{Bor}
use Rattle.csv.specs.Reading.{default_config, has_failed, reader_config, reader_state, reader_trim, is_flexible, records_from, source_of, Ready}
use Rattle.csv.specs.declared.parser.State.{State}
use Rattle.csv.specs.declared.reader.Reader.{Reader}
use Rattle.csv.specs.declared.reader.Trim.TheVariants as trim

-- the records of what is known of the bytes left
abbrev pub left_of : State → Option (List ℕ) → List (List (List ℕ))
left_of s None = []
left_of s (Some xs) = records_from default_config (length xs + 1) s xs

-- the bytes that a slice has left
abbrev pub slice_rest : Bor (List ℕ) → Option (List ℕ)
slice_rest b = Some b.now

abbrev pub records_left : Reader (Bor (List ℕ)) → List (List (List ℕ))
records_left r = left_of (reader_state r) (source_of slice_rest r)

-- a reader of a slice that reads every record as it stands, or one that has failed
abbrev pub IsPlain : Reader (Bor (List ℕ)) → Type 0
IsPlain r = (has_failed r ≡ true) ⊎ ((reader_trim r ≡ trim.None) × Ready r × (reader_config r ≡ default_config) × (is_flexible r ≡ true) × IsSome (source_of slice_rest r))

-- what was read is the first of the records that were left
abbrev pub Gives : Bool → List (List (List ℕ)) → List (List ℕ) → List (List (List ℕ)) → Type 0
Gives true old fields new = old ≡ fields ∷ new
Gives false old fields new = old ≡ []

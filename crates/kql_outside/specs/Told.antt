-- Files, bytes and room that are told or not.
use Rattle.std.specs.Prelude.{◌≡◌, ℕ, ◌-◌, ◌<◌, ◌≤◌, List, ◌++◌, length, take, drop, find, Option}
use Rattle.std.specs.Option.{option_map}
use Rattle.std.specs.Str.{bytes_eq}

-- the bytes of the first file of a path
abbrev pub file_of : List (List ℕ × List ℕ) → List ℕ → Option (List ℕ)
file_of files path =
    option_map (λ (file : List ℕ × List ℕ). file.1) (find (λ (file : List ℕ × List ℕ). bytes_eq file.0 path) files)

-- with more bytes at the end, where the bytes are told
abbrev pub appended : Option (List ℕ) → List ℕ → Option (List ℕ)
appended told more = option_map (λ bytes. bytes ++ more) told

-- with bytes in front, where the rest is told
abbrev pub prepended : List ℕ → Option (List ℕ) → Option (List ℕ)
prepended bytes told = option_map (λ rest. bytes ++ rest) told

-- without the first bytes, where the bytes are told
abbrev pub dropped : ℕ → Option (List ℕ) → Option (List ℕ)
dropped count told = option_map (drop count) told

-- less room, where the room is told
abbrev pub reduced : Option ℕ → ℕ → Option ℕ
reduced told count = option_map (λ room. room - count) told

-- some of the text was added, and not all of it
pub record IsCutShort (before now : Option (List ℕ)) (text : List ℕ) : Type 0 where
  pub count : ℕ
  pub shorter : count < length text
  pub added : now ≡ appended before (take count text)

-- some of the rest was read, and at most so many bytes
pub record IsPartRead (before now : Option (List ℕ)) (most : ℕ) : Type 0 where
  pub count : ℕ
  pub within : count ≤ most
  pub left : now ≡ dropped count before

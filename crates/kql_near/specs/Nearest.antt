-- The nearest of some names.
use Rattle.std.specs.Prelude.{ℕ, List, map, ◌≤◌, ◌<◌, ◌/◌, length, All, Contains, slice_index, nat_le, if◌then◌else◌}
use Rattle.std.specs.Borrow.{Bor}
use Rattle.std.specs.List.{AllWithin}
use Rattle.std.specs.Char.{to_ascii_lowercase}
use Rattle.std.specs.Str.{chars}
use Rattle.strsim.specs.Edits.{osa_table}

-- how many edits lead from a text to another, by characters and without regard to the case of ASCII letters: a character put in, left out
-- or changed, or two neighbours that change places
abbrev pub edits : List ℕ → List ℕ → ℕ
edits a b = let ys = chars (map to_ascii_lowercase b) in (osa_table (chars (map to_ascii_lowercase a)) ys).last_row (length ys)

-- how many edits are few for a word of so many characters
abbrev pub few_of : ℕ → ℕ
few_of n = if nat_le n 1 then 0 else (if nat_le n 5 then 1 else n / 3)

-- how many edits are few for a word
abbrev pub few : List ℕ → ℕ
few word = few_of (length (chars word))

-- the first of the least of some numbers stands at this place
pub record IsFirstLeast (xs : List ℕ) (at : ℕ) : Type 0 where
  pub there : at < length xs
  pub least : All (λ x. slice_index xs at ≤ x) xs
  pub first : AllWithin (λ x. slice_index xs at < x) xs 0 at

-- the texts of some names
abbrev pub texts : List (Bor (List ℕ)) → List (List ℕ)
texts names = map (λ n. n.now) names

-- a name is one of these, none of them is nearer to a word, and few edits lead to it
pub record IsNearest (word : List ℕ) (names : List (List ℕ)) (name : List ℕ) : Type 0 where
  pub among : Contains names name
  pub least : All (λ n. edits word name ≤ edits word n) names
  pub few_edits : edits word name ≤ few word

-- to each of these names more than a few edits lead
abbrev pub NoneIsNear : List ℕ → List (List ℕ) → Type 0
NoneIsNear word names = All (λ n. few word < edits word n) names

-- Places of characters, from 0.
use Rattle.std.specs.Prelude.{◌≡◌, ◌≤◌, ◌-◌, ℕ, suc, ℤ, pos, negsuc, List, ◌++◌, length, take, drop}
use Rattle.kql_texts.specs.Stands.{Holds}

-- ys stands in xs from place k on
abbrev pub StandsAt : List ℕ → List ℕ → ℕ → Type 0
StandsAt xs ys k = (before : List ℕ) × (after : List ℕ) × (xs ≡ before ++ (ys ++ after)) × (length before ≡ k)

-- ys stands in xs from place k on, and from no earlier one
pub record IsFirstPlace (xs ys : List ℕ) (k : ℕ) : Type 0 where
  pub stands : StandsAt xs ys k
  pub earliest : (j : ℕ) → StandsAt xs ys j → k ≤ j

-- the first place of ys in xs, or -1 where it stands at none
abbrev pub IsIndexOf : List ℕ → List ℕ → ℤ → Type 0
IsIndexOf xs ys (pos k) = IsFirstPlace xs ys k
IsIndexOf xs ys (negsuc n) = (n ≡ 0) × ¬ (Holds xs ys)

-- a place as it is given: a negative one counts from the end, and is 0 where that is before the beginning
abbrev pub place_in : ℕ → ℤ → ℕ
place_in size (pos k) = k
place_in size (negsuc k) = size - suc k

-- a number, or 0 for a negative one
abbrev pub or_zero : ℤ → ℕ
or_zero (pos n) = n
or_zero (negsuc n) = 0

-- as many characters from a place on
abbrev pub sub_list : List ℕ → ℤ → ℤ → List ℕ
sub_list xs start count = take (or_zero count) (drop (place_in (length xs) start) xs)

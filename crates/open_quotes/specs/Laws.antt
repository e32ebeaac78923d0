-- That a file has one open quote at most, and that all behind it is one cell.
use Rattle.std.specs.Prelude.{◌≡◌, ◌==◌, ◌+◌, ◌++◌, ◌∷◌, ℕ, Bool, true, false, List, [], drop, length, if◌then◌else◌}
use Rattle.csv.specs.Reading.{default_config, records}
use Rattle.open_quotes.specs.Quotes.{EndsInside, IsOpened, OpensIn}

abbrev pub OneLine : Type 0
OneLine = (text : List ℕ) (a b : ℕ) → OpensIn text a → OpensIn text b → a ≡ b

-- what stands behind a quote as the cell has it: of two quotes side by side one; true is behind the first of two
unfoldable pub unquoted : Bool → List ℕ → List ℕ
unquoted b [] = []
unquoted true (c ∷ rest) = c ∷ unquoted false rest
unquoted false (c ∷ rest) = if c == 34 then unquoted true rest else c ∷ unquoted false rest

-- the last field of the last of these records
pub record EndsIn (rows : List (List (List ℕ))) (cell : List ℕ) : Type 0 where
  pub before : List (List (List ℕ))
  pub fields : List (List ℕ)
  pub is : rows ≡ before ++ ((fields ++ (cell ∷ [])) ∷ [])

-- of a text that ends inside quotes all behind the open one is the last field of the last record
abbrev pub OneCell : Type 0
OneCell = (text : List ℕ) (k : ℕ) → IsOpened text k (length text) → EndsInside text → EndsIn (records default_config text) (unquoted false (drop (k + 1) text))

-- Which quote of a file is open at its end.
use Rattle.std.specs.Prelude.{◌≡◌, ◌<◌, ◌≤◌, ◌+◌, ◌==◌, ℕ, Bool, true, false, List, [], ◌∷◌, length, take, get_or}
use Rattle.std.specs.List.{count_by}
use Rattle.csv.specs.Machine.{line_feed, step}
use Rattle.csv.specs.Reading.{default_config}
use Rattle.csv.specs.declared.parser.State.{State}
use Rattle.csv.specs.declared.parser.State.TheVariants as st

-- the state of the machine of `csv` behind a text
unfoldable pub state_behind : State → List ℕ → State
state_behind s [] = s
state_behind s (c ∷ rest) = state_behind (step default_config s c).0 rest

-- its state in a file before the byte at a place
abbrev pub state_at : List ℕ → ℕ → State
state_at text i = state_behind st.StartRecord (take i text)

-- whether it is in a cell of quotes, or behind a quote that may end that
abbrev pub is_quoted : State → Bool
is_quoted st.InQuoted = true
is_quoted st.AfterQuote = true
is_quoted st.InEscape = true
is_quoted st.StartRecord = false
is_quoted st.StartField = false
is_quoted st.InField = false
is_quoted st.InComment = false
is_quoted st.AfterCr = false

-- the byte at k is a quote that begins a cell, which the text up to i does not leave
pub record IsOpened (text : List ℕ) (k i : ℕ) : Type 0 where
  pub quote : get_or text k 0 ≡ default_config.quote
  pub before : k < i
  pub outside : is_quoted (state_at text k) ≡ false
  pub inside : (j : ℕ) → k < j → j ≤ i → is_quoted (state_at text j) ≡ true

-- the text ends inside quotes
abbrev pub EndsInside : List ℕ → Type 0
EndsInside text = state_at text (length text) ≡ st.InQuoted

-- the line of the byte at a place, from 1
abbrev pub line_of : List ℕ → ℕ → ℕ
line_of text k = count_by (λ c. c == line_feed) (take k text) + 1

-- the text ends inside quotes, and the quote that opened them stands in this line
pub record OpensIn (text : List ℕ) (line : ℕ) : Type 0 where
  pub ends : EndsInside text
  pub place : ℕ
  pub opened : IsOpened text place (length text)
  pub is : line ≡ line_of text place

-- Where in a record a reader stands, by the state of the machine of `csv`.
use Rattle.std.specs.Prelude.{ℕ, Option, Some, None}
use Rattle.csv.specs.declared.parser.State.{State}
use Rattle.csv.specs.declared.parser.State.TheVariants as st
use Rattle.open_quotes.specs.declared.place.Place.{Place}
use Rattle.open_quotes.specs.declared.place.Place.TheVariants as at

-- none of the two states that a file without escapes and comments does not reach
abbrev pub place_of : State → Option Place
place_of st.StartRecord = Some at.Start
place_of st.StartField = Some at.Start
place_of st.AfterCr = Some at.Start
place_of st.InField = Some at.Bare
place_of st.InQuoted = Some at.Quoted
place_of st.AfterQuote = Some at.Behind
place_of st.InEscape = None
place_of st.InComment = None

-- the place of the quote that a cell began with, behind the byte at i: that byte's where it begins one
abbrev pub opening : Place → Place → ℕ → ℕ → ℕ
opening at.Start at.Quoted i k = i
opening at.Start at.Start i k = k
opening at.Start at.Bare i k = k
opening at.Start at.Behind i k = k
opening at.Bare next i k = k
opening at.Quoted next i k = k
opening at.Behind next i k = k

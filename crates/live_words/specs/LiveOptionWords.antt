-- The options of `live`, which stand in front of QUERY: `--readers R`, `--now T`, `--watch` and `--view`, in any order, each at most once.
use Rattle.std.specs.Prelude.{ℕ, ℤ, pos, negsuc, ◌+◌, ◌&&◌, nat_le, Bool, true, false, List, [], ◌∷◌, Option, Some, None, Ok, Err, codes, if◌then◌else◌}
use Rattle.std.specs.Option.{option_and_then, option_map_or}
use Rattle.std.specs.Str.{bytes_eq}
use Rattle.kql_cells.specs.Readings.{long_written}
use Rattle.kql_words.specs.Options.{is_option, moment_of}
use Rattle.kql_words.specs.Refusals.{Answer, ◌>>=◌}
use Rattle.kql_words.specs.declared.refusal.Refusal.TheVariants.{Usage}
use Rattle.live_words.specs.LiveReaders.{readers_top, readers_ungiven}
use Rattle.live_words.specs.declared.command.LiveAsked.{LiveAsked}
use Rattle.live_words.specs.declared.options.Given.{Given}
use Rattle.live_words.specs.declared.options.Given.TheVariants as given
use Rattle.live_words.specs.declared.options.SoFar.{SoFar}

abbrev pub readers_at : ℤ → Option ℕ
readers_at (pos n) = if nat_le 1 n && nat_le n readers_top then Some n else None
readers_at (negsuc n) = None

-- the number of readers that a word writes, which is 1 or more: so it is written in digits alone
unfoldable pub readers_in : List ℕ → Option ℕ
readers_in word = option_and_then readers_at (long_written word)

-- no option so far
abbrev pub no_live_options : SoFar
no_live_options = record { readers = given.Missing; moment = given.Missing; watch = false; view = false }

abbrev pub is_due : {T : Type 0} → Given T → Bool
is_due given.Due = true
is_due _ = false

-- the name of an option stands at this word: its value is due, but one that stood before is 604
abbrev pub due : {T : Type 0} → ℕ → Given T → Answer (Given T)
due number given.Missing = Ok given.Due
due number _ = Err (Usage number 604)

-- the name of an option without a value stands at this word: one that stood before is 604
abbrev pub flagged : ℕ → Bool → Answer Bool
flagged number before = if before then Err (Usage number 604) else Ok true

-- a value at this word, or 605
abbrev pub valued : {T : Type 0} → ℕ → Option T → Answer (Given T)
valued number None = Err (Usage number 605)
valued number (Some x) = Ok (given.Is x)

abbrev pub with_readers : SoFar → Answer (Given ℕ) → Answer (Option SoFar)
with_readers o readers = readers >>= λ r. Ok (Some (record o { readers = r }))

abbrev pub with_moment : SoFar → Answer (Given ℤ) → Answer (Option SoFar)
with_moment o moment = moment >>= λ m. Ok (Some (record o { moment = m }))

abbrev pub with_watch : SoFar → Answer Bool → Answer (Option SoFar)
with_watch o watch = watch >>= λ w. Ok (Some (record o { watch = w }))

abbrev pub with_view : SoFar → Answer Bool → Answer (Option SoFar)
with_view o view = view >>= λ v. Ok (Some (record o { view = v }))

-- what the word of this number makes of the options before it: it is a value that is due, or the name of an option; none where it is neither
unfoldable pub live_options_after : ℕ → SoFar → List ℕ → Answer (Option SoFar)
live_options_after number o word =
    if is_due o.readers then with_readers o (valued number (readers_in word))
    else if is_due o.moment then with_moment o (valued number (moment_of word))
    else if bytes_eq word (codes "--readers") then with_readers o (due number o.readers)
    else if bytes_eq word (codes "--now") then with_moment o (due number o.moment)
    else if bytes_eq word (codes "--watch") then with_watch o (flagged number o.watch)
    else if bytes_eq word (codes "--view") then with_view o (flagged number o.view)
    else if is_option word then Err (Usage number 603)
    else Ok None

abbrev pub value_or : {T : Type 0} → T → Given T → T
value_or x (given.Is y) = y
value_or x _ = x

abbrev pub value_of : {T : Type 0} → Given T → Option T
value_of (given.Is x) = Some x
value_of _ = None

-- what is asked for where QUERY is the word of this number
abbrev pub live_at : ℕ → SoFar → LiveAsked
live_at number o = record {
  query = number;
  options = record { readers = value_or readers_ungiven o.readers; moment = value_of o.moment; watch = o.watch; view = o.view };
}

-- what is missing behind the last word: a value that is due, or QUERY
abbrev pub missing_code : SoFar → ℕ
missing_code o = if is_due o.readers then 605 else if is_due o.moment then 605 else 606

-- what the words from this number on ask for, behind these options: to QUERY
unfoldable pub live_from : ℕ → SoFar → List (List ℕ) → Answer LiveAsked
live_from number o [] = Err (Usage number (missing_code o))
live_from number o (word ∷ words) =
    live_options_after number o word >>= λ next. option_map_or (λ more. live_from (number + 1) more words) next (Ok (live_at number o))

-- how many words an option is so far
abbrev pub words_of : {T : Type 0} → Given T → ℕ
words_of given.Missing = 0
words_of given.Due = 1
words_of (given.Is x) = 2

-- and all options
abbrev pub words_in : SoFar → ℕ
words_in o = words_of o.readers + words_of o.moment + (if o.watch then 1 else 0) + (if o.view then 1 else 0)

-- of an option that was given, this holds of its value
abbrev pub IfGiven : {T : Type 0} → (T → Type 0) → Given T → Type 0
IfGiven P (given.Is x) = P x
IfGiven P _ = Unit {0}

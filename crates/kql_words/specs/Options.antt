-- The options of a command, which stand in front of QUERY: `--workers N`, `--now T`, `--limit SIZE`, `--catalogue PATH` and, where a command may have it,
-- `--types`, in any order, each at most once.
use Rattle.std.specs.Prelude.{◌<◌, ◌≤◌, ℕ, ℤ, pos, negsuc, ◌+◌, ◌&&◌, nat_eq, nat_le, Bool, true, false, List, [], ◌∷◌, Option, Some, None, Ok, Err, codes, option_map, if◌then◌else◌}
use Rattle.std.specs.List.{starts_with}
use Rattle.std.specs.Option.{option_and_then, option_map_or}
use Rattle.std.specs.Str.{bytes_eq}
use Rattle.kql_cells.specs.Readings.{long_written}
use Rattle.kql_ticks.specs.Forms.{moment_in}
use Rattle.kql_words.specs.declared.command.Asked.{Asked}
use Rattle.kql_words.specs.declared.options.Given.{Given}
use Rattle.kql_words.specs.declared.options.Given.TheVariants as given
use Rattle.kql_words.specs.declared.options.Options.{Options}
use Rattle.kql_words.specs.declared.options.SoFar.{SoFar}
use Rattle.kql_words.specs.declared.refusal.Refusal.TheVariants.{Usage}
use Rattle.kql_words.specs.Refusals.{Answer, ◌>>=◌}
use Rattle.kql_words.specs.Sizes.{size_in}

-- how many workers a command may ask for
abbrev pub workers_top : ℕ
workers_top = 64

abbrev pub AreWorkers : ℕ → Type 0
AreWorkers n = (0 < n) × (n ≤ workers_top)

-- how many bytes table files may have together where no limit is given
abbrev pub limit_ungiven : ℕ
limit_ungiven = 67108864

abbrev pub workers_at : ℤ → Option ℕ
workers_at (pos n) = if nat_le 1 n && nat_le n workers_top then Some n else None
workers_at (negsuc n) = None

-- the number of workers that a word writes, which is 1 or more: so it is written in digits alone
unfoldable pub workers_in : List ℕ → Option ℕ
workers_in word = option_and_then workers_at (long_written word)

-- the moment that a word writes
abbrev pub moment_of : List ℕ → Option ℤ
moment_of word = option_map pos (moment_in word)

-- the number of a word that is a path: any but the empty one
abbrev pub path_at : ℕ → List ℕ → Option ℕ
path_at number [] = None
path_at number (b ∷ bs) = Some number

-- no option so far
abbrev pub no_options : SoFar
no_options = record { workers = given.Missing; moment = given.Missing; limit = given.Missing; catalogue = given.Missing; types = false }

abbrev pub is_option : List ℕ → Bool
is_option word = starts_with nat_eq word (codes "--")

abbrev pub is_due : {T : Type 0} → Given T → Bool
is_due given.Due = true
is_due _ = false

-- the name of an option stands at this word: its value is due, but one that stood before is 604
abbrev pub due : {T : Type 0} → ℕ → Given T → Answer (Given T)
due number given.Missing = Ok given.Due
due number _ = Err (Usage number 604)

-- the name of an option without a value stands at this word: one that stood before is 604
abbrev pub flagged : ℕ → Bool → Answer Bool
flagged number before = if before then Err (Usage number 604) else Ok true

-- a value at this word, or 605
abbrev pub valued : {T : Type 0} → ℕ → Option T → Answer (Given T)
valued number None = Err (Usage number 605)
valued number (Some x) = Ok (given.Is x)

abbrev pub with_workers : SoFar → Answer (Given ℕ) → Answer (Option SoFar)
with_workers o workers = workers >>= λ w. Ok (Some (record o { workers = w }))

abbrev pub with_moment : SoFar → Answer (Given ℤ) → Answer (Option SoFar)
with_moment o moment = moment >>= λ m. Ok (Some (record o { moment = m }))

abbrev pub with_limit : SoFar → Answer (Given ℕ) → Answer (Option SoFar)
with_limit o limit = limit >>= λ n. Ok (Some (record o { limit = n }))

abbrev pub with_catalogue : SoFar → Answer (Given ℕ) → Answer (Option SoFar)
with_catalogue o catalogue = catalogue >>= λ k. Ok (Some (record o { catalogue = k }))

abbrev pub with_types : SoFar → Answer Bool → Answer (Option SoFar)
with_types o types = types >>= λ t. Ok (Some (record o { types = t }))

-- what the word of this number makes of the options before it: it is a value that is due, or the name of an option; none where
-- it is neither
unfoldable pub options_after : Bool → ℕ → SoFar → List ℕ → Answer (Option SoFar)
options_after may_have_types number o word =
    if is_due o.workers then with_workers o (valued number (workers_in word))
    else if is_due o.moment then with_moment o (valued number (moment_of word))
    else if is_due o.limit then with_limit o (valued number (size_in word))
    else if is_due o.catalogue then with_catalogue o (valued number (path_at number word))
    else if bytes_eq word (codes "--workers") then with_workers o (due number o.workers)
    else if bytes_eq word (codes "--now") then with_moment o (due number o.moment)
    else if bytes_eq word (codes "--limit") then with_limit o (due number o.limit)
    else if bytes_eq word (codes "--catalogue") then with_catalogue o (due number o.catalogue)
    else if bytes_eq word (codes "--types") && may_have_types then with_types o (flagged number o.types)
    else if is_option word then Err (Usage number 603)
    else Ok None

abbrev pub value_or : {T : Type 0} → T → Given T → T
value_or x (given.Is y) = y
value_or x _ = x

abbrev pub value_of : {T : Type 0} → Given T → Option T
value_of (given.Is x) = Some x
value_of _ = None

-- what is asked for where QUERY is the word of this number
abbrev pub asked_at : ℕ → SoFar → Asked
asked_at number o = record {
  query = number;
  options = record { workers = value_of o.workers; moment = value_of o.moment; limit = value_or limit_ungiven o.limit; catalogue = value_of o.catalogue; types = o.types };
}

-- what is missing behind the last word: a value that is due, or QUERY
abbrev pub missing_code : SoFar → ℕ
missing_code o = if is_due o.workers then 605 else if is_due o.moment then 605 else if is_due o.limit then 605 else if is_due o.catalogue then 605 else 606

-- what the words from this number on ask for, behind these options: to QUERY
unfoldable pub asked_from : Bool → ℕ → SoFar → List (List ℕ) → Answer Asked
asked_from may_have_types number o [] = Err (Usage number (missing_code o))
asked_from may_have_types number o (word ∷ words) =
    options_after may_have_types number o word >>= λ next. option_map_or (λ more. asked_from may_have_types (number + 1) more words) next (Ok (asked_at number o))

-- how many words an option is so far
abbrev pub words_of : {T : Type 0} → Given T → ℕ
words_of given.Missing = 0
words_of given.Due = 1
words_of (given.Is x) = 2

-- and all options
abbrev pub words_in : SoFar → ℕ
words_in o = words_of o.workers + words_of o.moment + words_of o.limit + words_of o.catalogue + (if o.types then 1 else 0)

-- of an option that was given, this holds of its value
abbrev pub IfGiven : {T : Type 0} → (T → Type 0) → Given T → Type 0
IfGiven P (given.Is x) = P x
IfGiven P _ = Unit {0}

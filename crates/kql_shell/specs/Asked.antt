-- What the words of a command of the shell ask for, or their first fault.
use Rattle.std.specs.Prelude.{◌≡◌, ℕ, ◌+◌, ◌-◌, ◌^◌, not, min, Bool, true, false, List, [], ◌∷◌, ◌++◌, Option, Some, None, is_some, Result, Ok, Err, length, if◌then◌else◌}
use Rattle.kql_words.specs.Refusals.{Answer, ◌>>=◌}
use Rattle.kql_words.specs.declared.refusal.Refusal.{Refusal}
use Rattle.kql_words.specs.declared.refusal.Refusal.TheVariants.{Usage}
use Rattle.kql_shell.specs.Marks.{form_of, is_option, mark_of, takes}
use Rattle.kql_shell.specs.declared.marks.Mark.{Mark}
use Rattle.kql_shell.specs.declared.marks.Mark.TheVariants as mark
use Rattle.kql_shell.specs.declared.reader.Reader.{Reader}
use Rattle.kql_shell.specs.declared.request.Form.{Form}
use Rattle.kql_shell.specs.declared.request.Part.{Part}
use Rattle.kql_shell.specs.declared.request.Part.TheVariants as part
use Rattle.kql_shell.specs.declared.request.Request.{Request}
use Rattle.kql_shell.specs.declared.request.Stop.{Stop}
use Rattle.kql_shell.specs.declared.request.Stop.TheVariants as stop
use Rattle.kql_shell.specs.declared.request.Verb.{Verb}
use Rattle.kql_shell.specs.declared.request.Verb.TheVariants as verb

-- a call gives this answer, or there was no memory
abbrev pub Reads : {X : Type 0} → Answer X → Result X Stop → Type 0
Reads answer (Ok x) = answer ≡ Ok x
Reads answer (Err (stop.Refused refusal)) = answer ≡ Err refusal
Reads answer (Err stop.OutOfMemory) = Unit {0}

-- a word is refused, by its number from 0
abbrev pub refused : {X : Type 0} → ℕ → ℕ → Answer X
refused number code = Err (Usage (min number (2 ^ 32 - 1)) code)

-- nothing is asked for yet
abbrev pub nothing : Request
nothing = record { parts = []; files = []; form = None; moment = None; workers = None; limit = None; catalogue = None; types = None; shows_all = false; writes = false }

-- an option that may stand once stood before
abbrev pub is_given : Request → Mark → Bool
is_given r mark.Text = false
is_given r mark.File = false
is_given r mark.Form = is_some r.form
is_given r mark.Moment = is_some r.moment
is_given r mark.Workers = is_some r.workers
is_given r mark.Limit = is_some r.limit
is_given r mark.Catalogue = is_some r.catalogue
is_given r mark.Types = is_some r.types
is_given r mark.All = r.shows_all
is_given r mark.Write = r.writes

-- behind the name of an option: a value is due, but of those that have none
abbrev pub marked : ℕ → Mark → Reader → Reader
marked number mark.All r = record r { request = record r.request { shows_all = true } }
marked number mark.Write r = record r { request = record r.request { writes = true } }
marked number mark.Types r = record r { request = record r.request { types = Some number } }
marked number m r = record r { due = Some m }

-- at the name of an option: the command has it, and it did not stand before
unfoldable pub optioned : ℕ → Mark → Reader → Answer Reader
optioned number m r =
    if not (takes r.verb m) then refused number 603
    else if is_given r.request m then refused number 604
    else Ok (marked number m r)

-- with the form of a name, where there is one
abbrev pub with_form : ℕ → Request → Option Form → Answer Request
with_form number r None = refused number 605
with_form number r (Some f) = Ok (record r { form = Some f })

-- with the value of an option
unfoldable pub with_value : ℕ → Mark → List ℕ → Request → Answer Request
with_value number mark.Text word r = Ok (record r { parts = r.parts ++ part.Text number ∷ [] })
with_value number mark.File word r = Ok (record r { parts = r.parts ++ part.File number ∷ [] })
with_value number mark.Moment word r = Ok (record r { moment = Some number })
with_value number mark.Workers word r = Ok (record r { workers = Some number })
with_value number mark.Limit word r = Ok (record r { limit = Some number })
with_value number mark.Catalogue word r = Ok (record r { catalogue = Some number })
with_value number m word r = with_form number r (form_of word)

-- at the value of an option: it does not begin as an option does
unfoldable pub valued : ℕ → Mark → List ℕ → Reader → Answer Reader
valued number m word r =
    if is_option word then refused number 605
    else with_value number m word r.request >>= λ q. Ok (record { verb = r.verb; request = q; due = None })

-- with the word of a file
abbrev pub with_file : ℕ → Reader → Reader
with_file number r = record r { request = record r.request { files = r.request.files ++ number ∷ [] } }

-- at a word that is no value
unfoldable pub worded : ℕ → List ℕ → Option Mark → Reader → Answer Reader
worded number word (Some m) r = optioned number m r
worded number word None r = if is_option word then refused number 603 else Ok (with_file number r)

-- at the word of this number
unfoldable pub taken : ℕ → List ℕ → Reader → Answer Reader
taken number word r = taken_by number word r r.due
  where
    taken_by : ℕ → List ℕ → Reader → Option Mark → Answer Reader
    taken_by number word r (Some m) = valued number m word r
    taken_by number word r None = worded number word (mark_of word) r

-- at the words from this number on, one after another
unfoldable pub all_taken : ℕ → List (List ℕ) → Reader → Answer Reader
all_taken number [] r = Ok r
all_taken number (word ∷ words) r = taken number word r >>= all_taken (number + 1) words

-- without a part of the query the first file is the query
abbrev pub with_query : ℕ → Request → Answer Request
with_query count r = with_parts count r r.parts r.files
  where
    with_parts : ℕ → Request → List Part → List ℕ → Answer Request
    with_parts count r (p ∷ ps) files = Ok r
    with_parts count r [] [] = refused count 606
    with_parts count r [] (file ∷ files) = Ok (record r { parts = part.File file ∷ []; files = files })

-- there is a file
abbrev pub with_files : ℕ → Request → List ℕ → Answer Request
with_files count r [] = refused count 607
with_files count r (file ∷ files) = Ok r

-- there is one file
abbrev pub with_one_file : ℕ → Request → List ℕ → Answer Request
with_one_file count r [] = refused count 607
with_one_file count r (file ∷ []) = Ok r
with_one_file count r (file ∷ second ∷ files) = refused second 610

-- what so many words ask for, where no value is due behind the last
abbrev pub whole : ℕ → Verb → Request → Answer Request
whole count verb.Answer r = with_query count r
whole count verb.Show r = with_query count r
whole count verb.Schema r = with_files count r r.files
whole count verb.Types r = with_one_file count r r.files

unfoldable pub finished : ℕ → Reader → Answer Request
finished count r = if is_some r.due then refused count 605 else whole count r.verb r.request

-- the words behind the command's
abbrev pub words_behind : Verb → List (List ℕ) → List (List ℕ)
words_behind verb.Answer words = words
words_behind v [] = []
words_behind v (command ∷ words) = words

-- what these words ask for, or their first fault
unfoldable pub request_of : Verb → List (List ℕ) → Answer Request
request_of v words =
    let behind = words_behind v words in
    all_taken (length words - length behind) behind (record { verb = v; request = nothing; due = None }) >>= finished (length words)

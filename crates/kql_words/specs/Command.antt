-- The words of the command: `run`, `plain` or `explain`, options, QUERY, and then NAME=PATH ..; or `trial` and its words.
use Rattle.std.specs.Prelude.{◌≡◌, ℕ, ◌+◌, ◌==◌, ◌&&◌, not, nat_le, Bool, true, false, List, [], ◌∷◌, ◌++◌, String, string_bytes, Option, Ok, Err, drop, length, map, option_map, slice_index_or, codes, if◌then◌else◌}
use Rattle.std.specs.Global.{Global}
use Rattle.std.specs.List.{after_first, before_first, list_any}
use Rattle.std.specs.Str.{bytes_eq}
use Rattle.kql_lexer.specs.Words.{is_reserved, is_word}
use Rattle.kql_words.specs.declared.command.Asked.{Asked}
use Rattle.kql_words.specs.declared.command.Command.{Command}
use Rattle.kql_words.specs.declared.command.Command.TheVariants as command
use Rattle.kql_words.specs.declared.trial.Trial.{Trial}
use Rattle.kql_words.specs.declared.refusal.Refusal.{Refusal}
use Rattle.kql_words.specs.declared.refusal.Refusal.TheVariants.{Usage}
use Rattle.kql_words.specs.Options.{asked_from, no_options}
use Rattle.kql_words.specs.Refusals.{Answer, ◌>>=◌, unless}
use Rattle.kql_words.specs.TrialWords.{trial_of}

abbrev pub is_equals : ℕ → Bool
is_equals b = b == 61

-- of a word NAME=PATH, what stands before and behind its first `=`
abbrev pub name_in : List ℕ → List ℕ
name_in word = before_first is_equals word

abbrev pub path_in : List ℕ → List ℕ
path_in word = after_first is_equals word

-- there is an `=`, the name is a word that is not reserved, and the path is not empty
abbrev pub names_table : List ℕ → Bool
names_table word = list_any is_equals word && is_word (name_in word) && not (is_reserved (name_in word)) && not (length (path_in word) == 0)

-- the words as lists of bytes
abbrev pub texts : List (String Global) → List (List ℕ)
texts words = map string_bytes words

-- how many tables a command may name
abbrev pub tables_top : ℕ
tables_top = 64

-- the fault of the word of this number, behind words with these names: it names no table, its name stood before, or
-- there are too many
abbrev pub table_faults : ℕ → List (List ℕ) → List ℕ → List Refusal
table_faults number names word =
    if names_table word then
    (if list_any (bytes_eq (name_in word)) names then Usage number 608 ∷ []
    else if nat_le tables_top (length names) then Usage number 610 ∷ []
    else [])
    else Usage number 607 ∷ []

-- the faults of the words from this number on
abbrev pub tables_faults : ℕ → List (List ℕ) → List (List ℕ) → List Refusal
tables_faults number names [] = []
tables_faults number names (word ∷ words) = table_faults number names word ++ tables_faults (number + 1) (names ++ name_in word ∷ []) words

-- these words name tables: each one, no name twice, and no more than a command may
abbrev pub AreTables : List (List ℕ) → Type 0
AreTables words = tables_faults 0 [] words ≡ []

-- what the words behind `run`, `plain` or `explain` ask for: options, with `--types` where they may ask for types, QUERY, and words that name tables
unfoldable pub asked_of : Bool → List (List ℕ) → Answer Asked
asked_of may_have_types words = do
  asked ← asked_from may_have_types 1 no_options words
  unless (tables_faults (asked.query + 1) [] (drop asked.query words)) asked

-- commands of what is asked for
abbrev pub run_as : Answer Asked → Answer Command
run_as asked = asked >>= λ a. Ok (command.Run a)

abbrev pub plain_as : Answer Asked → Answer Command
plain_as asked = asked >>= λ a. Ok (command.Plain a)

abbrev pub explain_as : Answer Asked → Answer Command
explain_as asked = asked >>= λ a. Ok (command.Explain a)

abbrev pub trial_as : Answer Trial → Answer Command
trial_as trial = trial >>= λ t. Ok (command.Trial t)

-- the command that the words are, or their first fault
unfoldable pub command_of : List (List ℕ) → Answer Command
command_of [] = Err (Usage 0 601)
command_of (word ∷ words) =
    if bytes_eq word (codes "run") then run_as (asked_of true words)
    else if bytes_eq word (codes "plain") then plain_as (asked_of true words)
    else if bytes_eq word (codes "explain") then explain_as (asked_of false words)
    else if bytes_eq word (codes "trial") then trial_as (trial_of words)
    else Err (Usage 0 602)

-- of a command of a query, this holds of what it asks for
abbrev pub IfAsks : (Asked → Type 0) → Command → Type 0
IfAsks P (command.Run a) = P a
IfAsks P (command.Plain a) = P a
IfAsks P (command.Explain a) = P a
IfAsks P (command.Trial t) = Unit {0}

-- of the words of a query's command, the path of the query file, and the words that name tables
abbrev pub query_path : List (List ℕ) → Asked → List ℕ
query_path words asked = slice_index_or words asked.query []

abbrev pub table_words : List (List ℕ) → Asked → List (List ℕ)
table_words words asked = drop (asked.query + 1) words

-- the path of its catalogue file, where one is given
abbrev pub catalogue_path : List (List ℕ) → Asked → Option (List ℕ)
catalogue_path words asked = option_map (λ k. slice_index_or words k []) asked.options.catalogue

-- how many workers a command asks for, where a number is given
abbrev pub workers_of : Command → Option ℕ
workers_of (command.Run a) = a.options.workers
workers_of (command.Plain a) = a.options.workers
workers_of (command.Explain a) = a.options.workers
workers_of (command.Trial t) = t.workers

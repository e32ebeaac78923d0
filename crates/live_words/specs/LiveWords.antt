-- The words of the command `live`: options, QUERY, NAME=PATH, and then further paths.
use Rattle.std.specs.Prelude.{◌≡◌, ℕ, ◌+◌, nat_le, List, [], ◌∷◌, ◌++◌, Ok, Err, codes, drop, slice_index_or, map, if◌then◌else◌}
use Rattle.std.specs.Str.{bytes_eq}
use Rattle.kql_words.specs.Command.{name_in, names_table, path_in}
use Rattle.kql_words.specs.Refusals.{Answer, ◌>>=◌, unless}
use Rattle.kql_words.specs.declared.refusal.Refusal.{Refusal}
use Rattle.kql_words.specs.declared.refusal.Refusal.TheVariants.{Usage}
use Rattle.live_words.specs.LiveOptionWords.{live_from, no_live_options}
use Rattle.live_words.specs.declared.command.LiveAsked.{LiveAsked}

-- how many paths a command may name, that of the opening table included
abbrev pub paths_top : ℕ
paths_top = 64

-- the fault of the path of this number, behind so many others: there are too many, or it is empty
abbrev pub path_fault : ℕ → ℕ → List ℕ → List Refusal
path_fault number before [] = if nat_le paths_top before then Usage number 610 ∷ [] else Usage number 611 ∷ []
path_fault number before (b ∷ bs) = if nat_le paths_top before then Usage number 610 ∷ [] else []

-- the faults of the further paths from this number on, behind so many others
abbrev pub further_faults : ℕ → ℕ → List (List ℕ) → List Refusal
further_faults number before [] = []
further_faults number before (path ∷ paths) = path_fault number before path ++ further_faults (number + 1) (before + 1) paths

-- the fault of the word NAME=PATH of this number
abbrev pub table_fault : ℕ → List ℕ → List Refusal
table_fault number word = if names_table word then [] else Usage number 607 ∷ []

-- the faults of the words behind QUERY, of which the first has this number
abbrev pub live_faults : ℕ → List (List ℕ) → List Refusal
live_faults number [] = Usage number 612 ∷ []
live_faults number (word ∷ words) = table_fault number word ++ further_faults (number + 1) 1 words

-- these words are those behind the QUERY of a live command: one names a table, and the others are paths
abbrev pub AreLivePaths : List (List ℕ) → Type 0
AreLivePaths words = live_faults 0 words ≡ []

-- what the words behind `live` ask for
unfoldable pub live_asked : List (List ℕ) → Answer LiveAsked
live_asked words = live_from 1 no_live_options words >>= λ asked. unless (live_faults (asked.query + 1) (drop asked.query words)) asked

-- what the words of a live command ask for, or their first fault
unfoldable pub live_of : List (List ℕ) → Answer LiveAsked
live_of [] = Err (Usage 0 601)
live_of (word ∷ words) = if bytes_eq word (codes "live") then live_asked words else Err (Usage 0 602)

-- of the words of a live command, the path of the query file; the name and the path of the opening table; and the paths of the batches
abbrev pub live_query_path : List (List ℕ) → LiveAsked → List ℕ
live_query_path words asked = slice_index_or words asked.query []

abbrev pub live_table_word : List (List ℕ) → LiveAsked → List ℕ
live_table_word words asked = slice_index_or words (asked.query + 1) []

abbrev pub live_paths : List (List ℕ) → LiveAsked → List (List ℕ)
live_paths words asked = drop (asked.query + 2) words

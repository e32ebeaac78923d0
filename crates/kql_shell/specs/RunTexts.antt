-- The words of `run` for a request.
use Rattle.std.specs.Prelude.{ℕ, List, [], ◌∷◌, ◌++◌, Option, Some, None, codes, flat_map, slice_get}
use Rattle.kql_shell.specs.Names.{table_word}
use Rattle.kql_shell.specs.declared.request.Request.{Request}

-- an option and the word of its value, where there is one
abbrev pub pair : List ℕ → Option (List ℕ) → List (List ℕ)
pair name None = []
pair name (Some word) = name ∷ word ∷ []

-- an option whose value is the word of a number
abbrev pub option_pair : List (List ℕ) → List ℕ → Option ℕ → List (List ℕ)
option_pair words name None = []
option_pair words name (Some number) = pair name (slice_get words number)

-- an option without a value
abbrev pub flag : List ℕ → Option ℕ → List (List ℕ)
flag name None = []
flag name (Some number) = name ∷ []

-- the word NAME=PATH of the word of a number
abbrev pub file_pair : Option (List ℕ) → List (List ℕ)
file_pair None = []
file_pair (Some word) = table_word word ∷ []

abbrev pub file_word : List (List ℕ) → ℕ → List (List ℕ)
file_word words number = file_pair (slice_get words number)

-- the numbers of the words from which these words come
abbrev pub pair_numbers : ℕ → Option (List ℕ) → List ℕ
pair_numbers number None = []
pair_numbers number (Some word) = number ∷ number ∷ []

abbrev pub option_numbers : List (List ℕ) → Option ℕ → List ℕ
option_numbers words None = []
option_numbers words (Some number) = pair_numbers number (slice_get words number)

abbrev pub flag_numbers : Option ℕ → List ℕ
flag_numbers None = []
flag_numbers (Some number) = number ∷ []

abbrev pub file_numbers : ℕ → Option (List ℕ) → List ℕ
file_numbers number None = []
file_numbers number (Some word) = number ∷ []

abbrev pub file_number : List (List ℕ) → ℕ → List ℕ
file_number words number = file_numbers number (slice_get words number)

-- the words of `run` for a request that these words are, whose query has this path
unfoldable pub run_texts : List (List ℕ) → Request → List ℕ → List (List ℕ)
run_texts words r query =
    codes "run" ∷ option_pair words (codes "--workers") r.workers ++ option_pair words (codes "--now") r.moment ++ option_pair words (codes "--limit") r.limit
    ++ option_pair words (codes "--catalogue") r.catalogue ++ flag (codes "--types") r.types ++ query ∷ flat_map (file_word words) r.files

-- for each of them the number of the word from which it comes; 0 of what comes from none
unfoldable pub run_numbers : List (List ℕ) → Request → List ℕ
run_numbers words r =
    0 ∷ option_numbers words r.workers ++ option_numbers words r.moment ++ option_numbers words r.limit ++ option_numbers words r.catalogue ++ flag_numbers r.types ++ 0 ∷ flat_map (file_number words) r.files

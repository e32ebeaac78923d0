-- The words behind `trial`: ROWS, SEED, and then `--workers N` or nothing.
use Rattle.std.specs.Prelude.{ℕ, nat_le, List, [], ◌∷◌, Option, Some, None, Ok, Err, codes, if◌then◌else◌}
use Rattle.std.specs.Option.{option_and_then}
use Rattle.std.specs.Str.{bytes_eq}
use Rattle.kql_words.specs.Options.{is_option, workers_in}
use Rattle.kql_words.specs.Refusals.{Answer, ◌>>=◌}
use Rattle.kql_words.specs.Sizes.{count_in}
use Rattle.kql_words.specs.declared.refusal.Refusal.TheVariants.{Usage}
use Rattle.kql_words.specs.declared.trial.Trial.{Trial}

-- how many rows a trial may have
abbrev pub rows_top : ℕ
rows_top = 1000000

abbrev pub rows_at : ℕ → Option ℕ
rows_at n = if nat_le n rows_top then Some n else None

-- the number of rows that a word writes
unfoldable pub rows_in : List ℕ → Option ℕ
rows_in word = option_and_then rows_at (count_in word)

-- a number that the word of this number writes, or a refusal of the word
abbrev pub counted : {T : Type 0} → ℕ → ℕ → Option T → Answer T
counted number code None = Err (Usage number code)
counted number code (Some x) = Ok x

-- the words behind the number of workers: the option once more, another option, or any other word is left over
unfoldable pub end_of : ℕ → List (List ℕ) → Answer (Option ℕ)
end_of workers [] = Ok (Some workers)
end_of workers (word ∷ words) =
    if bytes_eq word (codes "--workers") then Err (Usage 5 604) else if is_option word then Err (Usage 5 603) else Err (Usage 5 610)

-- the words behind `--workers`
unfoldable pub workers_given : List (List ℕ) → Answer (Option ℕ)
workers_given [] = Err (Usage 4 605)
workers_given (word ∷ words) = counted 4 605 (workers_in word) >>= λ workers. end_of workers words

-- the words behind SEED: how many workers they ask for
unfoldable pub workers_of : List (List ℕ) → Answer (Option ℕ)
workers_of [] = Ok None
workers_of (word ∷ words) =
    if bytes_eq word (codes "--workers") then workers_given words else if is_option word then Err (Usage 3 603) else Err (Usage 3 610)

abbrev pub trial_with : ℕ → ℕ → Answer (Option ℕ) → Answer Trial
trial_with rows seed workers = workers >>= λ n. Ok (record { rows = rows; seed = seed; workers = n })

-- the words behind ROWS
unfoldable pub seed_of : ℕ → List (List ℕ) → Answer Trial
seed_of rows [] = Err (Usage 2 609)
seed_of rows (word ∷ words) = counted 2 609 (count_in word) >>= λ seed. trial_with rows seed (workers_of words)

-- the trial that the words behind `trial` ask for
unfoldable pub trial_of : List (List ℕ) → Answer Trial
trial_of [] = Err (Usage 1 609)
trial_of (word ∷ words) = counted 1 609 (rows_in word) >>= λ rows. seed_of rows words

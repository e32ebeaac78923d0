-- The words of `run`, one behind another.
use Rattle.std.proofs.Common.{◌≡◌, ℕ, List, [], ◌∷◌, ◌++◌, sym}
use Rattle.std.proofs.lemmas.List.{append-nil}
use Rattle.std.specs.Prelude.{Option, None, Some, slice_get}
use Rattle.kql_shell.specs.RunTexts.{file_number, file_word, option_numbers, option_pair}

-- where the word is missing, nothing is added
pub pair-absent : (base : List (List ℕ)) (words : List (List ℕ)) (name : List ℕ) (n : ℕ) (given : Option ℕ) → given ≡ Some n → slice_get words n ≡ None → base ≡ base ++ option_pair words name given
pair-absent base words name n given g e = rw (g, e) (sym (append-nil base))

pub pair-there : (new base : List (List ℕ)) (words : List (List ℕ)) (name value : List ℕ) (n : ℕ) (given : Option ℕ) → given ≡ Some n → slice_get words n ≡ Some value → new ≡ base ++ name ∷ value ∷ [] → new ≡ base ++ option_pair words name given
pair-there new base words name value n given g e h = rw (g, e) h

pub file-absent : (base : List (List ℕ)) (words : List (List ℕ)) (n : ℕ) → slice_get words n ≡ None → base ≡ base ++ file_word words n
file-absent base words n e = rw e (sym (append-nil base))

-- and so of the numbers
pub numbers-absent : (base : List ℕ) (words : List (List ℕ)) (n : ℕ) (given : Option ℕ) → given ≡ Some n → slice_get words n ≡ None → base ≡ base ++ option_numbers words given
numbers-absent base words n given g e = rw (g, e) (sym (append-nil base))

pub numbers-there : (new base : List ℕ) (words : List (List ℕ)) (value : List ℕ) (n : ℕ) (given : Option ℕ) → given ≡ Some n → slice_get words n ≡ Some value → new ≡ base ++ n ∷ n ∷ [] → new ≡ base ++ option_numbers words given
numbers-there new base words value n given g e h = rw (g, e) h

pub number-absent : (base : List ℕ) (words : List (List ℕ)) (n : ℕ) → slice_get words n ≡ None → base ≡ base ++ file_number words n
number-absent base words n e = rw e (sym (append-nil base))

pub ruleset option_facts = (pair-absent, pair-there, file-absent, numbers-absent, numbers-there, number-absent)

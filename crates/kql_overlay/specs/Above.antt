-- Files above those of another shelf.
use Rattle.std.specs.Prelude.{ℕ, List, ◌++◌, Option}
use Rattle.std.specs.Option.{option_map}

-- files in front of those that a shelf tells: the first file of a path counts
abbrev pub files_above : List (List ℕ × List ℕ) → Option (List (List ℕ × List ℕ)) → Option (List (List ℕ × List ℕ))
files_above above told = option_map (λ (below : List (List ℕ × List ℕ)). above ++ below) told

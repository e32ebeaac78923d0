-- The line that tells of the numbers of a file.
use Rattle.std.specs.Prelude.{ℕ, ◌==◌, List, [], ◌∷◌, ◌++◌, Option, None, Some, codes, if◌then◌else◌}
use Rattle.std.specs.Fmt.{decimal}

-- these texts, one after another
abbrev pub joined : List (List ℕ) → List ℕ
joined [] = []
joined (t ∷ ts) = t ++ joined ts

-- the line for a count in the file of a path: none for none
unfoldable pub losses_line : ℕ → List ℕ → Option (List ℕ)
losses_line n path =
    if n == 0 then None
    else if n == 1 then Some (joined (codes "kql: 1 number of JSON in " ∷ path ∷ codes " is not written as a whole number of 64 bits, and read as null" ∷ []))
    else Some (joined (codes "kql: " ∷ decimal n ∷ codes " numbers of JSON in " ∷ path ∷ codes " are not written as whole numbers of 64 bits, and read as null" ∷ []))

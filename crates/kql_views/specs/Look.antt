-- The line under a table to look at.
use Rattle.std.specs.Prelude.{◌≡◌, ℕ, ◌==◌, nat_lt, List, [], ◌∷◌, ◌++◌, codes, if◌then◌else◌}
use Rattle.std.specs.Fmt.{decimal}

-- texts, one behind another
abbrev pub joined : List (List ℕ) → List ℕ
joined [] = []
joined (x ∷ xs) = x ++ joined xs

-- how many rows there are, and of more than are shown how many these are
abbrev pub count_line : ℕ → ℕ → List ℕ
count_line rows shown =
    if nat_lt shown rows then joined (codes "(" ∷ decimal rows ∷ codes " rows, of which the first " ∷ decimal shown ∷ codes " are shown; --all shows all)\n" ∷ [])
    else if rows == 1 then codes "(1 row)\n"
    else joined (codes "(" ∷ decimal rows ∷ codes " rows)\n" ∷ [])

-- a text ends with another
abbrev pub EndsWith : List ℕ → List ℕ → Type 0
EndsWith text end = (front : List ℕ) × (text ≡ front ++ end)

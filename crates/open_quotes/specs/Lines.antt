-- The line that tells of an open quote.
use Rattle.std.specs.Prelude.{ℕ, List, [], ◌∷◌, ◌++◌, codes}
use Rattle.std.specs.Fmt.{decimal}

-- these texts, one after another
abbrev pub joined : List (List ℕ) → List ℕ
joined [] = []
joined (t ∷ ts) = t ++ joined ts

-- the line for a quote in a line of the file of a path
abbrev pub quote_line : ℕ → List ℕ → List ℕ
quote_line line path =
    joined (codes "kql: " ∷ path ∷ codes ", line " ∷ decimal line ∷ codes ": the double quote that begins a cell here is not closed, so that the file is read to its end as this one cell" ∷ [])

-- Where a list stands in another.
use Rattle.std.specs.Prelude.{◌≡◌, ℕ, List, ◌++◌}

-- p stands in t
abbrev pub Holds : List ℕ → List ℕ → Type 0
Holds t p = (before : List ℕ) × (after : List ℕ) × (t ≡ before ++ (p ++ after))

-- t begins with p
abbrev pub Begins : List ℕ → List ℕ → Type 0
Begins t p = (after : List ℕ) × (t ≡ p ++ after)

-- t ends with p
abbrev pub Ends : List ℕ → List ℕ → Type 0
Ends t p = (before : List ℕ) × (t ≡ before ++ p)

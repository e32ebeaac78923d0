-- A text cut at each occurrence of another, from the left and with no two overlapping.
use Rattle.std.specs.Prelude.{◌≡◌, ℕ, List, [], ◌∷◌, ◌++◌, map}
use Rattle.std.specs.List.{join_by}
use Rattle.kql_cells.specs.declared.dynamic.Dyn.{Dyn}
use Rattle.kql_cells.specs.declared.dynamic.Dyn.TheVariants as dyn
use Rattle.kql_texts.specs.Stands.{Holds}

-- the pieces one after another, with d between each two
abbrev pub joined : List ℕ → List (List ℕ) → List ℕ
joined d pieces = join_by (λ piece. piece) d pieces

-- the first d of x ++ d is the one at its end
abbrev pub EndsAtFirst : List ℕ → List ℕ → Type 0
EndsAtFirst d x = (before after : List ℕ) → x ++ d ≡ before ++ (d ++ after) → after ≡ []

-- each piece but the last ends at the first d, and the last holds none
abbrev pub AreCutAt : List ℕ → List (List ℕ) → Type 0
AreCutAt d [] = ⊥
AreCutAt d (x ∷ []) = ¬ (Holds x d)
AreCutAt d (x ∷ y ∷ more) = EndsAtFirst d x × AreCutAt d (y ∷ more)

-- t is these pieces, cut at each d; an empty d cuts nothing
abbrev pub IsSplit : List ℕ → List ℕ → List (List ℕ) → Type 0
IsSplit t [] pieces = pieces ≡ t ∷ []
IsSplit t (c ∷ d) pieces = (joined (c ∷ d) pieces ≡ t) × AreCutAt (c ∷ d) pieces

-- the pieces as elements of an array
abbrev pub SplitsInto : List ℕ → List ℕ → List Dyn → Type 0
SplitsInto t d parts = (pieces : List (List ℕ)) × (parts ≡ map dyn.Text pieces) × IsSplit t d pieces

-- the texts of an array, one after another with d between each two, are t
abbrev pub JoinsInto : List ℕ → List ℕ → List Dyn → Type 0
JoinsInto t d parts = (pieces : List (List ℕ)) × (parts ≡ map dyn.Text pieces) × (joined d pieces ≡ t)

-- r is t with b in the place of each a
abbrev pub Replaces : List ℕ → List ℕ → List ℕ → List ℕ → Type 0
Replaces t a b r = (pieces : List (List ℕ)) × IsSplit t a pieces × (r ≡ joined b pieces)

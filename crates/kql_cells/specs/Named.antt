-- Lists of things that have a name each.
use Rattle.std.specs.Prelude.{◌≢◌, ℕ, List, Option, All}
use Rattle.std.specs.List.{AllPairs, position}
use Rattle.std.specs.Str.{bytes_eq}
use Rattle.kql_cells.specs.declared.schema.Column.{Column}

-- no two have one name
abbrev pub HasDistinctNames : {X : Type 0} → (X → List ℕ) → List X → Type 0
HasDistinctNames name xs = AllPairs (λ x y. name x ≢ name y) xs

-- none has this name
abbrev pub IsAbsent : {X : Type 0} → (X → List ℕ) → List ℕ → List X → Type 0
IsAbsent name n xs = All (λ x. name x ≢ n) xs

-- the place of the first that has this name
abbrev pub place_of : {X : Type 0} → (X → List ℕ) → List ℕ → List X → Option ℕ
place_of name n xs = position (λ x. bytes_eq (name x) n) xs

abbrev pub column_name : Column → List ℕ
column_name c = c.name

-- Where two lists of columns differ.
use Rattle.std.specs.Prelude.{ℕ, ◌+◌, ◌&&◌, Bool, List, [], ◌∷◌, Option, Some, None, bytes_eq, if◌then◌else◌}
use Rattle.kql_cells.specs.declared.schema.Column.{Column}
use Rattle.kql_functions.specs.Kinds.{same_kind}

-- two columns have one name and one type
abbrev pub same_column : Column → Column → Bool
same_column c d = bytes_eq c.name d.name && same_kind c.kind d.kind

-- the place of the first column that differs, where the first ones have this place; none where the lists are equal
unfoldable pub difference_from : ℕ → List Column → List Column → Option ℕ
difference_from place [] [] = None
difference_from place (c ∷ cs) (d ∷ ds) = if same_column c d then difference_from (place + 1) cs ds else Some place
difference_from place _ _ = Some place

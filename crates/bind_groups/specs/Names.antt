-- Names that a query gives to new columns, with the places where they are written.
use Rattle.std.specs.Prelude.{ℕ, List, [], ◌∷◌, ◌++◌, map}
use Rattle.kql_syntax.specs.declared.tree.Name.{Name}
use Rattle.bind_expr.specs.Names.{text_of}
use Rattle.bind_groups.specs.declared.written_names.WrittenNames.{WrittenNames}
use Rattle.bind_operators.specs.Places.{name_place}

unfoldable pub written : List Name → WrittenNames
written names = record { texts = map text_of names; places = map name_place names }

-- One name more.
abbrev pub with_written : WrittenNames → Name → WrittenNames
with_written w n = record { texts = w.texts ++ text_of n ∷ []; places = w.places ++ name_place n ∷ [] }

-- Each text alone, as the names of the columns of one item.
abbrev pub singles : List (List ℕ) → List (List (List ℕ))
singles texts = map (λ t. t ∷ []) texts

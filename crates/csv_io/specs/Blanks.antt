-- The blanks round a cell.
use Rattle.std.specs.Prelude.{ℕ, ◌==◌, ◌||◌, Bool, false, List, [], ◌∷◌, reverse, if◌then◌else◌}
use Rattle.kql_cells.specs.declared.value.Kind.{Kind}
use Rattle.kql_cells.specs.declared.value.Kind.TheVariants as kind

-- a space or a tab
abbrev pub is_blank : ℕ → Bool
is_blank b = (b == 32) || (b == 9)

unfoldable pub begins_blank : List ℕ → Bool
begins_blank [] = false
begins_blank (b ∷ bs) = is_blank b

unfoldable pub behind_blanks : List ℕ → List ℕ
behind_blanks [] = []
behind_blanks (b ∷ bs) = if is_blank b then behind_blanks bs else b ∷ bs

-- a field without the blanks at its ends
unfoldable pub trimmed : List ℕ → List ℕ
trimmed t = reverse (behind_blanks (reverse (behind_blanks t)))

-- what of a field is read in a column of this type: a string is the field itself, and JSON has blanks of its own; of the
-- other types the blanks round it are passed over
unfoldable pub bare : Kind → List ℕ → List ℕ
bare kind.Text field = field
bare kind.Dynamic field = field
bare _ field = trimmed field

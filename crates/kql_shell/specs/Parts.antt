-- The text of a query of several parts.
use Rattle.std.specs.Prelude.{ℕ, ◌-◌, ◌==◌, ◌&&◌, not, Bool, List, [], ◌∷◌, ◌++◌, length, slice_index, if◌then◌else◌}

-- a text ends within a line
abbrev pub is_in_line : List ℕ → Bool
is_in_line text = not (length text == 0) && not (slice_index text (length text - 1) == 10)

-- a text with a part behind it, which begins a line of its own
abbrev pub with_part : List ℕ → List ℕ → List ℕ
with_part query part = query ++ (if is_in_line query then 10 ∷ [] else []) ++ part

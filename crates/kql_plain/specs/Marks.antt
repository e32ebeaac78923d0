-- Lets that are marked by their numbers.
use Rattle.std.specs.Prelude.{ℕ, Bool, true, List, slice_index_or}

-- Whether a let is marked. One that has no place counts as marked.
abbrev pub is_marked : List Bool → ℕ → Bool
is_marked marks i = slice_index_or marks i true

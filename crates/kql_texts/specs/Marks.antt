-- A text with its borders written between its bytes, so that a plain search finds its terms.
use Rattle.std.specs.Prelude.{ℕ, List, [], ◌∷◌, if◌then◌else◌}
use Rattle.kql_texts.specs.Terms.{are_joined}

-- what stands between two bytes: 255 at a border, which is no byte of a text, and else 254
abbrev pub mark_between : ℕ → ℕ → ℕ
mark_between x y = if are_joined x y then 254 else 255

-- after a byte: each byte behind its mark, and a border at the end
abbrev pub marked_after : ℕ → List ℕ → List ℕ
marked_after x [] = 255 ∷ []
marked_after x (y ∷ ys) = mark_between x y ∷ y ∷ marked_after y ys

abbrev pub marked : List ℕ → List ℕ
marked = marked_after 0

-- A text that is cut.
use Rattle.std.specs.Prelude.{◌≡◌, ◌<◌, ◌⊎◌, ℕ, false, List, [], ◌∷◌, ◌++◌, chars}
use Rattle.unicode_width.specs.Width.{str_width}

-- the ellipsis, in UTF-8
abbrev pub ellipsis : List ℕ
ellipsis = 226 ∷ 128 ∷ 166 ∷ []

-- a text ends with the ellipsis
abbrev pub EndsCut : List ℕ → Type 0
EndsCut made = (front : List ℕ) × (made ≡ front ++ ellipsis)

-- a text that is cut ends with the ellipsis; it is empty where the ellipsis alone is too wide
abbrev pub IsCut : ℕ → List ℕ → Type 0
IsCut width made = EndsCut made ⊎ ((made ≡ []) × (width < str_width false (chars ellipsis)))

-- Where a list stands in another as a term. A term character is an ASCII letter or digit.
use Rattle.std.specs.Prelude.{◌≡◌, ℕ, Bool, false, ◌&&◌, List, ◌++◌, fold, slice_index}
use Rattle.std.specs.Char.{is_ascii_alphanumeric}

-- the last of a list, or 0, which is no term character
abbrev pub last_of : List ℕ → ℕ
last_of xs = fold (λ _ x. x) 0 xs

-- the first of a list, or 0
abbrev pub first_of : List ℕ → ℕ
first_of xs = slice_index xs 0

-- both are term characters
abbrev pub are_joined : ℕ → ℕ → Bool
are_joined x y = is_ascii_alphanumeric x && is_ascii_alphanumeric y

-- the two sides of a border are not both term characters
abbrev pub IsBorder : List ℕ → List ℕ → Type 0
IsBorder before after = are_joined (last_of before) (first_of after) ≡ false

-- p stands at some place of t with a border at its start and at its end
abbrev pub HasTerm : List ℕ → List ℕ → Type 0
HasTerm t p = (before : List ℕ) × (after : List ℕ) × (t ≡ before ++ (p ++ after)) × IsBorder before (p ++ after) × IsBorder (before ++ p) after

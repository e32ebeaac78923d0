-- Lists of places, and what is left of one without another.
use Rattle.std.specs.Prelude.{ℕ, Bool, false, not, nat_eq, List, [], ◌∷◌, ◌++◌, cond, if◌then◌else◌}

-- Whether a place is the first of these, and these without it where it is.
unfoldable pub is_first : ℕ → List ℕ → Bool
is_first x [] = false
is_first x (y ∷ ys) = nat_eq y x

unfoldable pub behind : ℕ → List ℕ → List ℕ
behind x [] = []
behind x (y ∷ ys) = if nat_eq y x then ys else y ∷ ys

-- Places without those of a list that is a part of them, in their order.
unfoldable pub without : List ℕ → List ℕ → List ℕ
without [] ys = []
without (x ∷ xs) ys = cond (not (is_first x ys)) (x ∷ []) [] ++ without xs (behind x ys)

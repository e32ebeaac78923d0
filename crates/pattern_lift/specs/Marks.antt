-- The marks that added names begin with: so many `#` that no other name begins with them.
use Rattle.std.specs.Prelude.{ℕ, suc, ◌==◌, nat_lt, Bool, List, [], ◌∷◌, ◌++◌, bytes_eq, codes, fold, length, take, if◌then◌else◌}
use Rattle.std.specs.List.{repeat}

-- Whether a name begins with the marks.
unfoldable pub begins_with : List ℕ → List ℕ → Bool
begins_with marks name = bytes_eq (take (length marks) name) marks

-- How many `#`, of which the code is 35, a name begins with.
unfoldable pub marks_of : List ℕ → ℕ
marks_of [] = 0
marks_of (c ∷ cs) = if c == 35 then suc (marks_of cs) else 0

abbrev pub larger : ℕ → ℕ → ℕ
larger a b = if nat_lt a b then b else a

-- The most that one of these names begins with, and one more.
unfoldable pub most_marks : List (List ℕ) → ℕ
most_marks names = fold (λ most n. larger most (marks_of n)) 0 names

unfoldable pub marks_beyond : List (List ℕ) → List ℕ
marks_beyond names = codes "#" ++ repeat (most_marks names) (codes "#")

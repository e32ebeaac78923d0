-- The levels of a part more.
use Rattle.std.proofs.Common.{◌≡◌, ◌<◌, ◌+◌, ℕ, max, List, [], ◌∷◌, ◌++◌, take, length, get_or, ◌∙◌, refl, ap, arith}
use Rattle.std.proofs.lemmas.List.{take_more}
use Rattle.kql_cells.specs.Dynamic.{highest}
use Rattle.kql_cells.proofs.LevelLaws.{levels-Array, levels-Bag, levels-Null, levels-Bool, levels-Long, levels-Text}

highest-push : {X : Type 0} (f : X → ℕ) (xs : List X) (x : X) → highest f (xs ++ x ∷ []) ≡ max (f x) (highest f xs)
highest-push f [] x = refl
highest-push f (y ∷ xs) x = let h = highest-push f xs x in omega arith

pub highest_more : {X : Type 0} (f : X → ℕ) (xs : List X) (i : ℕ) (d : X) → i < length xs → highest f (take (i + 1) xs) ≡ max (f (get_or xs i d)) (highest f (take i xs))
highest_more f xs i d lt = ap (highest f) (take_more xs i d lt) ∙ highest-push f (take i xs) (get_or xs i d)

pub ruleset level_counts = (levels-Array, levels-Bag, levels-Null, levels-Bool, levels-Long, levels-Text)

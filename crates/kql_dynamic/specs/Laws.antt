-- What the calls on arrays, bags and sets keep, in words of lists, keys and sets.
use Rattle.std.specs.Prelude.{◌≡◌, ◌≢◌, ◌<◌, ◌+◌, ◌⊎◌, ◌↔◌, ℕ, pos, negsuc, List, [], ◌∷◌, ◌++◌, filter, if◌then◌else◌, length, not, reverse, IsTrue, Option, None, Some, option_and_then, Contains}
use Rattle.std.specs.List.{AllPairs, list_all}
use Rattle.std.specs.Option.{option_or}
use Rattle.kql_cells.specs.Dynamic.{is_well_formed_dynamic}
use Rattle.kql_cells.specs.declared.dynamic.Dyn.{Dyn}
use Rattle.kql_cells.specs.declared.dynamic.Dyn.TheVariants as V
use Rattle.kql_cells.specs.declared.value.Value.{Value}
use Rattle.kql_dynamic.specs.Arrays.{array, array_concat, array_slice, sliced}
use Rattle.kql_dynamic.specs.Bags.{bag, bag_merge, bag_pack, pairs}
use Rattle.kql_dynamic.specs.Parts.{entries, entry_at}
use Rattle.kql_cells.specs.Same.{same}
use Rattle.kql_dynamic.specs.Sets.{distinct, is_among, set_difference, set_intersect, set_union}

-- an array up to an index and from the next one on, put together
abbrev pub SlicesJoin : Type 0
SlicesJoin = (xs : List Dyn) (k : ℕ) → array_concat (V.Array (sliced xs (pos 0) (pos k)) ∷ V.Array (sliced xs (pos (k + 1)) (negsuc 0)) ∷ []) ≡ array xs

-- of two arrays put together, the first by its last index
abbrev pub FirstIsSliced : Type 0
FirstIsSliced = (x : Dyn) (xs ys : List Dyn) → array_slice (V.Array ((x ∷ xs) ++ ys) ∷ V.Long (pos 0) ∷ V.Long (pos (length xs)) ∷ []) ≡ array (x ∷ xs)

-- and the second from there to the end
abbrev pub SecondIsSliced : Type 0
SecondIsSliced = (xs ys : List Dyn) → array_slice (V.Array (xs ++ ys) ∷ V.Long (pos (length xs)) ∷ V.Long (negsuc 0) ∷ []) ≡ array ys

-- the value of a key in the first of these bags that has it
abbrev pub first_value : List ℕ → List Dyn → Option Dyn
first_value k [] = None
first_value k (d ∷ ds) = option_or (option_and_then (entry_at k) (entries d)) (first_value k ds)

-- the first bag that has a key gives its value
abbrev pub FirstBagWins : Type 0
FirstBagWins = (args : List Dyn) (es : List (List ℕ × Dyn)) (k : List ℕ) → IsTrue (list_all is_well_formed_dynamic args) → bag_merge args ≡ bag es → entry_at k es ≡ first_value k args

-- the last of equal keys gives its value
abbrev pub LastPairWins : Type 0
LastPairWins = (args : List Dyn) (ps es : List (List ℕ × Dyn)) (k : List ℕ) → pairs args ≡ Some ps → bag_pack args ≡ bag es → entry_at k es ≡ entry_at k (reverse ps)

-- an array that holds, each once, the values of which a fact is true
abbrev pub IsSetOf : (Dyn → Type 0) → Value → Type 0
IsSetOf P v = (xs : List Dyn) × (v ≡ array xs) × AllPairs (λ x y. x ≢ y) xs × ((d : Dyn) → Contains xs d ↔ P d)

abbrev pub UnionHolds : Type 0
UnionHolds = (xs ys : List Dyn) → IsSetOf (λ d. Contains xs d ⊎ Contains ys d) (set_union (V.Array xs ∷ V.Array ys ∷ []))

abbrev pub IntersectHolds : Type 0
IntersectHolds = (xs ys : List Dyn) → IsSetOf (λ d. Contains xs d × Contains ys d) (set_intersect (V.Array xs ∷ V.Array ys ∷ []))

abbrev pub DifferenceHolds : Type 0
DifferenceHolds = (xs ys : List Dyn) → IsSetOf (λ d. Contains xs d × (¬ Contains ys d)) (set_difference (V.Array xs ∷ V.Array ys ∷ []))

-- a value stands where it occurs first: those of the first array, and then those of the second that are new
abbrev pub FirstsComeFirst : Type 0
FirstsComeFirst = (xs ys : List Dyn) → distinct (xs ++ ys) ≡ distinct xs ++ filter (λ y. not (is_among xs y)) (distinct ys)

-- how many of these stand before the first that is identical to a value
abbrev pub count_before : List Dyn → Dyn → ℕ
count_before [] d = 0
count_before (x ∷ xs) d = if same x d then 0 else count_before xs d + 1

-- an array whose values come in the order in which they occur first in a list
abbrev pub IsInOrderOf : List Dyn → Value → Type 0
IsInOrderOf xs v = (zs : List Dyn) × (v ≡ array zs) × AllPairs (λ a b. count_before xs a < count_before xs b) zs

abbrev pub UnionInOrder : Type 0
UnionInOrder = (xs ys : List Dyn) → IsInOrderOf (xs ++ ys) (set_union (V.Array xs ∷ V.Array ys ∷ []))

abbrev pub IntersectInOrder : Type 0
IntersectInOrder = (xs ys : List Dyn) → IsInOrderOf xs (set_intersect (V.Array xs ∷ V.Array ys ∷ []))

abbrev pub DifferenceInOrder : Type 0
DifferenceInOrder = (xs ys : List Dyn) → IsInOrderOf xs (set_difference (V.Array xs ∷ V.Array ys ∷ []))

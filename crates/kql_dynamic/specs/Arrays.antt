-- The calls on arrays, as functions on the elements. Each takes its arguments as one list.
use Rattle.std.specs.Prelude.{ℕ, ℤ, pos, negsuc, ◌+ℤ◌, List, [], ◌∷◌, ◌++◌, length, reverse, position, slice_range, Option, Some, None, option_map, option_and_then}
use Rattle.kql_cells.specs.declared.dynamic.Dyn.{Dyn}
use Rattle.kql_cells.specs.declared.dynamic.Dyn.TheVariants as V
use Rattle.kql_cells.specs.declared.value.Value.{Value}
use Rattle.kql_cells.specs.declared.value.Value.TheVariants as value
use Rattle.kql_dynamic.specs.Parts.{argument, elements, from_start, long, value_or_null, value_within_levels}
use Rattle.kql_cells.specs.Same.{same}

-- an array as a value
abbrev pub array : List Dyn → Value
array xs = value.Dynamic (V.Array xs)

-- how many elements there are; null where it is no array
abbrev pub array_length : List Dyn → Value
array_length args = value_or_null (elements (argument args 0)) (λ xs. value.Long (pos (length xs)))

-- the elements of all of these, one array after another; none where one is no array
abbrev pub joined : List Dyn → Option (List Dyn)
joined [] = Some []
joined (d ∷ ds) = option_and_then (λ xs. option_map (λ ys. xs ++ ys) (joined ds)) (elements d)

-- one array of all elements
abbrev pub array_concat : List Dyn → Value
array_concat args = value_or_null (joined args) array

-- a place, where one before the first is the first
abbrev pub at_or_after_first : ℤ → ℕ
at_or_after_first (pos i) = i
at_or_after_first (negsuc i) = 0

-- the elements from one index to another, both included
abbrev pub sliced : List Dyn → ℤ → ℤ → List Dyn
sliced xs a b = slice_range xs (at_or_after_first (from_start (length xs) a)) (at_or_after_first (from_start (length xs) b +ℤ pos 1))

-- the elements from one index to another; null where it is no array, or an index is no long
abbrev pub array_slice : List Dyn → Value
array_slice args = value_or_null (elements (argument args 0)) (λ xs. value_or_null (long (argument args 1)) (λ a. value_or_null (long (argument args 2)) (λ b. array (sliced xs a b))))

-- the elements from the last to the first
abbrev pub array_reverse : List Dyn → Value
array_reverse args = value_or_null (elements (argument args 0)) (λ xs. array (reverse xs))

-- a place, or -1 for none
abbrev pub place_or_less : Option ℕ → ℤ
place_or_less None = negsuc 0
place_or_less (Some i) = pos i

-- the place of the first element that is identical to the value, or -1; null where it is no array
abbrev pub array_index_of : List Dyn → Value
array_index_of args = value_or_null (elements (argument args 0)) (λ xs. value.Long (place_or_less (position (λ x. same x (argument args 1)) xs)))

-- the array of these; null where it would have more than 127 levels
abbrev pub pack_array : List Dyn → Value
pack_array args = value_within_levels (V.Array args)

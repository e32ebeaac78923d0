-- The calls on sets: arrays as sets of their elements. Each takes its arguments as one list.
use Rattle.std.specs.Prelude.{Bool, not, if◌then◌else◌, List, [], ◌∷◌, ◌++◌, filter, Option, option_and_then, option_map}
use Rattle.std.specs.List.{list_any}
use Rattle.kql_cells.specs.declared.dynamic.Dyn.{Dyn}
use Rattle.kql_cells.specs.declared.value.Value.{Value}
use Rattle.kql_cells.specs.declared.value.Value.TheVariants as value
use Rattle.kql_dynamic.specs.Arrays.{array}
use Rattle.kql_dynamic.specs.Parts.{argument, elements, value_or_null}
use Rattle.kql_cells.specs.Same.{same}

-- whether a value is identical to one of these
abbrev pub is_among : List Dyn → Dyn → Bool
is_among xs d = list_any (same d) xs

-- each value once, by its first occurrence
abbrev pub distinct : List Dyn → List Dyn
distinct [] = []
distinct (x ∷ xs) = x ∷ filter (λ y. not (same x y)) (distinct xs)

-- those that are among others, or those that are not
abbrev pub chosen : Bool → List Dyn → List Dyn → List Dyn
chosen wanted xs ys = filter (λ x. if wanted then is_among ys x else not (is_among ys x)) xs

-- the elements of the first two of these, none where one is no array
abbrev pub two_arrays : List Dyn → Option (List Dyn × List Dyn)
two_arrays args = option_and_then (λ xs. option_map (λ ys. (xs, ys)) (elements (argument args 1))) (elements (argument args 0))

-- what is made of the elements of two arrays; null where one is no array
abbrev pub of_two_arrays : List Dyn → (List Dyn → List Dyn → Value) → Value
of_two_arrays args make = value_or_null (two_arrays args) (λ p. make p.0 p.1)

-- the elements of both
abbrev pub set_union : List Dyn → Value
set_union args = of_two_arrays args (λ xs ys. array (distinct (xs ++ ys)))

-- those of the first that are in the second
abbrev pub set_intersect : List Dyn → Value
set_intersect args = of_two_arrays args (λ xs ys. array (distinct (filter (λ x. is_among ys x) xs)))

-- those of the first that are not in the second
abbrev pub set_difference : List Dyn → Value
set_difference args = of_two_arrays args (λ xs ys. array (distinct (filter (λ x. not (is_among ys x)) xs)))

-- whether an element is identical to the value; null where it is no array
abbrev pub set_has_element : List Dyn → Value
set_has_element args = value_or_null (elements (argument args 0)) (λ xs. value.Bool (is_among xs (argument args 1)))

-- The functions of dynamic values.
use Rattle.std.specs.Prelude.{ℕ, ◌==◌, List, [], ◌∷◌, Option, None, Some, length, map, unsigned_abs, if◌then◌else◌}
use Rattle.kql_dynamic.specs.Arrays.{array_concat, array_index_of, array_length, array_reverse, array_slice, pack_array}
use Rattle.kql_dynamic.specs.Bags.{bag_has_key, bag_keys, bag_merge, bag_pack}
use Rattle.kql_dynamic.specs.Json.{parsed}
use Rattle.kql_dynamic.specs.Parts.{at_index, at_name, text}
use Rattle.kql_dynamic.specs.Sets.{set_difference, set_has_element, set_intersect, set_union}
use Rattle.kql_ticks.specs.Texts.{moment_text, span_text}
use Rattle.kql_cells.specs.declared.dynamic.Dyn.{Dyn}
use Rattle.kql_cells.specs.declared.dynamic.Dyn.TheVariants as dyn
use Rattle.kql_cells.specs.declared.value.Value.{Value}
use Rattle.kql_cells.specs.declared.value.Value.TheVariants as value
use Rattle.kql_functions.specs.declared.func.DynamicFunc.{DynamicFunc}
use Rattle.kql_functions.specs.declared.func.DynamicFunc.TheVariants as func
use Rattle.kql_scalar_fns.specs.declared.dynamic.Operand.{Operand}
use Rattle.kql_scalar_fns.specs.declared.dynamic.Operand.TheVariants as an
use Rattle.kql_scalar_fns.specs.Arguments.{argument}

-- a value as an element: a datetime or timespan is its printed text
unfoldable pub element : Value → Dyn
element value.Null = dyn.Null
element (value.Bool b) = dyn.Bool b
element (value.Long n) = dyn.Long n
element (value.Text t) = dyn.Text t
element (value.Moment n) = dyn.Text (moment_text (unsigned_abs n))
element (value.Span n) = dyn.Text (span_text n)
element (value.Dynamic d) = d

-- an argument as an element
abbrev pub held : Operand → Dyn
held (an.Lent d) = d.now
held (an.Made d) = d

-- the entry of a name, or the element of an index
unfoldable pub at : Value → Value → Value
at (value.Dynamic d) (value.Text n) = at_name d n
at (value.Dynamic d) (value.Long i) = at_index d i
at _ _ = value.Null

-- what a dynamic text reads as; another dynamic is itself
abbrev pub read_or_itself : Dyn → Option (List ℕ) → Value
read_or_itself d None = value.Dynamic d
read_or_itself d (Some t) = parsed t

-- what a text reads as
unfoldable pub read : Value → Value
read (value.Text t) = parsed t
read (value.Dynamic d) = read_or_itself d (text d)
read _ = value.Null

-- what is made of one dynamic value
unfoldable pub of_one : (List Dyn → Value) → Value → Value
of_one make (value.Dynamic d) = make (d ∷ [])
of_one make _ = value.Null

-- what is made of so many arguments as elements, and of any number
unfoldable pub of_count : ℕ → (List Dyn → Value) → List Value → Value
of_count n make args = if length args == n then make (map element args) else value.Null

unfoldable pub of_all : (List Dyn → Value) → List Value → Value
of_all make args = make (map element args)

-- the functions of one dynamic value, and those of their arguments as elements
abbrev pub call_of_one : DynamicFunc → Value → Value
call_of_one func.ArrayLength v = of_one array_length v
call_of_one func.ArrayReverse v = of_one array_reverse v
call_of_one func.BagKeys v = of_one bag_keys v
call_of_one _ v = value.Null

abbrev pub call_of_elements : DynamicFunc → List Value → Value
call_of_elements func.ArrayConcat args = of_all array_concat args
call_of_elements func.ArraySlice args = of_count 3 array_slice args
call_of_elements func.ArrayIndexOf args = of_count 2 array_index_of args
call_of_elements func.BagHasKey args = of_count 2 bag_has_key args
call_of_elements func.BagMerge args = of_all bag_merge args
call_of_elements func.PackArray args = of_all pack_array args
call_of_elements func.BagPack args = of_all bag_pack args
call_of_elements func.SetUnion args = of_count 2 set_union args
call_of_elements func.SetIntersect args = of_count 2 set_intersect args
call_of_elements func.SetDifference args = of_count 2 set_difference args
call_of_elements func.SetHasElement args = of_count 2 set_has_element args
call_of_elements _ args = value.Null

-- what each function gives
unfoldable pub dynamic_call : DynamicFunc → List Value → Value
dynamic_call func.At args = at (argument args 0) (argument args 1)
dynamic_call func.ParseJson args = read (argument args 0)
dynamic_call func.ToDynamic args = read (argument args 0)
dynamic_call func.ArrayLength args = call_of_one func.ArrayLength (argument args 0)
dynamic_call func.ArrayReverse args = call_of_one func.ArrayReverse (argument args 0)
dynamic_call func.BagKeys args = call_of_one func.BagKeys (argument args 0)
dynamic_call f args = call_of_elements f args

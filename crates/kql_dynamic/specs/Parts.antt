-- What a dynamic value holds, and where it is a value itself.
use Rattle.std.specs.Prelude.{ℕ, ℤ, pos, negsuc, ◌+ℤ◌, if◌then◌else◌, List, length, nat_le, Option, Some, None, slice_get, slice_index_or}
use Rattle.std.specs.Map.{lookup}
use Rattle.std.specs.Str.{bytes_eq}
use Rattle.kql_cells.specs.Dynamic.{is_null, levels}
use Rattle.kql_cells.specs.declared.dynamic.Dyn.{Dyn, out-Dyn}
use Rattle.kql_cells.specs.declared.dynamic.Dyn.TheOpen.{Dyn-F}
use Rattle.kql_cells.specs.declared.dynamic.Dyn.TheVariants as V
use Rattle.kql_cells.specs.declared.value.Value.{Value}
use Rattle.kql_cells.specs.declared.value.Value.TheVariants as value

-- a dynamic null is the null value
abbrev pub value_of : Dyn → Value
value_of d = if is_null d then value.Null else value.Dynamic d

-- a value of at most 127 levels, else null
abbrev pub value_within_levels : Dyn → Value
value_within_levels d = if nat_le (levels d) 127 then value_of d else value.Null

-- what is made of what is there, else null
abbrev pub value_or_null : {X : Type 0} → Option X → (X → Value) → Value
value_or_null None make = value.Null
value_or_null (Some x) make = make x

abbrev pub elements_step : Dyn-F Dyn → Option (List Dyn)
elements_step (Dyn-F.Array parts) = Some parts
elements_step _ = None

-- the elements of an array, none where it is no array
unfoldable pub elements : Dyn → Option (List Dyn)
elements d = elements_step (out-Dyn d)

abbrev pub entries_step : Dyn-F Dyn → Option (List (List ℕ × Dyn))
entries_step (Dyn-F.Bag entries) = Some entries
entries_step _ = None

-- the entries of a bag, none where it is no bag
unfoldable pub entries : Dyn → Option (List (List ℕ × Dyn))
entries d = entries_step (out-Dyn d)

abbrev pub text_step : Dyn-F Dyn → Option (List ℕ)
text_step (Dyn-F.Text t) = Some t
text_step _ = None

-- the text, none where it is no text
unfoldable pub text : Dyn → Option (List ℕ)
text d = text_step (out-Dyn d)

abbrev pub long_step : Dyn-F Dyn → Option ℤ
long_step (Dyn-F.Long n) = Some n
long_step _ = None

-- the long, none where it is no long
unfoldable pub long : Dyn → Option ℤ
long d = long_step (out-Dyn d)

-- the value of a key, none where no entry has it
abbrev pub entry_at : List ℕ → List (List ℕ × Dyn) → Option Dyn
entry_at n es = lookup (λ k. bytes_eq k n) es

-- the place of an index: a negative one counts from the end
abbrev pub from_start : ℕ → ℤ → ℤ
from_start size (pos i) = pos i
from_start size (negsuc i) = pos size +ℤ negsuc i

-- the element at a place, none before the first and behind the last
abbrev pub element_at : {X : Type 0} → List X → ℤ → Option X
element_at xs (pos i) = slice_get xs i
element_at xs (negsuc i) = None

-- the value of a bag's entry
abbrev pub at_name : Dyn → List ℕ → Value
at_name d n = value_or_null (entries d) (λ es. value_or_null (entry_at n es) value_of)

-- the value of an array's element
abbrev pub at_index : Dyn → ℤ → Value
at_index d i = value_or_null (elements d) (λ xs. value_or_null (element_at xs (from_start (length xs) i)) value_of)

-- the argument at a place
abbrev pub argument : List Dyn → ℕ → Dyn
argument args i = slice_index_or args i V.Null

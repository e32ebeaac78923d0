-- The JSON of a dynamic value, in the words of `serde_json`.
use Rattle.std.specs.Prelude.{ℕ, Bool, List, [], ◌∷◌}
use Rattle.kql_cells.specs.declared.dynamic.Dyn.{Dyn, fold-Dyn}
use Rattle.kql_cells.specs.declared.dynamic.Dyn.TheOpen.{Dyn-F}
use Rattle.serde_json.specs.Data.{Data, null, boolean, number, string, array, object, Members, no_members, put}
use Rattle.serde_json.specs.Find.{of_integer}
use Rattle.serde_json.specs.View.{items_of, view}
use Rattle.serde_json.specs.Written.{compact_text, has_float}
use Rattle.serde_json.specs.declared.value.Value.{Value}

-- the members after each of these is put
abbrev pub puts : Members → List (List ℕ × Data) → Members
puts ms [] = ms
puts ms (e ∷ es) = puts (put e.0 e.1 ms) es

-- the JSON of a value, from that of its parts
abbrev pub data_step : Dyn-F Data → Data
data_step Dyn-F.Null = null
data_step (Dyn-F.Bool b) = boolean b
data_step (Dyn-F.Long n) = number (of_integer n)
data_step (Dyn-F.Text t) = string t
data_step (Dyn-F.Array parts) = array (items_of parts)
data_step (Dyn-F.Bag entries) = object (puts no_members entries)

-- the JSON of a dynamic value
unfoldable pub data_of : Dyn → Data
data_of = fold-Dyn Data data_step

abbrev pub entry_data : List ℕ × Dyn → List ℕ × Data
entry_data e = (e.0, data_of e.1)

-- the text of a dynamic value, with no space
abbrev pub printed : Dyn → List ℕ
printed d = compact_text (data_of d)

-- whether a value of the program holds a number that is no integer
abbrev pub is_float_value : Value → Bool
is_float_value v = has_float (view v)

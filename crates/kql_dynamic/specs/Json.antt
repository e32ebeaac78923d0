-- What a JSON text means as a dynamic value, in the words of `serde_json`.
use Rattle.std.specs.Prelude.{ℕ, ℤ, List, [], ◌∷◌, Option, Some, None, String, string_bytes}
use Rattle.std.specs.declared.alloc.Global.{Global}
use Rattle.kql_cells.specs.declared.dynamic.Dyn.{Dyn}
use Rattle.kql_cells.specs.declared.dynamic.Dyn.TheVariants as V
use Rattle.kql_cells.specs.declared.value.Value as K
use Rattle.kql_cells.specs.declared.value.Value.TheVariants as value
use Rattle.serde_json.specs.Data.{Num, Data, null, boolean, number, string, array, object, Items, no_items, item, Members, no_members, member}
use Rattle.serde_json.specs.Find.{as_i64}
use Rattle.serde_json.specs.Read.{read}
use Rattle.serde_json.specs.View.{view}
use Rattle.serde_json.specs.declared.value.Value.{Value}
use Rattle.kql_dynamic.specs.Parts.{value_of}

abbrev pub long_or_null : Option ℤ → Dyn
long_or_null None = V.Null
long_or_null (Some x) = V.Long x

-- a number is a long where `serde_json` gives it as an `i64`, and else null
abbrev pub number_dyn : Num → Dyn
number_dyn n = long_or_null (as_i64 n)

-- the dynamic value of JSON
abbrev mutual
  pub dyn_of : Data → Dyn
  dyn_of null = V.Null
  dyn_of (boolean b) = V.Bool b
  dyn_of (number n) = number_dyn n
  dyn_of (string s) = V.Text s
  dyn_of (array ds) = V.Array (dyns_of ds)
  dyn_of (object ms) = V.Bag (entries_of ms)

  pub dyns_of : Items → List Dyn
  dyns_of no_items = []
  dyns_of (item d ds) = dyn_of d ∷ dyns_of ds

  pub entries_of : Members → List (List ℕ × Dyn)
  entries_of no_members = []
  entries_of (member k d ms) = (k, dyn_of d) ∷ entries_of ms

-- a text that is not read is a dynamic value holding that text
abbrev pub read_or_text : List ℕ → Option Data → K.Value
read_or_text t None = value.Dynamic (V.Text t)
read_or_text t (Some d) = value_of (dyn_of d)

-- the value of a JSON text
unfoldable pub parsed : List ℕ → K.Value
parsed t = read_or_text t (read t)

-- the same of values of the program
abbrev pub part_of : Value → Dyn
part_of v = dyn_of (view v)

abbrev pub entry_of : String Global × Value → List ℕ × Dyn
entry_of e = (string_bytes e.0, dyn_of (view e.1))

-- How many numbers of JSON a table has null for, since they are no whole numbers of the language.
use Rattle.std.specs.Prelude.{ℕ, ℤ, ◌+◌, ◌-◌, ◌^◌, min, Bool, true, false, List, [], ◌∷◌, Option, None, Some, map, if◌then◌else◌}
use Rattle.std.specs.List.{sum_by}
use Rattle.std.specs.Str.{is_utf8}
use Rattle.serde_json.specs.Data.{Num, Data, null, boolean, number, string, array, object, Items, no_items, item, Members, no_members, member}
use Rattle.serde_json.specs.Find.{as_i64}
use Rattle.serde_json.specs.Read.{read}
use Rattle.kql_cells.specs.declared.value.Kind.{Kind}
use Rattle.kql_cells.specs.declared.value.Kind.TheVariants as kind
use Rattle.csv_io.specs.Header.{kind_of}
use Rattle.csv_io.specs.Load.{file_records}

-- one for a number that is no whole number in 64 bits
abbrev pub none_losses : Option ℤ → ℕ
none_losses None = 1
none_losses (Some x) = 0

abbrev pub number_losses : Num → ℕ
number_losses n = none_losses (as_i64 n)

-- those of JSON
abbrev mutual
  pub data_losses : Data → ℕ
  data_losses null = 0
  data_losses (boolean b) = 0
  data_losses (number n) = number_losses n
  data_losses (string s) = 0
  data_losses (array ds) = item_losses ds
  data_losses (object ms) = member_losses ms

  pub item_losses : Items → ℕ
  item_losses no_items = 0
  item_losses (item d ds) = data_losses d + item_losses ds

  pub member_losses : Members → ℕ
  member_losses no_members = 0
  member_losses (member k d ms) = data_losses d + member_losses ms

-- those of a text, which has none where it is no JSON
abbrev pub read_losses : Option Data → ℕ
read_losses None = 0
read_losses (Some d) = data_losses d

-- those of a field
unfoldable pub field_losses : List ℕ → ℕ
field_losses field = if is_utf8 field then read_losses (read field) else 0

-- whether a field of a header names a dynamic column
abbrev pub is_dynamic : Kind → Bool
is_dynamic kind.Dynamic = true
is_dynamic _ = false

unfoldable pub names_dynamic : List ℕ → Bool
names_dynamic field = is_dynamic (kind_of field)

-- those of a field, where its column is dynamic
unfoldable pub cell_losses : Bool → List ℕ → ℕ
cell_losses b field = if b then field_losses field else 0

-- those of a row
abbrev pub row_losses : List Bool → List (List ℕ) → ℕ
row_losses [] fields = 0
row_losses (b ∷ bs) [] = 0
row_losses (b ∷ bs) (f ∷ fs) = cell_losses b f + row_losses bs fs

-- those of the rows behind a header
unfoldable pub record_losses : List (List (List ℕ)) → ℕ
record_losses [] = 0
record_losses (header ∷ rows) = sum_by (row_losses (map names_dynamic header)) rows

-- those of a file
abbrev pub losses : List ℕ → ℕ
losses bytes = record_losses (file_records bytes)

-- a count as 64 bits hold it
abbrev pub held : ℕ → ℕ
held n = min n (2 ^ 64 - 1)

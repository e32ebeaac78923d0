-- A table as JSON.
use Rattle.std.specs.Prelude.{◌≡◌, ℕ, ℤ, pos, ◌==◌, List, [], ◌∷◌, ◌++◌, Option, Some, None, flat_map, if◌then◌else◌, map, option_map, unsigned_abs}
use Rattle.kql_cells.specs.Table.{Grid}
use Rattle.kql_cells.specs.Values.{IsOfKind}
use Rattle.kql_cells.specs.declared.dynamic.Dyn.{Dyn, out-Dyn}
use Rattle.kql_cells.specs.declared.dynamic.Dyn.TheOpen.{Dyn-F}
use Rattle.kql_cells.specs.declared.dynamic.Dyn.TheVariants as dyn
use Rattle.kql_cells.specs.declared.schema.Column.{Column}
use Rattle.kql_cells.specs.declared.value.Kind.{Kind}
use Rattle.kql_cells.specs.declared.value.Kind.TheVariants as kind
use Rattle.kql_cells.specs.declared.value.Value.{Value}
use Rattle.kql_cells.specs.declared.value.Value.TheVariants as value
use Rattle.kql_dynamic.specs.Json.{parsed}
use Rattle.kql_dynamic.specs.Printed.{printed}
use Rattle.kql_ticks.specs.Forms.{moment_in, span_in}
use Rattle.kql_ticks.specs.Texts.{moment_text, span_text}

-- a cell as a dynamic value: datetimes and timespans are texts
abbrev pub dyn_of_cell : Value → Dyn
dyn_of_cell value.Null = dyn.Null
dyn_of_cell (value.Bool b) = dyn.Bool b
dyn_of_cell (value.Long n) = dyn.Long n
dyn_of_cell (value.Text t) = dyn.Text t
dyn_of_cell (value.Moment x) = dyn.Text (moment_text (unsigned_abs x))
dyn_of_cell (value.Span x) = dyn.Text (span_text x)
dyn_of_cell (value.Dynamic d) = d

-- a column's name and a cell
abbrev pub member_text : Column → Value → List ℕ
member_text c v = printed (dyn.Text c.name) ++ 58 ∷ printed (dyn_of_cell v)

-- the members of a row
unfoldable pub members : List Column → List Value → List (List ℕ)
members [] row = []
members (c ∷ cs) [] = []
members (c ∷ cs) (v ∷ row) = member_text c v ∷ members cs row

-- what stands before a text of a list: a comma, but before the first
abbrev pub separator : ℕ → List ℕ
separator place = if place == 0 then [] else 44 ∷ []

-- texts with a comma between two
unfoldable pub listed : List (List ℕ) → List ℕ
listed [] = []
listed (x ∷ xs) = x ++ flat_map (λ y. 44 ∷ y) xs

-- a row as an object
abbrev pub object_text : List Column → List Value → List ℕ
object_text cs row = 123 ∷ listed (members cs row) ++ 125 ∷ []

-- an object for each row, each on a line
abbrev pub lines_text : Grid → List ℕ
lines_text t = flat_map (λ row. object_text t.columns row ++ 10 ∷ []) t.lines

-- an array of an object for each row, each on a line of its own
abbrev pub array_text : Grid → List ℕ
array_text t = 91 ∷ listed (map (λ row. 10 ∷ object_text t.columns row) t.lines) ++ 10 ∷ 93 ∷ 10 ∷ []

-- a value of what a text reads as, or null
abbrev pub or_null : {X : Type 0} → (X → Value) → Option X → Value
or_null make None = value.Null
or_null make (Some x) = make x

-- the cell of a type that a value of JSON says: datetimes and timespans are read from their texts
abbrev pub scalar_in : Kind → Dyn-F Dyn → Value
scalar_in kind.Bool (Dyn-F.Bool b) = value.Bool b
scalar_in kind.Long (Dyn-F.Long n) = value.Long n
scalar_in kind.Text (Dyn-F.Text t) = value.Text t
scalar_in kind.Moment (Dyn-F.Text t) = or_null (λ n. value.Moment (pos n)) (moment_in t)
scalar_in kind.Span (Dyn-F.Text t) = or_null value.Span (span_in t)
scalar_in _ _ = value.Null

-- the cell of a type that a value which was read says
abbrev pub cell_in : Kind → Value → Value
cell_in kind.Dynamic v = v
cell_in k (value.Dynamic d) = scalar_in k (out-Dyn d)
cell_in k v = value.Null

-- a value, read as a cell's type, is the cell
abbrev pub ReadsAs : Value → Value → Type 0
ReadsAs read v = (k : Kind) → IsOfKind k v → cell_in k read ≡ v

-- the JSON of a cell, read as the type of its column, is the cell
abbrev pub ReadsBack : Value → Type 0
ReadsBack v = ReadsAs (parsed (printed (dyn_of_cell v))) v

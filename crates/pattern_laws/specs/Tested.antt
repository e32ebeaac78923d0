-- Whether a program can be lifted, as a test of the program alone.
use Rattle.std.specs.Prelude.{◌≡◌, ◌<◌, ℕ, Bool, false, not, ◌&&◌, List, Option, None, Some, IsTrue, length, map}
use Rattle.std.specs.List.{list_all}
use Rattle.kql_cells.specs.Catalogues.{Named, schema_name, schemas_of}
use Rattle.kql_cells.specs.Seen.{row_at}
use Rattle.kql_cells.specs.Table.{Grid}
use Rattle.kql_cells.specs.declared.schema.Column.{Column}
use Rattle.kql_cells.specs.declared.schemas.NamedSchema.{NamedSchema}
use Rattle.kql_bound.specs.declared.plan.Program.{Program}
use Rattle.kql_meaning.specs.Fits.{fits, table_columns}
use Rattle.kql_meaning.specs.FittingOperators.{are_distinct}
use Rattle.kql_meaning.specs.Sources.{named_table}
use Rattle.kql_meaning.specs.Tables.{names_of}
use Rattle.pattern_lift.specs.declared.calls.Derived.{Derived}
use Rattle.pattern_lift.specs.Derived.{derived, name_of_call}
use Rattle.pattern_lift.specs.Marks.{begins_with}
use Rattle.pattern_laws.specs.LawsOfFitting.{FitsUnlifted}
use Rattle.pattern_laws.specs.Liftable.{program_is_liftable}
use Rattle.pattern_laws.specs.LawsOfPrograms.{CanBeLifted}

-- Columns whose names differ, of which none begins with the marks.
unfoldable pub are_own : List ℕ → List Column → Bool
are_own marks columns = are_distinct (names_of columns) && list_all (λ n. not (begins_with marks n)) (names_of columns)

abbrev pub own_if : List ℕ → Option (List Column) → Bool
own_if marks None = false
own_if marks (Some columns) = are_own marks columns

-- A prefix with calls: the table that it reads is one of the program, and its calls stand at places that differ.
unfoldable pub derived_is_sound : List ℕ → List NamedSchema → Derived → Bool
derived_is_sound marks tables d = own_if marks (table_columns tables d.table) && are_distinct (map (name_of_call marks) d.calls)

-- The program: calls stand where they may, and at places that differ.
unfoldable pub can_lift : List ℕ → Program → Bool
can_lift marks p =
    program_is_liftable marks p && (are_distinct (map (λ (d : Derived). d.name) (derived marks p))
    && list_all (derived_is_sound marks p.tables) (derived marks p))

-- No table's name begins with the marks.
unfoldable pub tables_are_unmarked : List ℕ → List NamedSchema → Bool
tables_are_unmarked marks schemas = list_all (λ s. not (begins_with marks (schema_name s))) schemas

-- A table with these columns, and in each row a value for each of them.
pub record HasRows (cs : List Column) (t : Grid) : Type 0 where
  pub columns : t.columns ≡ cs
  pub full : (i : ℕ) → i < length t.lines → length (row_at t.lines i) ≡ length cs

-- Over a catalogue with the program's tables, of which no name begins with the marks, such a program can be lifted.
abbrev pub TestedIsLiftable : Type 0
TestedIsLiftable = (marks : List ℕ) (p : Program) (catalogue : List Named) → IsTrue (can_lift marks p) → IsTrue (tables_are_unmarked marks (schemas_of catalogue)) → ((n : List ℕ) (columns : List Column) → table_columns p.tables n ≡ Some columns → HasRows columns (named_table catalogue n)) → CanBeLifted marks p catalogue

-- It has what is asked for the lifted program to fit.
abbrev pub TestedFits : Type 0
TestedFits = (marks : List ℕ) (p : Program) (schemas : List NamedSchema) → IsTrue (can_lift marks p) → IsTrue (tables_are_unmarked marks schemas) → IsTrue (fits p schemas) → FitsUnlifted marks p schemas

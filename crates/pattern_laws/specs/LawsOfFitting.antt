-- The lifted program fits the schemas of its tables and of the derived ones, with the columns that the program has.
use Rattle.std.specs.Prelude.{◌≡◌, ℕ, not, List, ◌++◌, Contains, IsTrue, map}
use Rattle.std.specs.List.{list_all}
use Rattle.kql_cells.specs.Catalogues.{Named, schema_name, schemas_of}
use Rattle.kql_cells.specs.declared.schema.Column.{Column}
use Rattle.kql_cells.specs.declared.schemas.NamedSchema.{NamedSchema}
use Rattle.kql_bound.specs.declared.plan.Program.{Program}
use Rattle.kql_meaning.specs.Fits.{fits, program_columns}
use Rattle.kql_meaning.specs.FittingOperators.{are_distinct}
use Rattle.kql_meaning.specs.Tables.{names_of}
use Rattle.pattern_lift.specs.declared.calls.Derived.{Derived}
use Rattle.pattern_lift.specs.Derived.{columns_of_table, derived, derived_schema, name_of_call}
use Rattle.pattern_lift.specs.Lifted.{lifted_program}
use Rattle.pattern_lift.specs.Marks.{begins_with}
use Rattle.pattern_laws.specs.LawsOfPrograms.{CanBeLifted}
use Rattle.pattern_laws.specs.Liftable.{program_is_liftable}
use Rattle.pattern_laws.specs.Meaning.{Told}
use Rattle.pattern_laws.specs.Tables.{derived_tables}

-- The names of columns differ, and none begins with the marks.
pub record AreOwn (marks : List ℕ) (columns : List Column) : Type 0 where
  pub differ : IsTrue (are_distinct (names_of columns))
  pub own : IsTrue (list_all (λ n. not (begins_with marks n)) (names_of columns))

-- What is asked of a program, of the marks and of the schemas that it fits.
pub record FitsUnlifted (marks : List ℕ) (p : Program) (schemas : List NamedSchema) : Type 0 where
  pub fits : IsTrue (fits p schemas)
  -- calls stand in prefixes alone, and no name begins with the marks
  pub liftable : IsTrue (program_is_liftable marks p)
  pub own : IsTrue (list_all (λ s. not (begins_with marks (schema_name s))) schemas)
  pub tables : (d : Derived) → Contains (derived marks p) d → AreOwn marks (columns_of_table p.tables d.table)
  -- calls stand at places that differ
  pub names : IsTrue (are_distinct (map (λ (d : Derived). d.name) (derived marks p)))
  pub calls : (d : Derived) → Contains (derived marks p) d → IsTrue (are_distinct (map (name_of_call marks) d.calls))

abbrev pub LiftedFits : Type 0
LiftedFits = (marks : List ℕ) (p : Program) (schemas : List NamedSchema) → FitsUnlifted marks p schemas → IsTrue (fits (lifted_program marks p) (schemas ++ map (derived_schema marks p.tables) (derived marks p))) × (program_columns (lifted_program marks p) ≡ program_columns p)

-- Over a catalogue whose tables the program reads.
abbrev pub LiftedFitsTables : Type 0
LiftedFitsTables = (told : Told) (marks : List ℕ) (p : Program) (catalogue : List Named) → CanBeLifted marks p catalogue → IsTrue (fits p (schemas_of catalogue)) → IsTrue (fits (lifted_program marks p) (schemas_of (catalogue ++ derived_tables told marks p catalogue)))

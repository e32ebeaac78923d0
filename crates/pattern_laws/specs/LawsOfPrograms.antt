-- The lifted program, over a catalogue with the derived tables, means what the program means by what is told.
use Rattle.std.specs.Prelude.{◌≡◌, ◌<◌, ℕ, not, List, [], ◌++◌, Contains, IsTrue, length, map}
use Rattle.std.specs.List.{list_all}
use Rattle.kql_cells.specs.Catalogues.{Named, table_name}
use Rattle.kql_cells.specs.Seen.{row_at}
use Rattle.kql_bound.specs.declared.plan.Program.{Program}
use Rattle.kql_meaning.specs.FittingOperators.{are_distinct}
use Rattle.kql_meaning.specs.Plans.{means}
use Rattle.kql_meaning.specs.Sources.{named_table}
use Rattle.kql_meaning.specs.Tables.{names_of}
use Rattle.pattern_lift.specs.declared.calls.Derived.{Derived}
use Rattle.pattern_lift.specs.Derived.{columns_of_table, derived, name_of_call}
use Rattle.pattern_lift.specs.Lifted.{lifted_program}
use Rattle.pattern_lift.specs.Marks.{begins_with}
use Rattle.pattern_laws.specs.Liftable.{program_is_liftable}
use Rattle.pattern_laws.specs.Meaning.{Told, told_means}
use Rattle.pattern_laws.specs.Tables.{derived_tables}

-- A table that a prefix with calls reads: it has the columns that the program says, its names differ and do not begin with the marks,
-- and each row has a value for each column.
pub record IsRead (marks : List ℕ) (p : Program) (catalogue : List Named) (d : Derived) : Type 0 where
  pub columns : columns_of_table p.tables d.table ≡ (named_table catalogue d.table).columns
  pub differ : IsTrue (are_distinct (names_of (named_table catalogue d.table).columns))
  pub own : IsTrue (list_all (λ n. not (begins_with marks n)) (names_of (named_table catalogue d.table).columns))
  pub full : (i : ℕ) → i < length (named_table catalogue d.table).lines → length (row_at (named_table catalogue d.table).lines i) ≡ length (named_table catalogue d.table).columns

-- What is asked of a program, of the marks and of the catalogue.
pub record CanBeLifted (marks : List ℕ) (p : Program) (catalogue : List Named) : Type 0 where
  -- calls stand in prefixes alone, and no name begins with the marks
  pub liftable : IsTrue (program_is_liftable marks p)
  pub own : IsTrue (list_all (λ n. not (begins_with marks (table_name n))) catalogue)
  -- calls stand at places that differ
  pub names : IsTrue (are_distinct (map (λ (d : Derived). d.name) (derived marks p)))
  pub calls : (d : Derived) → Contains (derived marks p) d → IsTrue (are_distinct (map (name_of_call marks) d.calls))
  pub tables : (d : Derived) → Contains (derived marks p) d → IsRead marks p catalogue d

abbrev pub LiftedMeans : Type 0
LiftedMeans = (told : Told) (marks : List ℕ) (p : Program) (catalogue : List Named) → CanBeLifted marks p catalogue → means (lifted_program marks p) (catalogue ++ derived_tables told marks p catalogue) ≡ told_means told p catalogue

-- A program without calls stays as it is.
abbrev pub StaysWithoutCalls : Type 0
StaysWithoutCalls = (marks : List ℕ) (p : Program) → derived marks p ≡ [] → lifted_program marks p ≡ p

-- What fitting promises of a whole program.
use Rattle.std.specs.Prelude.{List, Contains, IsSomeAnd, IsTrue}
use Rattle.kql_cells.specs.Catalogues.{schemas_of}
use Rattle.kql_cells.specs.Catalogues.{Named}
use Rattle.kql_bound.specs.declared.plan.Program.{Program}
use Rattle.kql_meaning.specs.Fits.{fits, program_columns}
use Rattle.kql_meaning.specs.Plans.{means}
use Rattle.kql_fit_laws.specs.LawsOfRows.{IsTable, IsTableOf}

-- The rows of each table of a catalogue fit its columns, of which no two have one name.
abbrev pub AreTables : List Named → Type 0
AreTables catalogue = (n : Named) → Contains catalogue n → IsTable n.table

-- A program that fits the schemas of a catalogue of tables has columns, and means a table of these columns.
abbrev pub FittingProgramsKeep : Type 0
FittingProgramsKeep = (p : Program) (catalogue : List Named) → AreTables catalogue → IsTrue (fits p (schemas_of catalogue)) → IsSomeAnd (program_columns p) (λ columns. IsTableOf columns (means p catalogue))

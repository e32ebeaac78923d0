-- The program that a call gives means what the program means by what patterns find.
use Rattle.std.specs.Prelude.{◌≡◌, All, IsTrue, List, None, Ok}
use Rattle.kql_cells.specs.Catalogues.{Named, schemas_of}
use Rattle.kql_cells.specs.Table.{IsGrid}
use Rattle.kql_lexer.specs.declared.token.Token.{Token}
use Rattle.kql_bound.specs.declared.plan.Program.{Program}
use Rattle.kql_meaning.specs.Fits.{fits}
use Rattle.kql_meaning.specs.Plans.{means}
use Rattle.pattern_laws.specs.Meaning.{told_means}
use Rattle.pattern_run.specs.declared.lifted.Lifted.{Lifted}
use Rattle.pattern_run.specs.Patterned.{Found, patterned, told_by}
use Rattle.pattern_run.specs.Placed.{HasNoOthers}

-- The tables are tables: each row has a value for each column.
abbrev pub AreGrids : List Named → Type 0
AreGrids tables = All (λ (t : Named). IsGrid t.table) tables

-- A program means the same as another one does by what these patterns find.
abbrev pub MeansToldBy : Found → Program → List Named → Lifted → Type 0
MeansToldBy found p tables l = means l.program l.catalogue ≡ told_means (told_by found) p tables

abbrev pub PatternedMeans : Type 0
PatternedMeans = (found : Found) (tokens : List Token) (p : Program) (tables : List Named) (l : Lifted) → AreGrids tables → IsTrue (fits p (schemas_of tables)) → HasNoOthers p → patterned found None tokens p tables ≡ Ok l → MeansToldBy found p tables l

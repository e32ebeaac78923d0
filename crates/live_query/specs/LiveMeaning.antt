-- A program over the one table of a name.
use Rattle.std.specs.Prelude.{List, [], ◌∷◌, IsTrue}
use Rattle.kql_cells.specs.Catalogues.{Named}
use Rattle.kql_cells.specs.Table.{Grid}
use Rattle.kql_cells.specs.declared.schema.Column.{Column}
use Rattle.kql_cells.specs.declared.schemas.NamedSchema.{NamedSchema}
use Rattle.kql_meaning.specs.Fits.{fits}
use Rattle.kql_meaning.specs.Plans.{means}
use Rattle.live_query.specs.declared.query.LiveQuery.{LiveQuery}

-- the table under the name, and its schema
abbrev pub named : LiveQuery → Grid → Named
named q t = record { name = q.name; table = t }

abbrev pub named_schema : LiveQuery → List Column → NamedSchema
named_schema q columns = record { name = q.name; schema = columns }

-- the program fits a table of these columns
abbrev pub FitsColumns : LiveQuery → List Column → Type 0
FitsColumns q columns = IsTrue (fits q.program (named_schema q columns ∷ []))

-- the table that the program means over a table
abbrev pub live_means : LiveQuery → Grid → Grid
live_means q t = means q.program (named q t ∷ [])

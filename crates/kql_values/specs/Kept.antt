-- The tables that a catalogue keeps, as contracts see them.
use Rattle.std.specs.Prelude.{List, map}
use Rattle.kql_cells.specs.Catalogues as seen
use Rattle.kql_cells.specs.Table.{Grid}
use Rattle.kql_values.specs.declared.catalogue.Named.{Named}

-- a table under its name
abbrev pub named_of : Named → seen.Named
named_of t = record { name = t.name; table = t.table }

abbrev pub all_named : List Named → List seen.Named
all_named tables = map named_of tables

-- the table under its name
abbrev pub table_in : seen.Named → Grid
table_in t = t.table

-- The names of tables and schemas.
use Rattle.std.specs.Prelude.{ℕ, List, map}
use Rattle.kql_cells.specs.Table.{Grid}
use Rattle.kql_cells.specs.declared.schemas.NamedSchema.{NamedSchema}

-- a table under its name
pub record Named : Type 0 where
  pub name : List ℕ
  pub table : Grid

abbrev pub table_name : Named → List ℕ
table_name t = t.name

abbrev pub schema_name : NamedSchema → List ℕ
schema_name s = s.name

-- a table's schema under its name
abbrev pub schema_of : Named → NamedSchema
schema_of t = record { name = t.name; schema = t.table.columns }

abbrev pub schemas_of : List Named → List NamedSchema
schemas_of tables = map schema_of tables

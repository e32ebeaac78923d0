-- The tables that a program reads, each once and in the order in which the text first names them.
use Rattle.std.specs.Prelude.{ℕ, List, [], ◌∷◌, ◌++◌, Option, None, Some, bytes_eq, filter_map, find, fold, map}
use Rattle.std.specs.List.{flat_map}
use Rattle.kql_cells.specs.Catalogues.{schema_name}
use Rattle.kql_cells.specs.declared.schemas.NamedSchema.{NamedSchema}
use Rattle.kql_bound.specs.declared.plan.Op.{Op, fold-Op}
use Rattle.kql_bound.specs.declared.plan.Op.TheOpen.{Op-F, Plan-F}
use Rattle.kql_bound.specs.declared.plan.Plan.{Plan, fold-Plan}
use Rattle.kql_bound.specs.declared.plan.Source.{Source}
use Rattle.kql_bound.specs.declared.plan.Source.TheVariants as source
use Rattle.kql_meaning.specs.Tables.{distinct_by}

abbrev pub TableNames : Type 0
TableNames = List (List ℕ)

unfoldable pub table_of_source : Source → TableNames
table_of_source (source.Table name) = name ∷ []
table_of_source (source.Let i) = []
table_of_source (source.Range column from to step) = []
table_of_source (source.Print items) = []

abbrev pub all_of : List TableNames → TableNames
all_of parts = flat_map (λ (names : TableNames). names) parts

-- An operator names the tables of the plans and operators in it.
abbrev pub op_tables_step : Op-F TableNames TableNames → TableNames
op_tables_step (Op-F.Join j right) = right
op_tables_step (Op-F.Union inner others) = all_of others
op_tables_step (Op-F.Partition c ops) = all_of ops
op_tables_step _ = []

abbrev pub plan_tables_step : Plan-F TableNames TableNames → TableNames
plan_tables_step p = table_of_source p.source ++ all_of p.ops

-- The tables that a plan names, in the order of the text.
unfoldable pub plan_tables : Plan → TableNames
plan_tables = fold-Plan TableNames TableNames op_tables_step plan_tables_step

-- And an operator, operators, and plans.
unfoldable pub op_tables : Op → TableNames
op_tables = fold-Op TableNames TableNames op_tables_step plan_tables_step

unfoldable pub ops_tables : List Op → TableNames
ops_tables ops = all_of (map op_tables ops)

unfoldable pub plans_tables : List Plan → TableNames
plans_tables plans = all_of (map plan_tables plans)

-- The schema of a name, and the schemas of these tables.
unfoldable pub schema_named : List NamedSchema → List ℕ → Option NamedSchema
schema_named schemas n = find (λ (s : NamedSchema). bytes_eq (schema_name s) n) schemas

unfoldable pub schemas_named : List NamedSchema → TableNames → List NamedSchema
schemas_named schemas names = filter_map (λ n. find (λ (s : NamedSchema). bytes_eq (schema_name s) n) schemas) names

-- The tables that plans read, with their schemas.
unfoldable pub tables_read : List NamedSchema → List Plan → List NamedSchema
tables_read schemas plans = schemas_named schemas (distinct_by bytes_eq (all_of (map plan_tables plans)))

-- The tables read so far and those of more names, one after another: each that has a schema and does not stand there.
abbrev pub with_schema : List NamedSchema → Option NamedSchema → Option NamedSchema → List NamedSchema
with_schema made (Some s) found = made
with_schema made None None = made
with_schema made None (Some s) = made ++ s ∷ []

unfoldable pub with_table_read : List NamedSchema → List NamedSchema → List ℕ → List NamedSchema
with_table_read schemas made n = with_schema made (schema_named made n) (schema_named schemas n)

unfoldable pub with_tables_read : List NamedSchema → List NamedSchema → TableNames → List NamedSchema
with_tables_read schemas made names = fold (with_table_read schemas) made names

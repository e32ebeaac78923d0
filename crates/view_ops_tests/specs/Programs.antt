-- The program that summarizes a table.
use Rattle.std.specs.Prelude.{ℕ, List, [], ◌∷◌}
use Rattle.kql_cells.specs.declared.schema.Column.{Column}
use Rattle.kql_bound.specs.declared.parts.GroupPlan.{GroupPlan}
use Rattle.kql_bound.specs.declared.plan.Op.TheVariants as op
use Rattle.kql_bound.specs.declared.plan.Program.{Program}
use Rattle.kql_bound.specs.declared.plan.Source.TheVariants as source

-- `T`
unfoldable pub table_name : List ℕ
table_name = 84 ∷ []

unfoldable pub summarizing : GroupPlan → List Column → Program
summarizing g columns = record {
  tables = record { name = table_name; schema = columns } ∷ [];
  lets = [];
  main = record { source = source.Table table_name; ops = op.Summarize g ∷ [] };
}

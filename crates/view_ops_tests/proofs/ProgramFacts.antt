-- Where the program that summarizes a table fits, the plan fits the table's columns.
use Rattle.std.proofs.Common.{◌≡◌, ◌<◌, ℕ, Bool, true, false, List, [], ◌∷◌, length, ap, ◌∙◌, refl, sym, arith}
use Rattle.std.specs.Prelude.{◌&&◌, Option, Some, is_some}
use Rattle.std.proofs.lemmas.Bool.{and_parts}
use Rattle.kql_cells.specs.Catalogues.{schema_name}
use Rattle.kql_cells.specs.Named.{IsAbsent}
use Rattle.kql_cells.specs.declared.schema.Column.{Column}
use Rattle.kql_cells.specs.declared.schemas.NamedSchema.{NamedSchema}
use Rattle.kql_bound.specs.declared.parts.GroupPlan.{GroupPlan}
use Rattle.kql_bound.specs.declared.plan.Op.TheVariants as op
use Rattle.kql_bound.specs.declared.plan.Plan.{Plan}
use Rattle.kql_bound.specs.declared.plan.Program.{Program}
use Rattle.kql_bound.specs.declared.plan.Source.TheVariants as source
use Rattle.kql_meaning.specs.Fits.{Known, after_all, fits, known_of, lets_columns, of_columns, op_columns, ops_columns, plan_columns, program_columns, source_columns, table_columns, tables_stand}
use Rattle.kql_meaning.specs.FittingOperators.{answer_if, summarize_fits}
use Rattle.kql_meaning.specs.Summarize.{group_columns}
use Rattle.kql_meaning.proofs.OperatorFitLaws.{lets-start, op-Summarize, plan-some}
use Rattle.view_ops_tests.specs.Programs.{summarizing, table_name}

abbrev tables_of : List Column → List NamedSchema
tables_of cs = record { name = table_name; schema = cs } ∷ []

abbrev main_of : GroupPlan → Plan
main_of g = record { source = source.Table table_name; ops = op.Summarize g ∷ [] }

source-there : (cs : List Column) (lets : List (List Column)) → source_columns (source.Table table_name) (known_of (tables_of cs) lets) ≡ Some cs
unfolding source_columns table_columns table_name
source-there cs lets = refl

one-op : (g : GroupPlan) (k : Known) (cs : List Column) → ops_columns (op.Summarize g ∷ []) k false cs ≡ op_columns (op.Summarize g) k false cs
unfolding ops_columns after_all of_columns
one-op g k cs = refl

main-columns : (g : GroupPlan) (cs : List Column) → plan_columns (main_of g) (known_of (tables_of cs) []) ≡ answer_if (summarize_fits g cs) (group_columns g cs)
main-columns g cs =
    let k = known_of (tables_of cs) [] in
    plan-some (main_of g) k cs (source-there cs []) ∙ (one-op g k cs ∙ op-Summarize g k false cs)

program-is : (g : GroupPlan) (cs : List Column) → program_columns (summarizing g cs) ≡ answer_if (summarize_fits g cs) (group_columns g cs)
unfolding program_columns summarizing
program-is g cs = rw (lets-start (tables_of cs)) (main-columns g cs)

there : (g : GroupPlan) (cs : List Column) (schemas : List NamedSchema) → fits (summarizing g cs) schemas ≡ true → is_some (program_columns (summarizing g cs)) ≡ true
unfolding fits
there g cs schemas h = (and_parts (tables_stand (summarizing g cs).tables schemas) (is_some (program_columns (summarizing g cs))) h).1

pub program-fits : (p : Program) (g : GroupPlan) (cs : List Column) (schemas : List NamedSchema) (b : Bool) → p ≡ summarizing g cs → b ≡ fits p schemas → b ≡ true → is_some (answer_if (summarize_fits g cs) (group_columns g cs)) ≡ true
program-fits p g cs schemas b is made holds =
    sym (ap (λ (o : Option (List Column)). is_some o) (program-is g cs))
    ∙ there g cs schemas (sym (made ∙ ap (λ (q : Program). fits q schemas) is) ∙ holds)

pub ruleset program_facts = (program-fits)

-- No schema has a name yet.
pub none-named : (n : List ℕ) → IsAbsent schema_name n []
none-named n i d lt = absurd (omega (arith, lt))

pub ruleset table_facts = (none-named)

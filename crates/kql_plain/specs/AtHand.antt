-- The tables at hand while a program is evaluated, and that its parts fit them.
use Rattle.std.specs.Prelude.{ℕ, Bool, IsTrue, List, [], ◌∷◌, ◌++◌, Some, bytes_eq, find, fold, is_some, map, option_and_then}
use Rattle.kql_cells.specs.Catalogues.{Named, table_name}
use Rattle.kql_cells.specs.Table.{Grid}
use Rattle.kql_cells.specs.declared.schema.Column.{Column}
use Rattle.kql_cells.specs.declared.schemas.NamedSchema.{NamedSchema}
use Rattle.kql_bound.specs.declared.plan.Op.{Op}
use Rattle.kql_bound.specs.declared.plan.Plan.{Plan}
use Rattle.kql_bound.specs.declared.plan.Source.{Source}
use Rattle.kql_meaning.specs.Fits.{Known, known_of, let_after, op_columns, ops_columns, plan_columns, plans_columns, source_columns, table_columns}
use Rattle.kql_meaning.specs.Plans.{World, plan_means}
use Rattle.kql_fit_laws.specs.LawsOfPrograms.{Stands}
use Rattle.kql_fit_laws.specs.LawsOfRows.{IsTable}

-- The tables of a catalogue, and those of the lets so far.
abbrev pub world_of : List Named → List Grid → World
world_of tables lets = record { tables = tables; lets = lets }

-- The tables of plans.
abbrev pub plans_mean : List Plan → World → List Grid
plans_mean plans w = map (λ (p : Plan). plan_means p w) plans

-- What is known of the tables is so: those that are known by a name, and those of the lets, stand with these columns.

abbrev pub AreAtHand : List NamedSchema → List Named → Type 0
AreAtHand schemas tables = (name : List ℕ) → IsTrue (is_some (table_columns schemas name)) → IsTrue (is_some (find (λ n. bytes_eq (table_name n) name) tables))

abbrev pub IsSo : Known → World → Type 0
IsSo k w = Stands k w × AreAtHand k.tables w.tables

-- A source, a plan or plans fit the tables at hand where they have columns over something that is known of these, and is so.

unfoldable pub SourceFits : Source → World → Type 0
SourceFits s w = (k : Known) × IsSo k w × IsTrue (is_some (source_columns s k))

unfoldable pub PlanFits : Plan → World → Type 0
PlanFits p w = (k : Known) × IsSo k w × IsTrue (is_some (plan_columns p k))

unfoldable pub PlansFit : List Plan → World → Type 0
PlansFit ps w = (k : Known) × IsSo k w × IsTrue (is_some (plans_columns ps k))

-- An operator, or operators one after another, fit a table of them. The Bool tells whether they stand in a subquery of `partition`.

unfoldable pub OpFits : Op → World → Grid → Type 0
OpFits o w t = (k : Known) × (inside : Bool) × IsSo k w × IsTable t × IsTrue (is_some (op_columns o k inside t.columns))

unfoldable pub OpsFit : List Op → World → Grid → Type 0
OpsFit ops w t = (k : Known) × (inside : Bool) × IsSo k w × IsTable t × IsTrue (is_some (ops_columns ops k inside t.columns))

-- The tables of lets behind those that stand already, each over those before it.
unfoldable pub with_lets : List Plan → List Named → List Grid → List Grid
with_lets lets tables made = fold (λ done p. done ++ plan_means p (world_of tables done) ∷ []) made lets

-- What a plan means behind lets, where these tables of lets stand before them.
unfoldable pub means_behind : List Plan → Plan → List Named → List Grid → Grid
means_behind lets main tables made = plan_means main (world_of tables (with_lets lets tables made))

-- Lets, and a plan behind them, fit the tables of a catalogue where these tables of lets stand before them.
unfoldable pub FitBehind : List Plan → Plan → List Named → List Grid → Type 0
FitBehind lets main tables made = (schemas : List NamedSchema) × (columns : List (List Column)) × IsSo (known_of schemas columns) (world_of tables made) × IsTrue (is_some (option_and_then (λ ls. plan_columns main (known_of schemas ls)) (fold (let_after schemas) (Some columns) lets)))

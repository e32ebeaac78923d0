-- What items, sources and plans that fit give, and so what a program that fits gives.
use Rattle.std.specs.Prelude.{◌≡◌, ◌<◌, ℕ, List, [], ◌∷◌, ◌++◌, Some, Contains, IsTrue, length}
use Rattle.kql_cells.specs.Table.{Grid, RowFits}
use Rattle.kql_cells.specs.Catalogues.{Named}
use Rattle.kql_cells.specs.declared.schemas.NamedSchema.{NamedSchema}
use Rattle.kql_cells.specs.declared.schema.Column.{Column}
use Rattle.kql_bound.specs.declared.literal.Lit.{Lit}
use Rattle.kql_bound.specs.declared.parts.BItem.{BItem}
use Rattle.kql_bound.specs.declared.plan.Op.{Op}
use Rattle.kql_bound.specs.declared.plan.Op.TheVariants as op
use Rattle.kql_bound.specs.declared.plan.Plan.{Plan}
use Rattle.kql_bound.specs.declared.plan.Program.{Program}
use Rattle.kql_bound.specs.declared.plan.Source.{Source}
use Rattle.kql_bound.specs.declared.plan.Source.TheVariants as source
use Rattle.kql_meaning.specs.declared.position.Position.{Position}
use Rattle.kql_meaning.specs.declared.position.Position.TheVariants as position
use Rattle.kql_meaning.specs.Fits.{Known, program_columns, source_columns, table_columns}
use Rattle.kql_meaning.specs.FittingExpressions.{scope_of}
use Rattle.kql_meaning.specs.FittingOperators.{item_fits}
use Rattle.kql_meaning.specs.Items.{named_columns}
use Rattle.kql_meaning.specs.Results.{result_kinds, results}
use Rattle.kql_meaning.specs.Plans.{World, means, source_table}
use Rattle.kql_meaning.specs.Sources.{named_table}
use Rattle.kql_fit_laws.specs.LawsOfRows.{IsTable, IsTableOf, OpKeeps, PlanKeeps}

-- Items.

-- What an item gives at a row of a table that it fits fits its columns.
abbrev pub ItemKeeps : Position → BItem → Type 0
ItemKeeps at b = (t : Grid) (i : ℕ) → IsTable t → i < length t.lines → IsTrue (item_fits (scope_of t.columns) at b) → RowFits (named_columns b.names (result_kinds b.expr t.columns)) (results b.expr t i [])

-- Where the items of `project`, `extend` and `print` give what fits their columns, so do the rows.

abbrev pub ProjectKeeps : Type 0
ProjectKeeps = (k : Known) (w : World) (items : List BItem) → ((b : BItem) → Contains items b → ItemKeeps position.Window b) → OpKeeps k w (op.Project items)

abbrev pub ExtendKeeps : Type 0
ExtendKeeps = (k : Known) (w : World) (items : List BItem) → ((b : BItem) → Contains items b → ItemKeeps position.Window b) → OpKeeps k w (op.Extend items)

-- Sources.

-- What a source that fits gives is a table of the columns that it has.
abbrev pub SourceKeeps : Known → World → Source → Type 0
SourceKeeps k w s = (columns : List Column) → source_columns s k ≡ Some columns → IsTableOf columns (source_table s w)

-- The tables of a catalogue have the columns that these schemas have for them.
abbrev pub TablesStand : List NamedSchema → List Named → Type 0
TablesStand schemas catalogue = (name : List ℕ) (columns : List Column) → table_columns schemas name ≡ Some columns → IsTableOf columns (named_table catalogue name)

-- The tables of lets have these columns, one by one.
abbrev pub LetsStand : List (List Column) → List Grid → Type 0
LetsStand [] [] = Unit {0}
LetsStand (columns ∷ more) (t ∷ ts) = IsTableOf columns t × LetsStand more ts
LetsStand _ _ = ⊥

-- What is known of the tables is so.
abbrev pub Stands : Known → World → Type 0
Stands k w = TablesStand k.tables w.tables × LetsStand k.lets w.lets

abbrev pub TableKeeps : Type 0
TableKeeps = (k : Known) (w : World) (name : List ℕ) → Stands k w → SourceKeeps k w (source.Table name)

abbrev pub LetKeeps : Type 0
LetKeeps = (k : Known) (w : World) (i : ℕ) → Stands k w → SourceKeeps k w (source.Let i)

abbrev pub PrintKeeps : Type 0
PrintKeeps = (k : Known) (w : World) (items : List BItem) → ((b : BItem) → Contains items b → ItemKeeps position.Plain b) → SourceKeeps k w (source.Print items)

abbrev pub RangeKeeps : Type 0
RangeKeeps = (k : Known) (w : World) (column : List ℕ) (from to step : Lit) → SourceKeeps k w (source.Range column from to step)

-- Plans and programs.

abbrev pub PartsKeepPlan : Type 0
PartsKeepPlan = (k : Known) (w : World) (p : Plan) → SourceKeeps k w p.source → ((o : Op) → Contains p.ops o → OpKeeps k w o) → PlanKeeps k w p

-- A program that fits over a catalogue of its tables gives a table of the columns that it has, where its plans do what they should.
abbrev pub PlansKeepProgram : Type 0
PlansKeepProgram = (p : Program) (catalogue : List Named) → TablesStand p.tables catalogue → ((plan : Plan) → Contains (p.lets ++ p.main ∷ []) plan → (k : Known) (w : World) → Stands k w → PlanKeeps k w plan) → (columns : List Column) → program_columns p ≡ Some columns → IsTableOf columns (means p catalogue)

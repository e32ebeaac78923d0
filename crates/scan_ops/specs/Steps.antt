-- The steps of a scan over columns, and where the columns of their records come from.
use Rattle.std.specs.Prelude.{◌≡◌, ◌<◌, ℕ, Bool, List, Option, None, Some, All, IfSome, find, is_some, length}
use Rattle.kql_cells.specs.Named.{column_name, place_of}
use Rattle.kql_cells.specs.Table.{Grid}
use Rattle.kql_cells.specs.declared.schema.Column.{Column}
use Rattle.kql_cells.specs.declared.value.Value.{Value}
use Rattle.kql_bound.specs.declared.parts.BItem.{BItem}
use Rattle.kql_bound.specs.declared.parts.ScanPlan.{ScanPlan}
use Rattle.kql_bound.specs.declared.parts.ScanStep.{ScanStep}
use Rattle.kql_meaning.specs.Expressions.{val}
use Rattle.kql_meaning.specs.FittingOperators.{answer_if, scan_fits}
use Rattle.kql_meaning.specs.Readings.{Records}
use Rattle.kql_meaning.specs.Scan.{scan_columns}
use Rattle.kql_meaning.specs.Tables.{cell_in, is_name_among}
use Rattle.kql_scalar.specs.Scalar.{IsScalar}
use Rattle.scan_ops.specs.declared.step.Source.{Source}
use Rattle.scan_ops.specs.declared.step.Source.TheVariants as source

-- Whether a scan fits columns, and its answer has columns, no two of one name.
unfoldable pub scan_answers : ScanPlan → List Column → Bool
scan_answers p columns = is_some (answer_if (scan_fits p columns) (scan_columns p columns))

-- A step, and the columns that it is located among.
pub record PlacedStep : Type 0 where
  pub step : ScanStep
  pub columns : List Column

abbrev pub placed_step : List Column → ScanStep → PlacedStep
placed_step columns s = record { step = s; columns = columns }

-- No aggregate stands in a step, and each of its literals is well formed.

pub record AreSetsScalar (sets : List BItem) : Type 0 where
  pub each : All (λ (b : BItem). IsScalar b.expr) sets

pub record IsStepScalar (s : ScanStep) : Type 0 where
  pub condition : IsScalar s.condition
  pub sets : AreSetsScalar s.sets

pub record AreStepsScalar (steps : List ScanStep) : Type 0 where
  pub each : All IsStepScalar steps

-- Where a column of a new record comes from: what is assigned to it, and else the cell of the row.
unfoldable pub source_of : List Column → Option BItem → Column → Source
source_of columns None c = source.Cell (place_of column_name c.name columns)
source_of columns (Some b) c = source.Value (record { expr = b.expr; columns = columns })

unfoldable pub source_at : List BItem → List Column → Column → Source
source_at sets columns c = source_of columns (find (λ (b : BItem). is_name_among b.names c.name) sets) c

-- What it gives at a row.
unfoldable pub sourced : Grid → ℕ → Records → Source → Value
sourced t i s (source.Cell place) = cell_in t i place
sourced t i s (source.Value l) = val l.expr t i s

-- It is over these columns.
abbrev pub IsSourceIn : List Column → Source → Type 0
IsSourceIn columns (source.Cell place) = IfSome place (λ j. j < length columns)
IsSourceIn columns (source.Value l) = columns ≡ l.columns

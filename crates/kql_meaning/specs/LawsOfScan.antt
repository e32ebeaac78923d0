-- What a scan gives.
use Rattle.std.specs.Prelude.{◌≡◌, ◌<◌, ℕ, zero, suc, List, [], ◌∷◌, length, map, None, Some, IsTrue}
use Rattle.kql_cells.specs.Table.{Grid}
use Rattle.kql_cells.specs.declared.value.Value.{Value}
use Rattle.kql_bound.specs.declared.parts.Output.TheVariants as output
use Rattle.kql_bound.specs.declared.parts.ScanPlan.{ScanPlan}
use Rattle.kql_bound.specs.declared.parts.ScanStep.{ScanStep}
use Rattle.kql_meaning.specs.Expressions.{val}
use Rattle.kql_meaning.specs.Readings.{Records}
use Rattle.kql_meaning.specs.Scan.{new_record, row_of_record, scan_table, with_declared}
use Rattle.kql_meaning.specs.Tables.{places}
use Rattle.kql_meaning.specs.Values.{holds}

-- The record of each row, where a step takes every row: its assignments read the record of the row before.
abbrev pub taken_record : ScanStep → Grid → ℕ → List Value
taken_record step t zero = new_record step t 0 (None ∷ [])
taken_record step t (suc i) = new_record step t (suc i) (Some (taken_record step t i) ∷ [])

-- A step takes every row where its condition is true at each, whatever record it holds.
abbrev pub TakesEveryRow : ScanStep → Grid → Type 0
TakesEveryRow step t = (i : ℕ) (s : Records) → i < length t.lines → IsTrue (holds (val step.condition t i s))

-- A scan of one step that takes every row and emits all gives a row for each, in their order, with the match ids 0, 1 and so on.
abbrev pub ScanTakesEveryRow : Type 0
ScanTakesEveryRow = (p : ScanPlan) (step : ScanStep) (t : Grid) → p.steps ≡ step ∷ [] → step.output ≡ output.All → TakesEveryRow step (with_declared p t) → (scan_table p t).lines ≡ map (λ i. row_of_record p (taken_record step (with_declared p t) i) i) (places t)

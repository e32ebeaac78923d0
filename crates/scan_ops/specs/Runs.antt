-- What a machine holds while rows go through it.
use Rattle.std.specs.Prelude.{◌≡◌, ℕ, ◌+◌, ◌-◌, ◌<◌, List, [], ◌++◌, Option, None, Some, All, IfSome, length, map, option_map, slice_get, slice_index_or, slice_set}
use Rattle.kql_cells.specs.declared.schema.Column.{Column}
use Rattle.kql_cells.specs.declared.value.Value.{Value}
use Rattle.kql_scalar_fns.specs.Arguments.{AreWellFormed}
use Rattle.kql_bound.specs.declared.parts.ScanPlan.{ScanPlan}
use Rattle.kql_bound.specs.declared.parts.ScanStep.{ScanStep}
use Rattle.kql_meaning.specs.Scan.{Held, Machine, Turn, emitted_at_once, held_rows}
use Rattle.kql_values.specs.Grids.{HaveLength}
use Rattle.scan_ops.specs.States.{StateSeen, held_with}
use Rattle.scan_ops.specs.Steps.{PlacedStep}
use Rattle.scan_ops.specs.declared.run.Run.{Run}

-- How wide a row is that is emitted for a record so wide.
abbrev pub id_width : Option (List ℕ) → ℕ
id_width None = 0
id_width (Some name) = 1

unfoldable pub width_of : ScanPlan → ℕ → ℕ
width_of p width = width + id_width p.match_id

-- The records of a state are as wide as the rows that were emitted.
abbrev pub IsWide : ScanPlan → List (List Value) → Option Held → Type 0
IsWide p emitted h = IfSome h (λ s. All (λ r. HaveLength (width_of p (length r)) emitted) s.records)

-- A state of the step at a place, from 0: it holds a record for each step up to it, each so wide and well formed.
pub record IsStateAt (n w at : ℕ) (s : StateSeen) : Type 0 where
  pub size : s.size ≡ n
  pub count : IfSome s.held (λ h. length h.records ≡ at + 1)
  pub width : IfSome s.held (λ h. All (λ r. length r ≡ w) h.records)
  pub form : IfSome s.held (λ h. All AreWellFormed h.records)

pub record AreStates (size width : ℕ) (ss : List StateSeen) : Type 0 where
  pub each : (k : ℕ) (d : StateSeen) → k < length ss → IsStateAt size width k (slice_index_or ss k d)

-- The machine and the rows that a run is.
abbrev pub held_in : StateSeen → Option Held
held_in s = s.held

abbrev pub machine_of : List StateSeen → ℕ → Machine
machine_of ss begun = record { states = map held_in ss; begun = begun }

abbrev pub turn_of : Run → Turn
turn_of r = record { machine = machine_of r.states.items r.begun; emitted = r.emitted }

-- The state of the step before has become that of a step, with one record more, and is empty itself.
pub record HasMovedUp (at : ℕ) (row : List Value) (old new : List StateSeen) : Type 0 where
  pub states : (b : StateSeen) → slice_get old (at - 1) ≡ Some b → new ≡ slice_set (slice_set old (at - 1) (record { size = b.size; held = None })) at (record { size = b.size; held = option_map (held_with at row) b.held })

-- A run of a scan over these columns.
pub record IsRun (p : ScanPlan) (columns : List Column) (r : Run) : Type 0 where
  pub count : length r.states.items ≡ length p.steps
  pub states : AreStates (length p.steps) (length columns) r.states.items
  pub width : HaveLength (width_of p (length columns)) r.emitted

-- The step of a scan at a place, from 0, over these columns.
pub record IsStepOf (p : ScanPlan) (cs : List Column) (at : ℕ) (s : PlacedStep) : Type 0 where
  pub step : slice_get p.steps at ≡ Some s.step
  pub columns : cs ≡ s.columns

-- The rows that a state of the step before emits with a new record, and those of a step that it moves on to.
unfoldable pub emitted_with : ScanPlan → ScanStep → List Value → Option Held → List (List Value)
emitted_with p step line None = []
emitted_with p step line (Some h) = emitted_at_once p step line h.id

unfoldable pub emitted_by_move : ScanPlan → ScanStep → ℕ → List Value → Option Held → Option Held → List (List Value)
emitted_by_move p step at line before old = held_rows p (at + 1) old ++ (held_rows p at before ++ emitted_with p step line before)

-- What contracts see of a machine: the scan, the columns of the tables that it goes over, and the machine.
pub record Scanning : Type 0 where
  pub plan : ScanPlan
  pub columns : List Column
  pub machine : Machine

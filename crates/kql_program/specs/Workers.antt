-- By how many workers a query is answered.
use Rattle.std.specs.Prelude.{◌≡◌, ◌<◌, ◌≤◌, ℕ, List, [], ◌∷◌, ◌++◌, length, All, Option, Some, None, Ok, nat_lt}
use Rattle.kql_bound.specs.declared.plan.Program.{Program}
use Rattle.kql_trial.specs.Queries.{stored_queries}
use Rattle.kql_words.specs.Command.{command_of, workers_of}
use Rattle.kql_words.specs.Options.{AreWorkers}
use Rattle.kql_words.specs.declared.command.Command.{Command}
use Rattle.kql_program.specs.declared.crew.Crew.{Crew}
use Rattle.kql_program.specs.declared.ended.Ended.{Ended}
use Rattle.kql_program.specs.declared.ended.Ended.TheVariants as ended
use Rattle.phase_forms.specs.Phases.{program_phases}
use Rattle.phase_run.specs.Reports.{AreToldBy, shape_of}
use Rattle.phase_run.specs.declared.report.PhaseReport.{PhaseReport}

-- from 1 to 64 workers, and pieces of a row at least
pub record IsCrew (c : Crew) : Type 0 where
  pub workers : AreWorkers c.workers
  pub rows : 0 < c.sizes.piece_rows

-- as many workers as are asked for, or from one to eight where no number is given
abbrev pub AreAsked : Option ℕ → ℕ → Type 0
AreAsked (Some n) workers = workers ≡ n
AreAsked None workers = (0 < workers) × (workers ≤ 8)

-- a report of phases that ran by so many workers was added
abbrev pub AddsReport : ℕ → List (List PhaseReport) → List (List PhaseReport) → Type 0
AddsReport workers before now = (report : List PhaseReport) × AreToldBy workers report × (now ≡ before ++ report ∷ [])

-- the reports of so many queries, whose phases ran by so many workers
pub record AreReports (workers count : ℕ) (reports : List (List PhaseReport)) : Type 0 where
  pub each : length reports ≡ count
  pub told : All (AreToldBy workers) reports

-- the phases are those of the plan, and each ran by so many workers
pub record IsReportOf (workers : ℕ) (plan : Program) (report : List PhaseReport) : Type 0 where
  pub phases : shape_of report ≡ program_phases (nat_lt 1 workers) plan
  pub told : AreToldBy workers report

-- The phases in an ending ran by so many workers, and each of their pieces was claimed once, by one of them. They are those of the plan in it; of a trial
-- there is a report for each stored query.
abbrev pub IsBy : ℕ → Ended → Type 0
IsBy workers (ended.Table plan report) = IsReportOf workers plan report
IsBy workers (ended.Trial reports) = AreReports workers (length stored_queries) reports
IsBy workers _ = Unit {0}

-- They ran by as many workers as the words ask for.
pub record IsByWorkers (words : List (List ℕ)) (e : Ended) : Type 0 where
  pub workers : ℕ
  pub few : AreWorkers workers
  pub asked : (c : Command) → command_of words ≡ Ok c → AreAsked (workers_of c) workers
  pub by : IsBy workers e

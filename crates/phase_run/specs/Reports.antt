-- Reports of phases.
use Rattle.std.specs.Prelude.{◌≡◌, ◌<◌, ◌≤◌, ◌++◌, ℕ, Bool, true, false, All, List, map, nat_lt}
use Rattle.phase_pieces.specs.Reports.{IsWholeFor}
use Rattle.phase_run.specs.declared.report.PhaseReport.{PhaseReport}
use Rattle.phase_run.specs.declared.report.PhaseReport.TheVariants as phase

-- A phase in pieces ran so.
abbrev pub IsToldBy : ℕ → PhaseReport → Type 0
IsToldBy n phase.Whole = Unit {0}
IsToldBy n (phase.Pieces g) = IsWholeFor n g

-- Each phase did.
abbrev pub AreToldBy : ℕ → List PhaseReport → Type 0
AreToldBy n phases = All (IsToldBy n) phases

-- Phases so far: by how many workers, in pieces of how many rows, and what ran.
pub record PhasesSeen : Type 0 where
  pub workers : ℕ
  pub piece_rows : ℕ
  pub report : List PhaseReport

pub record ArePhases (p : PhasesSeen) : Type 0 where
  pub some : 0 < p.workers
  pub few : p.workers ≤ 64
  pub rows : 0 < p.piece_rows
  pub told : AreToldBy p.workers p.report

-- Whether a phase went by pieces, and of phases whether each did.

abbrev pub in_pieces : PhaseReport → Bool
in_pieces phase.Whole = false
in_pieces (phase.Pieces g) = true

abbrev pub shape_of : List PhaseReport → List Bool
shape_of phases = map in_pieces phases

-- Whether there are several workers.
abbrev pub are_many : PhasesSeen → Bool
are_many p = nat_lt 1 p.workers

-- Behind those so far phases ran of which these went by pieces.
pub record Tells (old new : PhasesSeen) (more : Bool → List Bool) : Type 0 where
  pub workers : new.workers ≡ old.workers
  pub told : shape_of new.report ≡ shape_of old.report ++ more (are_many old)

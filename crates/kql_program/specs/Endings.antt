-- The endings, and their exit statuses.
use Rattle.std.specs.Prelude.{◌≡◌, ℕ, List, Ok, Err}
use Rattle.kql_bound.specs.declared.plan.Program.{Program}
use Rattle.kql_words.specs.Command.{command_of}
use Rattle.kql_words.specs.declared.command.Command.{Command}
use Rattle.kql_words.specs.declared.command.Command.TheVariants as command
use Rattle.kql_program.specs.declared.ended.Ended.{Ended}
use Rattle.kql_program.specs.declared.ended.Ended.TheVariants as ended
use Rattle.kql_words.specs.declared.refusal.Refusal.{Refusal}
use Rattle.kql_words.specs.declared.refusal.Refusal.TheVariants as refusal
use Rattle.kql_words.specs.Refusals.{Answer}

-- the exit status of an ending
abbrev pub status_of : Ended → ℕ
status_of (ended.Table plan report) = 0
status_of ended.PlainTable = 0
status_of (ended.Explained plan) = 0
status_of (ended.Trial reports) = 0
status_of (ended.QueryRefused code place) = 1
status_of (ended.Usage word code) = 2
status_of (ended.DataRefused file code row column) = 3
status_of ended.ReadFault = 4
status_of ended.WriteFault = 5
status_of ended.OutOfMemory = 6

-- the ending of a refusal
abbrev pub refused_as : Refusal → Ended
refused_as (refusal.Query code place) = ended.QueryRefused code place
refused_as (refusal.Usage word code) = ended.Usage word code
refused_as (refusal.Data file code row column) = ended.DataRefused file code row column

-- the ending after a command's text was written
abbrev pub EndsAs : Command → Ended → Type 0
EndsAs (command.Run asked) (ended.Table plan report) = Unit {0}
EndsAs (command.Plain asked) ended.PlainTable = Unit {0}
EndsAs (command.Explain asked) (ended.Explained plan) = Unit {0}
EndsAs (command.Trial trial) (ended.Trial reports) = Unit {0}
EndsAs _ _ = ⊥

-- the words are a command, and the ending is that after its text was written
abbrev pub EndsAsAsked : Answer Command → Ended → Type 0
EndsAsAsked (Ok c) e = EndsAs c e
EndsAsAsked (Err r) e = ⊥

-- the ending of an answer to words
abbrev pub IsEndingOf : List (List ℕ) → Answer (List ℕ) → Ended → Type 0
IsEndingOf words (Ok text) e = EndsAsAsked (command_of words) e
IsEndingOf words (Err r) e = e ≡ refused_as r

-- this holds of the plan in an ending
abbrev pub IfPlan : (Program → Type 0) → Ended → Type 0
IfPlan P (ended.Table plan report) = P plan
IfPlan P (ended.Explained plan) = P plan
IfPlan P _ = Unit {0}

-- and this of a plan that is explained
abbrev pub IfExplained : (Program → Type 0) → Ended → Type 0
IfExplained P (ended.Explained plan) = P plan
IfExplained P _ = Unit {0}

-- an ending after which nothing was written to the output
abbrev pub IsQuiet : Ended → Type 0
IsQuiet (ended.Table plan report) = ⊥
IsQuiet ended.PlainTable = ⊥
IsQuiet (ended.Explained plan) = ⊥
IsQuiet (ended.Trial reports) = ⊥
IsQuiet ended.WriteFault = ⊥
IsQuiet _ = Unit {0}

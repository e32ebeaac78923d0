-- The endings of a live command, and their exit statuses.
use Rattle.std.specs.Prelude.{◌≡◌, ℕ, List, Ok, Err}
use Rattle.kql_words.specs.Refusals.{Answer}
use Rattle.kql_words.specs.declared.refusal.Refusal.{Refusal}
use Rattle.kql_words.specs.declared.refusal.Refusal.TheVariants as refusal
use Rattle.live_run.specs.declared.watch.Seen.{Seen}
use Rattle.kql_live.specs.declared.ended.LiveEnded.{LiveEnded}
use Rattle.kql_live.specs.declared.ended.LiveEnded.TheVariants as ended

-- the exit status of an ending
abbrev pub live_status_of : LiveEnded → ℕ
live_status_of (ended.Table seen) = 0
live_status_of (ended.QueryRefused code place) = 1
live_status_of (ended.Usage word code) = 2
live_status_of (ended.DataRefused file code row column) = 3
live_status_of ended.ReadFault = 4
live_status_of ended.WriteFault = 5
live_status_of ended.OutOfMemory = 6

-- the ending of a refusal
abbrev pub live_refused_as : Refusal → LiveEnded
live_refused_as (refusal.Query code place) = ended.QueryRefused code place
live_refused_as (refusal.Usage word code) = ended.Usage word code
live_refused_as (refusal.Data file code row column) = ended.DataRefused file code row column

-- the ending of a text
abbrev pub IsTable : LiveEnded → Type 0
IsTable (ended.Table seen) = Unit {0}
IsTable _ = ⊥

-- this holds of what the readers saw, where the ending tells it
abbrev pub IfTable : (List (List Seen) → Type 0) → LiveEnded → Type 0
IfTable P (ended.Table seen) = P seen
IfTable P _ = Unit {0}

-- the ending of an answer
abbrev pub IsLiveEndingOf : Answer (List ℕ) → LiveEnded → Type 0
IsLiveEndingOf (Ok text) e = IsTable e
IsLiveEndingOf (Err r) e = e ≡ live_refused_as r

-- an ending after which nothing was written to the output
abbrev pub IsLiveQuiet : LiveEnded → Type 0
IsLiveQuiet (ended.Table seen) = ⊥
IsLiveQuiet ended.WriteFault = ⊥
IsLiveQuiet _ = Unit {0}

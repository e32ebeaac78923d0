-- How the calls of the shelf and the sinks went, where these tell it: after one that failed there is no other.
use Rattle.std.specs.Prelude.{◌≡◌, ◌⊎◌, Option}
use Rattle.kql_outside.specs.Calls.{CallCounts, LastFailed, NoneFailed}
use Rattle.kql_program.specs.Calls.{CallsNow, MayFail, Uncalled, Went}
use Rattle.kql_program.specs.declared.refusal.Stop.{Stop}
use Rattle.kql_program.specs.declared.refusal.Stop.TheVariants as stop
use Rattle.kql_live.specs.LiveEndings.{live_refused_as}
use Rattle.kql_live.specs.declared.ended.LiveEnded.{LiveEnded}
use Rattle.kql_live.specs.declared.ended.LiveEnded.TheVariants as ended

-- the calls of a sink to which a text was written: the call ends so, or the last of them failed
abbrev pub LiveEndsAtWrite : Option CallCounts → Option CallCounts → LiveEnded → LiveEnded → Type 0
LiveEndsAtWrite before now done e = ((e ≡ done) × NoneFailed before now) ⊎ ((e ≡ ended.WriteFault) × LastFailed before now)

-- the ending after the line of a stop was written
abbrev pub IsLiveDoneAfter : Stop → LiveEnded → Type 0
IsLiveDoneAfter (stop.Refused r) done = (done ≡ live_refused_as r) ⊎ (done ≡ ended.OutOfMemory)
IsLiveDoneAfter stop.ReadFault done = done ≡ ended.ReadFault
IsLiveDoneAfter stop.OutOfMemory done = done ≡ ended.OutOfMemory

-- the calls of the sink for errors to which that line was written
pub record LiveLineEndsAtWrite (before now : Option CallCounts) (s : Stop) (e : LiveEnded) : Type 0 where
  pub done : LiveEnded
  pub is : IsLiveDoneAfter s done
  pub writes : LiveEndsAtWrite before now done e

-- What each ending says of the calls. A call that failed is the last of its object, and the ending is that fault: nothing more is read after it, and
-- nothing more is written, but for the line that tells a read fault.
abbrev pub HeedsLiveFaults : CallsNow → CallsNow → LiveEnded → Type 0
HeedsLiveFaults before now (ended.Table seen) = Went NoneFailed NoneFailed Uncalled before now
HeedsLiveFaults before now (ended.QueryRefused code place) = Went NoneFailed Uncalled NoneFailed before now
HeedsLiveFaults before now (ended.Usage word code) = Went NoneFailed Uncalled NoneFailed before now
HeedsLiveFaults before now (ended.DataRefused file code row column) = Went NoneFailed Uncalled NoneFailed before now
HeedsLiveFaults before now ended.OutOfMemory = Went NoneFailed Uncalled NoneFailed before now
HeedsLiveFaults before now ended.ReadFault = Went LastFailed Uncalled NoneFailed before now
HeedsLiveFaults before now ended.WriteFault = Went NoneFailed LastFailed Uncalled before now ⊎ Went MayFail Uncalled LastFailed before now

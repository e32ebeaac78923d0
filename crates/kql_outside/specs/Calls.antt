-- Calls of a shelf or a sink, counted where it tells them.
use Rattle.std.specs.Prelude.{◌≡◌, ℕ, Option, IfSome, Result, Ok, Err}
use Rattle.std.specs.Option.{option_map}
use Rattle.kql_outside.specs.Causes.{next_count}
use Rattle.kql_outside.specs.declared.transfers.ReadError.{ReadError}
use Rattle.kql_outside.specs.declared.transfers.ReadError.TheVariants as read_error

-- how many calls failed, and how many came after the last that failed
pub record CallCounts : Type 0 where
  pub failed : ℕ
  pub later : ℕ

-- one call more
abbrev pub after : {T E : Type 0} → Result T E → CallCounts → CallCounts
after (Ok x) counts = record { failed = counts.failed; later = next_count counts.later }
after (Err e) counts = record { failed = next_count counts.failed; later = 0 }

abbrev pub noted : {T E : Type 0} → Result T E → Option CallCounts → Option CallCounts
noted result told = option_map (after result) told

abbrev pub one_more : Option ℕ → Option ℕ
one_more told = option_map next_count told

abbrev pub failures : Option CallCounts → Option ℕ
failures told = option_map (λ (counts : CallCounts). counts.failed) told

-- no call failed
abbrev pub NoneFailed : Option CallCounts → Option CallCounts → Type 0
NoneFailed before now = failures now ≡ failures before

-- one call failed, and none came after it
pub record LastFailed (before now : Option CallCounts) : Type 0 where
  pub one : failures now ≡ one_more (failures before)
  pub last : IfSome now (λ (counts : CallCounts). counts.later ≡ 0)

-- What is done by several calls succeeds where none failed. It ends at the first that fails.
abbrev pub StopsAtFault : {T E : Type 0} → Option CallCounts → Option CallCounts → Result T E → Type 0
StopsAtFault before now (Ok x) = NoneFailed before now
StopsAtFault before now (Err e) = LastFailed before now

-- the same of what may want memory too
abbrev pub StopsAtReadFault : {T : Type 0} → Option CallCounts → Option CallCounts → Result T ReadError → Type 0
StopsAtReadFault before now (Ok x) = NoneFailed before now
StopsAtReadFault before now (Err read_error.Failed) = LastFailed before now
StopsAtReadFault before now (Err read_error.OutOfMemory) = NoneFailed before now

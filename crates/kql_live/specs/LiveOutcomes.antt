-- What a call of a live command leaves, at each ending.
use Rattle.std.specs.Prelude.{◌≡◌, ◌⊎◌, ℕ, List, Option, Some, None, IfSome, IsOk, Ok, Err}
use Rattle.catalogue_tables.specs.Files.{Files}
use Rattle.kql_outside.specs.Causes.{Rose}
use Rattle.kql_program.specs.Lines.{line_of, memory_line, read_fault_line}
use Rattle.kql_program.specs.Outcomes.{Adds, IsCutText, IsFaultless, IsOutOfMemory, IsRefused, IsSame, IsUnfinished, OfAnswers, Outside, SinkNow}
use Rattle.kql_program.specs.declared.refusal.Stop.{Stop}
use Rattle.kql_program.specs.declared.refusal.Stop.TheVariants as stop
use Rattle.kql_words.specs.Refusals.{Answer}
use Rattle.kql_words.specs.declared.refusal.Refusal.{Refusal}
use Rattle.kql_words.specs.declared.refusal.Refusal.TheVariants as refusal
use Rattle.live_words.specs.LiveWords.{live_of}
use Rattle.kql_live.specs.LiveAnswer.{HaveSeen, LiveAnswers}
use Rattle.kql_live.specs.LiveEndings.{IfTable, IsLiveEndingOf, IsLiveQuiet, live_refused_as}
use Rattle.kql_live.specs.declared.ended.LiveEnded.{LiveEnded}
use Rattle.kql_live.specs.declared.ended.LiveEnded.TheVariants as ended

-- this may be the answer where no files are told: a word is refused exactly where it is the first fault of the words
pub record IsLiveUntold (words : List (List ℕ)) (a : Answer (List ℕ)) : Type 0 where
  pub first : (r : Refusal) → live_of words ≡ Err r → a ≡ Err r
  pub no_other : (word code : ℕ) → a ≡ Err (refusal.Usage word code) → live_of words ≡ Err (refusal.Usage word code)

-- this is what is answered to the words, where the shelf tells its files or not
abbrev pub IsLiveAnswer : List (List ℕ) → Option Files → OfAnswers
IsLiveAnswer words None a = IsLiveUntold words a
IsLiveAnswer words (Some files) a = LiveAnswers words files a

-- the words ask for something, so that files are read
abbrev pub ReadsLive : List (List ℕ) → Type 0
ReadsLive words = IsOk (live_of words)

-- the text of the answer, and nothing for errors
pub record IsLiveText (Is : OfAnswers) (before now : Outside) : Type 0 where
  pub text : List ℕ
  pub is : Is (Ok text)
  pub whole : Adds before.out now.out text
  pub quiet : IsSame before.err now.err

-- a fault of the shelf may be answered: its count rose, and it was asked for files
pub record FailsLive (words : List (List ℕ)) (before now : Outside) : Type 0 where
  pub cause : Rose before.shelf_faults now.shelf_faults
  pub turn : ReadsLive words

-- a fault of the shelf: its line, and nothing on the output
pub record IsLiveReadFault (words : List (List ℕ)) (before now : Outside) : Type 0 where
  pub fails : FailsLive words before now
  pub quiet : IsSame before.out now.out
  pub line : Adds before.err now.err read_fault_line

-- a line that may be written for errors: that of the refusal, of want of memory, or of a read fault where the shelf failed
abbrev pub IsLiveErrorLine : List (List ℕ) → OfAnswers → Outside → Outside → List ℕ → Type 0
IsLiveErrorLine words Is before now line =
    ((r : Refusal) × Is (Err r) × (line ≡ line_of r)) ⊎ (line ≡ memory_line) ⊎ ((line ≡ read_fault_line) × FailsLive words before now)

-- a line for errors was left unfinished, and nothing was written to the output
pub record IsLiveCutLine (words : List (List ℕ)) (Is : OfAnswers) (before now : Outside) : Type 0 where
  pub text : List ℕ
  pub is : IsLiveErrorLine words Is before now text
  pub cut : IsUnfinished before.err now.err text
  pub quiet : IsSame before.out now.out

-- what each ending says of the answer and of the outside
abbrev pub LiveEnds : List (List ℕ) → OfAnswers → Outside → Outside → LiveEnded → Type 0
LiveEnds words Is before now (ended.Table seen) = IsLiveText Is before now
LiveEnds words Is before now (ended.QueryRefused code place) = IsRefused Is before now (refusal.Query code place)
LiveEnds words Is before now (ended.Usage word code) = IsRefused Is before now (refusal.Usage word code)
LiveEnds words Is before now (ended.DataRefused file code row column) = IsRefused Is before now (refusal.Data file code row column)
LiveEnds words Is before now ended.ReadFault = IsLiveReadFault words before now
LiveEnds words Is before now ended.OutOfMemory = IsOutOfMemory before now
LiveEnds words Is before now ended.WriteFault = IsCutText Is before now ⊎ IsLiveCutLine words Is before now

-- a text was written to its end, and the call ends so, or it was left unfinished
abbrev pub WritesLive : SinkNow → SinkNow → List ℕ → LiveEnded → LiveEnded → Type 0
WritesLive before now text done e = ((e ≡ done) × Adds before now text) ⊎ ((e ≡ ended.WriteFault) × IsUnfinished before now text)

-- the line of a stop, and the ending after it; want of memory may stand in the place of a refusal's line
abbrev pub IsLiveLineOf : Stop → List ℕ → LiveEnded → Type 0
IsLiveLineOf (stop.Refused r) line done = ((line ≡ line_of r) × (done ≡ live_refused_as r)) ⊎ ((line ≡ memory_line) × (done ≡ ended.OutOfMemory))
IsLiveLineOf stop.ReadFault line done = (line ≡ read_fault_line) × (done ≡ ended.ReadFault)
IsLiveLineOf stop.OutOfMemory line done = (line ≡ memory_line) × (done ≡ ended.OutOfMemory)

-- a stop's line was written, or left unfinished
pub record WritesLiveStop (before now : SinkNow) (s : Stop) (e : LiveEnded) : Type 0 where
  pub line : List ℕ
  pub done : LiveEnded
  pub is : IsLiveLineOf s line done
  pub writes : WritesLive before now line done e

-- the ending is that of the answer
pub record EndsAsLiveAnswered (words : List (List ℕ)) (files : Files) (e : LiveEnded) : Type 0 where
  pub to : Answer (List ℕ)
  pub is : LiveAnswers words files to
  pub ending : IsLiveEndingOf to e

-- The outcome of a call: what its ending says of the answer, of what the readers saw and of what was written, and what follows from it.
pub record HasLiveOutcome (words : List (List ℕ)) (files : Option Files) (before now : Outside) (e : LiveEnded) : Type 0 where
  pub ends : LiveEnds words (IsLiveAnswer words files) before now e
  -- what the readers saw
  pub seen : IfTable (HaveSeen words files (live_of words)) e
  -- a read or write fault is answered only where the count of an object that was handed in rose in this call
  pub read : e ≡ ended.ReadFault → Rose before.shelf_faults now.shelf_faults
  -- and a read fault only where the words have no fault
  pub turn : e ≡ ended.ReadFault → ReadsLive words
  pub write : e ≡ ended.WriteFault → Rose before.out.faults now.out.faults ⊎ Rose before.err.faults now.err.faults
  -- after a refusal, a read fault or want of memory nothing was written to the output
  pub quiet : IsLiveQuiet e → IsSame before.out now.out
  -- where no count rose the ending is that of the answer, or want of memory
  pub complete : IsFaultless before now → IfSome files (λ told. EndsAsLiveAnswered words told e ⊎ (e ≡ ended.OutOfMemory))

-- What a call of the program leaves, at each ending.
use Rattle.std.specs.Prelude.{◌≡◌, ◌⊎◌, ◌<◌, ℕ, true, List, length, Option, Some, None, IfSome, IsSome, IsSomeAnd, Result, Ok, Err}
use Rattle.kql_bound.specs.declared.plan.Program.{Program}
use Rattle.kql_plan_text.specs.Plans.{plan_text}
use Rattle.plan_push.specs.Settled.{settled}
use Rattle.kql_outside.specs.Causes.{Rose}
use Rattle.kql_outside.specs.Told.{IsCutShort, appended}
use Rattle.kql_program.specs.declared.ended.Ended.{Ended}
use Rattle.kql_program.specs.declared.ended.Ended.TheVariants as ended
use Rattle.kql_lexer.specs.declared.place.Place.{Place}
use Rattle.kql_words.specs.declared.refusal.Refusal.{Refusal}
use Rattle.kql_words.specs.declared.refusal.Refusal.TheVariants as refusal
use Rattle.kql_program.specs.declared.refusal.Stop.{Stop}
use Rattle.kql_program.specs.declared.refusal.Stop.TheVariants as stop
use Rattle.kql_words.specs.declared.command.Asked.{Asked}
use Rattle.kql_words.specs.declared.command.Command.{Command}
use Rattle.kql_words.specs.declared.command.Command.TheVariants as command
use Rattle.kql_words.specs.declared.trial.Trial.{Trial}
use Rattle.kql_program.specs.Answer.{Answers}
use Rattle.kql_program.specs.Trials.{AnswersTrial}
use Rattle.kql_words.specs.Command.{command_of}
use Rattle.kql_program.specs.Endings.{EndsAs, EndsAsAsked, IfExplained, IfPlan, IsEndingOf, IsQuiet, refused_as}
use Rattle.catalogue_tables.specs.Files.{Files}
use Rattle.pattern_run.specs.Patterned.{Found}
use Rattle.kql_program.specs.Lines.{line_of, memory_line, read_fault_line}
use Rattle.kql_program.specs.Plans.{IsPlanAsked}
use Rattle.kql_program.specs.Refusals.{Finds, IsBadPattern, bad_pattern_code}
use Rattle.kql_program.specs.declared.bound.Done.{Done}
use Rattle.kql_words.specs.Refusals.{Answer}

-- a text is that of a plan in which no rule fires
pub record IsPlanText (text : List ℕ) : Type 0 where
  pub plan : Program
  pub is_settled : settled plan ≡ true
  pub is : text ≡ plan_text plan

-- This may be the answer where no files are told: a word is refused exactly where it is the first fault of the words, a trial, which
-- reads no file, is answered, and what is explained is a plan.
pub record IsUntold (words : List (List ℕ)) (a : Answer (List ℕ)) : Type 0 where
  pub first : (r : Refusal) → command_of words ≡ Err r → a ≡ Err r
  pub no_other : (word code : ℕ) → a ≡ Err (refusal.Usage word code) → command_of words ≡ Err (refusal.Usage word code)
  pub trial : (t : Trial) → command_of words ≡ Ok (command.Trial t) → AnswersTrial t a
  pub explained : (asked : Asked) (text : List ℕ) → command_of words ≡ Ok (command.Explain asked) → a ≡ Ok text → IsPlanText text

-- what an answer is
abbrev pub OfAnswers : Type 1
OfAnswers = Answer (List ℕ) → Type 0

-- this is what the program answers to the words, where the shelf tells its files or not
abbrev pub IsAnswer : Found → List (List ℕ) → Option Files → OfAnswers
IsAnswer found words None a = IsUntold words a
IsAnswer found words (Some files) a = Answers found words files a

-- no word is refused
abbrev pub RefusesNoWord : {X : Type 0} → Result X Stop → Type 0
RefusesNoWord result = (word code : ℕ) → result ≡ Err (stop.Refused (refusal.Usage word code)) → ⊥

-- a pattern is refused only where this holds
abbrev pub IfBadPattern : {X : Type 0} → Type 0 → Result X Stop → Type 0
IfBadPattern Cause result = (place : Place) → result ≡ Err (stop.Refused (refusal.Query bad_pattern_code place)) → Cause

-- no pattern is refused
abbrev pub RefusesNoPattern : {X : Type 0} → Result X Stop → Type 0
RefusesNoPattern result = IfBadPattern ⊥ result

-- what a query's command asks for
abbrev pub asked_in : Answer Command → Option Asked
asked_in (Ok (command.Run asked)) = Some asked
asked_in (Ok (command.Plain asked)) = Some asked
asked_in (Ok (command.Explain asked)) = Some asked
asked_in (Ok (command.Trial trial)) = None
asked_in (Err refusal) = None

-- a command reads files
abbrev pub ReadsFor : Command → Type 0
ReadsFor c = IsSome (asked_in (Ok c))

-- a call gave what a trial is answered, where the command is one
abbrev pub TriesFor : Command → Result (List ℕ) Stop → Type 0
TriesFor (command.Run asked) result = Unit {0}
TriesFor (command.Plain asked) result = Unit {0}
TriesFor (command.Explain asked) result = Unit {0}
TriesFor (command.Trial trial) result = Finds (AnswersTrial trial) result

-- the words have no fault, and their command reads files
abbrev pub ReadsFiles : List (List ℕ) → Type 0
ReadsFiles words = IsSome (asked_in (command_of words))

-- This is a plan of the query's program, where files are told; else it is one in which no rule fires.
abbrev pub IsPlanFor : Found → List (List ℕ) → Option Files → Answer Command → Program → Type 0
IsPlanFor found words None c plan = settled plan ≡ true
IsPlanFor found words (Some files) c plan = IsSomeAnd (asked_in c) (λ asked. IsPlanAsked found words files asked plan)

-- the text in a call's result
abbrev pub text_in : Result Done Stop → Result (List ℕ) Stop
text_in (Ok done) = Ok done.text
text_in (Err stop) = Err stop

-- A text and the ending after it, as a command makes them: the ending is that of the command, the plan in it is one of the query's program,
-- and where it is explained, this is its text.
pub record IsDone (found : Found) (words : List (List ℕ)) (files : Option Files) (c : Command) (text : List ℕ) (e : Ended) : Type 0 where
  pub ends : EndsAs c e
  pub plan : IfPlan (IsPlanFor found words files (Ok c)) e
  pub explained : IfExplained (λ plan. text ≡ plan_text plan) e

-- a sink at one moment: what it holds and how much more it takes, where that is told, and its count of faults
pub record SinkNow : Type 0 where
  pub written : Option (List ℕ)
  pub room : Option ℕ
  pub faults : ℕ

abbrev pub sink_now : Option (List ℕ) → Option ℕ → ℕ → SinkNow
sink_now written room faults = record { written = written; room = room; faults = faults }

-- the outside at one moment
pub record Outside : Type 0 where
  pub shelf_faults : ℕ
  pub pattern_faults : ℕ
  pub out : SinkNow
  pub err : SinkNow

abbrev pub outside_with : ℕ → ℕ → SinkNow → SinkNow → Outside
outside_with pattern_faults shelf_faults out err = record { shelf_faults = shelf_faults; pattern_faults = pattern_faults; out = out; err = err }

-- of a call that makes no patterns
abbrev pub outside : ℕ → SinkNow → SinkNow → Outside
outside shelf_faults out err = outside_with 0 shelf_faults out err

-- all of a text was added
abbrev pub Adds : SinkNow → SinkNow → List ℕ → Type 0
Adds before now text = now.written ≡ appended before.written text

abbrev pub IsSame : SinkNow → SinkNow → Type 0
IsSame before now = now.written ≡ before.written

-- a text was left unfinished: a shorter front of it was added, the count of faults rose, and there was no room for all
pub record IsUnfinished (before now : SinkNow) (text : List ℕ) : Type 0 where
  pub front : IsCutShort before.written now.written text
  pub cause : Rose before.faults now.faults
  pub full : IfSome before.room (λ left. left < length text)

-- a refusal: its line, and nothing on the output
pub record IsRefused (Is : OfAnswers) (before now : Outside) (r : Refusal) : Type 0 where
  pub is : Is (Err r)
  pub quiet : IsSame before.out now.out
  pub line : Adds before.err now.err (line_of r)

-- the text of the answer, and nothing for errors; the ending is that of the command
pub record IsText (words : List (List ℕ)) (Is : OfAnswers) (before now : Outside) (e : Ended) : Type 0 where
  pub text : List ℕ
  pub is : Is (Ok text)
  pub done : EndsAsAsked (command_of words) e
  pub whole : Adds before.out now.out text
  pub quiet : IsSame before.err now.err

-- a fault of the shelf may be answered: its count rose, and it was asked for files
pub record FailsToRead (words : List (List ℕ)) (before now : Outside) : Type 0 where
  pub cause : Rose before.shelf_faults now.shelf_faults
  pub turn : ReadsFiles words

-- a fault of the shelf: its line, and nothing on the output
pub record IsReadFault (words : List (List ℕ)) (before now : Outside) : Type 0 where
  pub fails : FailsToRead words before now
  pub quiet : IsSame before.out now.out
  pub line : Adds before.err now.err read_fault_line

-- want of memory: its line, and nothing on the output
pub record IsOutOfMemory (before now : Outside) : Type 0 where
  pub quiet : IsSame before.out now.out
  pub line : Adds before.err now.err memory_line

-- the text was left unfinished, and nothing was written for errors
pub record IsCutText (Is : OfAnswers) (before now : Outside) : Type 0 where
  pub text : List ℕ
  pub is : Is (Ok text)
  pub cut : IsUnfinished before.out now.out text
  pub quiet : IsSame before.err now.err

-- a line that may be written for errors: that of the refusal, of want of memory, or of a read fault where the shelf failed
abbrev pub IsErrorLine : List (List ℕ) → OfAnswers → Outside → Outside → List ℕ → Type 0
IsErrorLine words Is before now line =
    ((r : Refusal) × Is (Err r) × (line ≡ line_of r)) ⊎ (line ≡ memory_line) ⊎ ((line ≡ read_fault_line) × FailsToRead words before now)

-- a line for errors was left unfinished, and nothing was written to the output
pub record IsCutLine (words : List (List ℕ)) (Is : OfAnswers) (before now : Outside) : Type 0 where
  pub text : List ℕ
  pub is : IsErrorLine words Is before now text
  pub cut : IsUnfinished before.err now.err text
  pub quiet : IsSame before.out now.out

-- what each ending says of the answer and of the outside
abbrev pub Ends : List (List ℕ) → OfAnswers → Outside → Outside → Ended → Type 0
Ends words Is before now (ended.Table plan report) = IsText words Is before now (ended.Table plan report)
Ends words Is before now ended.PlainTable = IsText words Is before now ended.PlainTable
Ends words Is before now (ended.Explained plan) = IsText words Is before now (ended.Explained plan)
Ends words Is before now (ended.Trial reports) = IsText words Is before now (ended.Trial reports)
Ends words Is before now (ended.QueryRefused code place) = IsRefused Is before now (refusal.Query code place)
Ends words Is before now (ended.Usage word code) = IsRefused Is before now (refusal.Usage word code)
Ends words Is before now (ended.DataRefused file code row column) = IsRefused Is before now (refusal.Data file code row column)
Ends words Is before now ended.ReadFault = IsReadFault words before now
Ends words Is before now ended.OutOfMemory = IsOutOfMemory before now
Ends words Is before now ended.WriteFault = IsCutText Is before now ⊎ IsCutLine words Is before now

-- a text was written to its end, and the call ends so, or it was left unfinished
abbrev pub Writes : SinkNow → SinkNow → List ℕ → Ended → Ended → Type 0
Writes before now text done e = ((e ≡ done) × Adds before now text) ⊎ ((e ≡ ended.WriteFault) × IsUnfinished before now text)

-- the line of a stop, and the ending after it; want of memory may stand in the place of a refusal's line
abbrev pub IsLineOf : Stop → List ℕ → Ended → Type 0
IsLineOf (stop.Refused r) line done = ((line ≡ line_of r) × (done ≡ refused_as r)) ⊎ ((line ≡ memory_line) × (done ≡ ended.OutOfMemory))
IsLineOf stop.ReadFault line done = (line ≡ read_fault_line) × (done ≡ ended.ReadFault)
IsLineOf stop.OutOfMemory line done = (line ≡ memory_line) × (done ≡ ended.OutOfMemory)

-- a stop's line was written, or left unfinished
pub record WritesStop (before now : SinkNow) (s : Stop) (e : Ended) : Type 0 where
  pub line : List ℕ
  pub done : Ended
  pub is : IsLineOf s line done
  pub writes : Writes before now line done e

-- no count of faults rose
pub record IsFaultless (before now : Outside) : Type 0 where
  pub shelf : Rose before.shelf_faults now.shelf_faults → ⊥
  pub patterns : Rose before.pattern_faults now.pattern_faults → ⊥
  pub out : Rose before.out.faults now.out.faults → ⊥
  pub err : Rose before.err.faults now.err.faults → ⊥

-- the ending is that of the answer, which where files are read is not that the maker refused a pattern
pub record EndsAsAnswered (found : Found) (words : List (List ℕ)) (files : Files) (e : Ended) : Type 0 where
  pub to : Answer (List ℕ)
  pub is : Answers found words files to
  pub good : ReadsFiles words → IsBadPattern to → ⊥
  pub ending : IsEndingOf words to e

-- this is the answer, and where files are read and it is that the maker refused a pattern, the maker counted that
pub record IsCaused (found : Found) (words : List (List ℕ)) (files : Option Files) (before now : Outside) (a : Answer (List ℕ)) : Type 0 where
  pub is : IsAnswer found words files a
  pub cause : ReadsFiles words → IsBadPattern a → Rose before.pattern_faults now.pattern_faults

-- The outcome of a call: what its ending says of the answer and of what was written, and what follows from it.
pub record HasOutcome (found : Found) (words : List (List ℕ)) (files : Option Files) (before now : Outside) (e : Ended) : Type 0 where
  pub ends : Ends words (IsCaused found words files before now) before now e
  -- the plan in the ending is one of the program that the query is bound to
  pub plan : IfPlan (IsPlanFor found words files (command_of words)) e
  -- and where it is explained, its text was written
  pub explained : IfExplained (λ plan. Adds before.out now.out (plan_text plan)) e
  -- a read or write fault is answered only where the count of an object that was handed in rose in this call
  pub read : e ≡ ended.ReadFault → Rose before.shelf_faults now.shelf_faults
  -- and a read fault only of a command that reads files, whose words have no fault
  pub turn : e ≡ ended.ReadFault → ReadsFiles words
  -- and a pattern of a command that reads files is refused only where the count of the maker rose
  pub pattern : ReadsFiles words → (place : Place) → e ≡ ended.QueryRefused bad_pattern_code place → Rose before.pattern_faults now.pattern_faults
  pub write : e ≡ ended.WriteFault → Rose before.out.faults now.out.faults ⊎ Rose before.err.faults now.err.faults
  -- after a refusal, a read fault or want of memory nothing was written to the output
  pub quiet : IsQuiet e → IsSame before.out now.out
  -- where no count rose the ending is that of the answer, or want of memory
  pub complete : IsFaultless before now → IfSome files (λ told. EndsAsAnswered found words told e ⊎ (e ≡ ended.OutOfMemory))

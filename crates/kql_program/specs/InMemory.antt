-- The top call over sinks in memory.
use Rattle.std.specs.Prelude.{◌≡◌, ◌≤◌, ◌⊎◌, ℕ, List, [], ◌++◌, length, Some, Ok, Err}
use Rattle.pattern_run.specs.Patterned.{Found}
use Rattle.kql_outside.specs.Memory.{SinkState, room_left}
use Rattle.kql_program.specs.Answer.{Answers}
use Rattle.kql_program.specs.declared.ended.Ended.{Ended}
use Rattle.kql_program.specs.declared.ended.Ended.TheVariants.{OutOfMemory, WriteFault}
use Rattle.kql_program.specs.Endings.{IsEndingOf}
use Rattle.catalogue_tables.specs.Files.{Files}
use Rattle.kql_program.specs.Lines.{line_of, memory_line}
use Rattle.kql_program.specs.Outcomes.{SinkNow, sink_now}
use Rattle.kql_words.specs.Refusals.{Answer}

-- a sink in memory, as the top call sees a sink
abbrev pub in_memory : SinkState → SinkNow
in_memory s = sink_now (Some s.bytes) (Some (room_left s)) s.count

-- what an answer writes to the output
abbrev pub output_text : Answer (List ℕ) → List ℕ
output_text (Ok text) = text
output_text (Err r) = []

-- and for errors
abbrev pub error_text : Answer (List ℕ) → List ℕ
error_text (Ok text) = []
error_text (Err r) = line_of r

-- there is room for what the answer writes
pub record HaveRoom (a : Answer (List ℕ)) (out err : SinkState) : Type 0 where
  pub output : length (output_text a) ≤ room_left out
  pub error : length (error_text a) ≤ room_left err

-- the ending and the bytes of an answer
pub record IsGiven (words : List (List ℕ)) (a : Answer (List ℕ)) (out out_new err err_new : SinkState) (e : Ended) : Type 0 where
  pub ending : IsEndingOf words a e
  pub output : out_new.bytes ≡ out.bytes ++ output_text a
  pub error : err_new.bytes ≡ err.bytes ++ error_text a

-- there was no room for an answer: a write fault
pub record HadNoRoom (a : Answer (List ℕ)) (out err : SinkState) (e : Ended) : Type 0 where
  pub ending : e ≡ WriteFault
  pub full : HaveRoom a out err → ⊥

-- the answer to the words and files was given, or there was no room for it
pub record Answered (found : Found) (words : List (List ℕ)) (files : Files) (out out_new err err_new : SinkState) (e : Ended) : Type 0 where
  pub to : Answer (List ℕ)
  pub is : Answers found words files to
  pub given : IsGiven words to out out_new err err_new e ⊎ HadNoRoom to out err e

-- there is room for the line of want of memory
abbrev pub HasRoomForMemoryLine : SinkState → Type 0
HasRoomForMemoryLine err = length memory_line ≤ room_left err

-- want of memory: its line, and nothing on the output
pub record RunsOut (out out_new err err_new : SinkState) (e : Ended) : Type 0 where
  pub ending : e ≡ OutOfMemory
  pub output : out_new.bytes ≡ out.bytes
  pub error : err_new.bytes ≡ err.bytes ++ memory_line

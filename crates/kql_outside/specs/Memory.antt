-- Shelves and sinks in memory.
use Rattle.std.specs.Prelude.{ℕ, ◌-◌, ◌<◌, ◌≤◌, List, [], length, drop, Contains, Option, Some, None, slice_index_or, string_bytes, String, Vec}
use Rattle.std.specs.Global.{Global}
use Rattle.kql_outside.specs.Calls.{CallCounts}
use Rattle.kql_outside.specs.Causes.{next_count}
use Rattle.kql_outside.specs.declared.clean.Reading.{Reading}

-- a file: its path and its bytes
abbrev pub path_and_bytes : String Global × Vec ℕ Global → List ℕ × List ℕ
path_and_bytes file = (string_bytes file.0, file.1.items)

-- a shelf: its files by path, and what is left of the started one
pub record ShelfState : Type 0 where
  pub files : List (List ℕ × List ℕ)
  pub rest : List ℕ

-- the bytes of the file of a number
abbrev pub bytes_at : List (List ℕ × List ℕ) → ℕ → List ℕ
bytes_at files number = (slice_index_or files number ([], [])).1

-- what is left of the file that is read
abbrev pub left_of : List (List ℕ × List ℕ) → Option Reading → List ℕ
left_of files None = []
left_of files (Some reading) = drop reading.at (bytes_at files reading.file)

-- the file that is read is one of these, and no more of it was read than there is
abbrev pub IsWithin : List (List ℕ × List ℕ) → Option Reading → Type 0
IsWithin files None = Unit {0}
IsWithin files (Some reading) = (reading.file < length files) × (reading.at ≤ length (bytes_at files reading.file))

-- a sink: the bytes that it holds, at most how many it takes at once and in all, and its count of faults
pub record SinkState : Type 0 where
  pub bytes : List ℕ
  pub chunk : ℕ
  pub room : ℕ
  pub count : ℕ

-- how many bytes there is room for
abbrev pub room_left : SinkState → ℕ
room_left sink = sink.room - length sink.bytes

-- the numbers of the calls that fail, from 0, and how many calls there were
pub record CallState : Type 0 where
  pub failing : List ℕ
  pub made : ℕ

-- the next call is one of those that fail
abbrev pub NextFails : CallState → Type 0
NextFails calls = Contains calls.failing calls.made

-- one more call was made
abbrev pub after_call : CallState → CallState
after_call calls = record calls { made = next_count calls.made }

-- a shelf of which some calls fail
pub record MemShelfState : Type 0 where
  pub shelf : ShelfState
  pub calls : CallState
  pub count : ℕ
  pub course : CallCounts
  pub starts : ℕ

-- a sink of which some calls fail
pub record MemSinkState : Type 0 where
  pub sink : SinkState
  pub calls : CallState
  pub course : CallCounts

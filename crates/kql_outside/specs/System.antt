-- What stands behind the shelf and the sink of the system.
use Rattle.std.specs.Prelude.{◌≡◌, ℕ, List, Option, Some, None, Result, Ok}
use Rattle.std.specs.Io.KnownBytes.{ReadConsumes}
use Rattle.kql_outside.specs.declared.outside.Failed.{Failed}
use Rattle.kql_outside.specs.declared.host.DirShelf.{DirShelf}
use Rattle.kql_outside.specs.declared.host.StreamSink.{StreamSink}

-- what a sink writes to
abbrev pub stream_of : {W : Type 0} → StreamSink W → W
stream_of sink = sink.inner

-- the file that is started
abbrev pub started_file : {R F D : Type 0} → DirShelf R F D → Option F
started_file shelf = shelf.file

-- a read gave what the file gave, and a file that was not read stays as it was
abbrev pub Reads : {F : Type 0} → (F → Option (List ℕ)) → Option F → Option F → Result ℕ Failed → List ℕ → Type 0
Reads remaining (Some before) (Some now) result buf = ReadConsumes (remaining before) (remaining now) result buf
Reads remaining None None result buf = result ≡ Ok 0
Reads remaining _ _ result buf = ⊥

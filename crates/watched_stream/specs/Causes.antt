-- Why a write to a stream failed.
use Rattle.std.specs.Prelude.{ℕ, List, [], ◌∷◌, Option, Some, Result, Ok, Err, suc, zero}
use Rattle.std.specs.IoError.{error_kind}
use Rattle.std.specs.declared.io.Error.{Error}
use Rattle.std.specs.declared.io.ErrorKind.{ErrorKind}
use Rattle.std.specs.declared.io.ErrorKind.TheVariants as kind
use Rattle.watched_stream.specs.declared.watched.WatchedStream.{WatchedStream}

abbrev pub stream_of : {W : Type 0} → WatchedStream W → W
stream_of w = w.inner

abbrev pub cause_of : {W : Type 0} → WatchedStream W → Option ErrorKind
cause_of w = w.cause

-- the cause behind a write, by the cause before it
abbrev pub wrote : List ℕ → Result ℕ Error → Option ErrorKind → Option ErrorKind
wrote buf (Err e) old = Some (error_kind e)
wrote [] (Ok n) old = old
wrote (b ∷ buf) (Ok zero) old = Some kind.WriteZero
wrote (b ∷ buf) (Ok (suc n)) old = old

-- the same behind a flush
abbrev pub flushed : {A : Type 0} → Result A Error → Option ErrorKind → Option ErrorKind
flushed (Err e) old = Some (error_kind e)
flushed (Ok x) old = old

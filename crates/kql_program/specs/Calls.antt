-- How the calls of the shelf and the sinks went, where these tell it: after one that failed there is no other.
use Rattle.std.specs.Prelude.{◌≡◌, ◌⊎◌, ◌+◌, ◌-◌, ℕ, List, [], ◌∷◌, length, map, Option, Some, None, IfSome, Result, Ok, Err}
use Rattle.kql_lexer.specs.declared.place.Place.{Place}
use Rattle.kql_lexer.specs.declared.token.Token.{Token}
use Rattle.kql_outside.specs.Calls.{CallCounts, LastFailed, NoneFailed, one_more}
use Rattle.kql_parser.specs.Parsing.{Refuses}
use Rattle.kql_words.specs.Command.{catalogue_path, name_in, path_in, query_path, table_words}
use Rattle.kql_words.specs.Refusals.{Answer, ◌>>=◌}
use Rattle.kql_words.specs.declared.command.Asked.{Asked}
use Rattle.kql_program.specs.Endings.{refused_as}
use Rattle.catalogue_tables.specs.Computes.{IsRefused}
use Rattle.catalogue_tables.specs.Entries.{entries_taken}
use Rattle.catalogue_tables.specs.Files.{Files, file_bytes}
use Rattle.kql_program.specs.Files.{file_tokens, table_in}
use Rattle.kql_program.specs.declared.ended.Ended.{Ended}
use Rattle.kql_program.specs.declared.ended.Ended.TheVariants as ended
use Rattle.kql_program.specs.declared.refusal.Stop.{Stop}
use Rattle.kql_program.specs.declared.refusal.Stop.TheVariants as stop

-- the calls of a shelf, by why the work stops: for a read fault the last of them failed, and else none did
abbrev pub StopsBy : Option CallCounts → Option CallCounts → Stop → Type 0
StopsBy before now (stop.Refused refusal) = NoneFailed before now
StopsBy before now stop.ReadFault = LastFailed before now
StopsBy before now stop.OutOfMemory = NoneFailed before now

abbrev pub StopsAtRead : {X : Type 0} → Option CallCounts → Option CallCounts → Result X Stop → Type 0
StopsAtRead before now (Ok x) = NoneFailed before now
StopsAtRead before now (Err stop) = StopsBy before now stop

-- the calls of a sink to which a text was written: the call ends so, or the last of them failed
abbrev pub EndsAtWrite : Option CallCounts → Option CallCounts → Ended → Ended → Type 0
EndsAtWrite before now done e = ((e ≡ done) × NoneFailed before now) ⊎ ((e ≡ ended.WriteFault) × LastFailed before now)

-- the ending after the line of a stop was written
abbrev pub IsDoneAfter : Stop → Ended → Type 0
IsDoneAfter (stop.Refused r) done = (done ≡ refused_as r) ⊎ (done ≡ ended.OutOfMemory)
IsDoneAfter stop.ReadFault done = done ≡ ended.ReadFault
IsDoneAfter stop.OutOfMemory done = done ≡ ended.OutOfMemory

-- the calls of the sink for errors to which that line was written
pub record LineEndsAtWrite (before now : Option CallCounts) (s : Stop) (e : Ended) : Type 0 where
  pub done : Ended
  pub is : IsDoneAfter s done
  pub writes : EndsAtWrite before now done e

-- what the outside tells of its calls at one moment
pub record CallsNow : Type 0 where
  pub shelf : Option CallCounts
  pub out : Option CallCounts
  pub err : Option CallCounts

abbrev pub calls_now : Option CallCounts → Option CallCounts → Option CallCounts → CallsNow
calls_now shelf out err = record { shelf = shelf; out = out; err = err }

-- how the calls of an object went
abbrev pub Course : Type 1
Course = Option CallCounts → Option CallCounts → Type 0

-- there was none
abbrev pub Uncalled : Course
Uncalled before now = now ≡ before

-- none failed, or the last did
abbrev pub MayFail : Course
MayFail before now = NoneFailed before now ⊎ LastFailed before now

-- so the calls of the shelf went, and so those of the sinks
pub record Went (Shelf Out Err : Course) (before now : CallsNow) : Type 0 where
  pub shelf : Shelf before.shelf now.shelf
  pub out : Out before.out now.out
  pub err : Err before.err now.err

-- What each ending says of the calls. A call that failed is the last of its object, and the ending is that fault: nothing more is read
-- after it, and nothing more is written, but for the line that tells a read fault.
abbrev pub HeedsFaults : CallsNow → CallsNow → Ended → Type 0
HeedsFaults before now (ended.Table plan report) = Went NoneFailed NoneFailed Uncalled before now
HeedsFaults before now ended.PlainTable = Went NoneFailed NoneFailed Uncalled before now
HeedsFaults before now (ended.Explained plan) = Went NoneFailed NoneFailed Uncalled before now
HeedsFaults before now (ended.Trial reports) = Went NoneFailed NoneFailed Uncalled before now
HeedsFaults before now (ended.QueryRefused code place) = Went NoneFailed Uncalled NoneFailed before now
HeedsFaults before now (ended.Usage word code) = Went NoneFailed Uncalled NoneFailed before now
HeedsFaults before now (ended.DataRefused file code row column) = Went NoneFailed Uncalled NoneFailed before now
HeedsFaults before now ended.OutOfMemory = Went NoneFailed Uncalled NoneFailed before now
HeedsFaults before now ended.ReadFault = Went LastFailed Uncalled NoneFailed before now
HeedsFaults before now ended.WriteFault = Went NoneFailed LastFailed Uncalled before now ⊎ Went MayFail Uncalled LastFailed before now

-- Files that are started.

-- the query file can't be had, or its tokens or its syntax are refused
abbrev pub OwnFault : Answer (List Token) → Type 0
OwnFault (Err refusal) = Unit {0}
OwnFault (Ok tokens) = (code : ℕ) × (place : Place) × Refuses tokens code place

abbrev pub HasOwnFault : List (List ℕ) → Files → Asked → Type 0
HasOwnFault words files asked = OwnFault (file_tokens files (query_path words asked))

-- the table of a word is not refused, and the files behind its own may have so many bytes
unfoldable pub left_behind : Files → ℕ → ℕ → List ℕ → Answer ℕ
left_behind files number room word = file_bytes number files (path_in word) >>= λ bytes. table_in number room bytes >>= λ grid. Ok (room - length bytes)

-- of a catalogue file: where it, or one of its entries, is refused, it is the last that was started
abbrev pub StartsBehind : Files → List (List ℕ) → Option (List ℕ) → Option ℕ → Option ℕ → Type 0
StartsBehind files names None before now = ⊥
StartsBehind files names (Some path) before now = IsRefused (entries_taken files names path) → now ≡ one_more before

-- The files that were started for the tables of words: none; or that of the first word; or that and then those of the words behind it, where the table
-- is not refused. What may be started behind all words is handed in.
unfoldable pub StartsFrom : Files → (Option ℕ → Option ℕ → Type 0) → ℕ → ℕ → List (List ℕ) → Option ℕ → Option ℕ → Type 0
StartsFrom files Behind number room [] before now = (now ≡ before) ⊎ Behind before now
StartsFrom files Behind number room (word ∷ words) before now =
    (now ≡ before) ⊎ (now ≡ one_more before)
    ⊎ ((left : ℕ) × (left_behind files number room word ≡ Ok left) × StartsFrom files Behind (number + 1) left words (one_more before) now)

-- the files that were started for the tables of words and of a catalogue file, whose files may have so many bytes together
abbrev pub StartsTables : Files → ℕ → Option (List ℕ) → List (List ℕ) → Option ℕ → Option ℕ → Type 0
StartsTables files limit catalogue words before now = StartsFrom files (StartsBehind files (map name_in words) catalogue) 1 limit words before now

-- The files that were started for a query: its own, and no other where it has a fault of its own; else those of its tables, one after another.
pub record StartsOf (words : List (List ℕ)) (files : Files) (asked : Asked) (before now : Option ℕ) : Type 0 where
  pub own : HasOwnFault words files asked → now ≡ one_more before
  pub tables : StartsTables files asked.options.limit (catalogue_path words asked) (table_words words asked) (one_more before) now

-- How many files were started: none where no query is asked for.
abbrev pub StartsFor : List (List ℕ) → Option Files → Option Asked → Option ℕ → Option ℕ → Type 0
StartsFor words told None before now = now ≡ before
StartsFor words told (Some asked) before now = IfSome told (λ files. StartsOf words files asked before now)

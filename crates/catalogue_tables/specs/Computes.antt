-- How calls give answers, and how the calls of the shelf went.
use Rattle.std.specs.Prelude.{◌≡◌, ℕ, List, take, Option, Result, Ok, Err}
use Rattle.kql_outside.specs.Calls.{CallCounts, LastFailed, NoneFailed}
use Rattle.kql_outside.specs.declared.transfers.ReadError.{ReadError}
use Rattle.kql_outside.specs.declared.transfers.ReadError.TheVariants as read
use Rattle.kql_words.specs.Refusals.{Answer}
use Rattle.kql_words.specs.declared.refusal.Refusal.TheVariants.{Data}
use Rattle.catalogue_tables.specs.declared.stop.CatalogueStop.{CatalogueStop}
use Rattle.catalogue_tables.specs.declared.stop.CatalogueStop.TheVariants as stop

-- a call gave what the answer is; want of memory alone may stand in its place
abbrev pub Gives : {X : Type 0} → Answer X → Result X CatalogueStop → Type 0
Gives answer (Ok x) = answer ≡ Ok x
Gives answer (Err (stop.Refused file code row column)) = answer ≡ Err (Data file code row column)
Gives answer (Err stop.ReadFault) = ⊥
Gives answer (Err stop.OutOfMemory) = Unit {0}

-- the same of a call that reads files, where a fault of the shelf may stand in its place too
abbrev pub Computes : {X : Type 0} → Answer X → Result X CatalogueStop → Type 0
Computes answer (Err stop.ReadFault) = Unit {0}
Computes answer result = Gives answer result

-- a call gave a front of so many bytes of what the answer is
abbrev pub ReadsFront : ℕ → Answer (List ℕ) → Result (List ℕ) CatalogueStop → Type 0
ReadsFront limit answer (Ok bytes) = (all : List ℕ) × (answer ≡ Ok all) × (bytes ≡ take limit all)
ReadsFront limit answer (Err s) = Computes answer (Err s)

abbrev pub read_stop : ReadError → CatalogueStop
read_stop read.Failed = stop.ReadFault
read_stop read.OutOfMemory = stop.OutOfMemory

-- an answer is a refusal
abbrev pub IsRefused : {X : Type 0} → Answer X → Type 0
IsRefused (Ok x) = ⊥
IsRefused (Err refusal) = Unit {0}

-- the calls of a shelf, by why the work stops: for a read fault the last of them failed, and else none did
abbrev pub StopsBy : Option CallCounts → Option CallCounts → CatalogueStop → Type 0
StopsBy before now (stop.Refused file code row column) = NoneFailed before now
StopsBy before now stop.ReadFault = LastFailed before now
StopsBy before now stop.OutOfMemory = NoneFailed before now

abbrev pub StopsAtRead : {X : Type 0} → Option CallCounts → Option CallCounts → Result X CatalogueStop → Type 0
StopsAtRead before now (Ok x) = NoneFailed before now
StopsAtRead before now (Err s) = StopsBy before now s

-- What holds of the appender and of the readers of a run.
use Rattle.std.specs.Prelude.{◌≡◌, ℕ, List, [], length, IfSome, IsSomeAnd, Some, false}
use Rattle.kql_cells.specs.Table.{Grid}
use Rattle.live_catalogue.specs.Views.{AppenderView, ReaderView}
use Rattle.live_run.specs.Sights.{HasSeen}
use Rattle.live_run.specs.declared.watch.Watcher.{Watcher}

module _ {V : Type 0} where
  -- the appender may publish, and nothing is pending
  pub record IsOpen (a : AppenderView V) : Type 0 where
    pub open_yet : a.closed ≡ false
    pub none : a.pending ≡ []

  -- the reader has no closing mark, and this holds of the value that opened
  pub record IsReading (stands : V → Type 0) (r : ReaderView V) : Type 0 where
    pub opened : IsSomeAnd r.opening stands
    pub open_yet : r.closed ≡ false

  -- a reader of a value that was this as it opened: it has no closing mark, and has seen nothing yet
  pub record IsFresh (first : V) (r : ReaderView V) : Type 0 where
    pub opened : r.opening ≡ Some first
    pub open_yet : r.closed ≡ false
    pub least : r.least ≡ 0

  abbrev pub IsOfFresh : V → Watcher (ReaderView V) → Type 0
  IsOfFresh first w = IsFresh first w.reader

  -- a reader that has seen nothing yet
  pub record IsWaiting (stands : V → Type 0) (w : Watcher (ReaderView V)) : Type 0 where
    pub reading : IsReading stands w.reader
    pub least : w.reader.least ≡ 0

  -- a reader that has seen so many answers, or wanted memory
  abbrev pub HasWatched : (V → Type 0) → (Grid → Grid) → Grid → List Grid → ℕ → Watcher (ReaderView V) → Type 0
  HasWatched stands answer opening batches times w =
      IfSome w.seen (λ seen. IsReading stands w.reader × HasSeen answer opening batches 0 seen w.reader.least × (length seen ≡ times))

-- What contracts see of an appender, of a reader and of a note
use Rattle.std.specs.Prelude.{ℕ, ◌++◌, List, [], max, fold, length, sum_by, Option, Some, Bool, false, cond, nat_le}
use Rattle.kql_cells.specs.Table.{Grid}

pub record AppenderView (V : Type 0) : Type 0 where
  -- what `live` was given
  pub opening : Option V
  -- the batches that were published since, in order
  pub published : List Grid
  -- and those that are to be published
  pub pending : List Grid
  -- what readers take
  pub value : V
  pub closed : Bool

pub record NoteView (V : Type 0) : Type 0 where
  pub opening : Option V
  pub batches : List Grid
  pub closed : Bool

pub record ReaderView (V : Type 0) : Type 0 where
  pub opening : Option V
  -- those that it has seen, or was told of
  pub batches : List Grid
  pub closed : Bool
  -- no snapshot of it has fewer batches
  pub least : ℕ

-- how many rows a batch has, and all of these together
abbrev pub line_count : Grid → ℕ
line_count batch = length batch.lines

abbrev pub all_rows : List Grid → ℕ
all_rows batches = sum_by line_count batches

module _ {V : Type 0} where
  -- an appender as `live` makes it
  abbrev pub begun : V → AppenderView V
  begun first = record { opening = Some first; published = []; pending = []; value = first; closed = false }

  abbrev pub all_published : (V → Grid → V) → AppenderView V → AppenderView V
  all_published grown a = record a { published = a.published ++ a.pending; pending = []; value = fold grown a.value a.pending }

  abbrev pub note_of : AppenderView V → NoteView V
  note_of a = record { opening = a.opening; batches = a.published; closed = a.closed }

  -- a reader that knows what the note carries
  abbrev pub knowing : NoteView V → ReaderView V
  knowing n = record { opening = n.opening; batches = n.batches; closed = n.closed; least = length n.batches }

  abbrev pub beginner : AppenderView V → ReaderView V
  beginner a = knowing (note_of a)

  abbrev pub with_least : ReaderView V → ℕ → ReaderView V
  with_least r n = record r { least = n }

  -- The note's list counts where it has the closing mark, or is as long as the reader's. A reader that has the mark keeps its list
  abbrev pub learnt : ReaderView V → NoteView V → ReaderView V
  learnt r n =
      with_least
      (cond r.closed r (cond n.closed (knowing n) (cond (nat_le (length r.batches) (length n.batches)) (knowing n) r)))
      (max r.least (length n.batches))

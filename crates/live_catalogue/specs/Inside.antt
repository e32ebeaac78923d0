-- What ties the fields of an appender, of a note and of a reader to what their seats know
use Rattle.std.specs.Prelude.{◌≡◌, ℕ, ◌+◌, ◌^◌, ◌<◌, ◌≤◌, List, [], All, fold, length, Bool, true, false}
use Rattle.kql_cells.specs.Table.{Grid}
use Rattle.live_catalogue.specs.declared.value.Live.{Live}
use Rattle.live_catalogue.specs.declared.known.Known.{Known}
use Rattle.live_catalogue.specs.Moves.{with_batches}
use Rattle.live_catalogue.specs.Rule.{StartsWith}
use Rattle.live_catalogue.specs.Views.{all_rows}

module _ {V : Type 0} where
  pub record NoteKept (known : Known V) (number : ℕ) (closed : Bool) : Type 0 where
    pub number_is : number ≡ length known.batches
    pub closed_is : closed ≡ known.closed

  -- the seat of a writer that may publish
  pub record CanPublish (known : Known V) (shown : Live V) : Type 0 where
    pub appends : known.appends ≡ true
    pub begun : shown.begun ≡ true
    pub open_yet : known.closed ≡ false

  pub record AppenderKept (can_take : V → Grid → Type 0) (row_count : V → ℕ) (known : Known V) (shown : Live V) (pending : List Grid) (rows staged : ℕ) (closed : Bool) : Type 0 where
    pub appends : known.appends ≡ true
    pub begun : shown.begun ≡ true
    pub closed_is : closed ≡ known.closed
    pub count : shown.batches ≡ length known.batches
    pub rows_are : rows ≡ row_count shown.value + all_rows pending
    pub few_rows : rows < 2 ^ 63
    pub staged_are : staged ≡ length known.batches + length pending
    pub few_staged : staged ≤ 2 ^ 63
    pub taken : All (λ b. can_take shown.value b) pending

  -- what a publish does to the seat, the value and the batches that are pending
  pub record IsShown (grown : V → Grid → V) (known : Known V) (shown : Live V) (pending : List Grid) (known' : Known V) (shown' : Live V) (pending' : List Grid) : Type 0 where
    pub known_is : known' ≡ with_batches known pending
    pub shown_is : shown' ≡ record { value = fold grown shown.value pending; batches = shown.batches + length pending; begun = shown.begun }
    pub none_left : pending' ≡ []

  pub record IsUnchanged (known : Known V) (shown : Live V) (pending : List Grid) (known' : Known V) (shown' : Live V) (pending' : List Grid) : Type 0 where
    pub known_is : known' ≡ known
    pub shown_is : shown' ≡ shown
    pub pending_are : pending' ≡ pending

  -- what a reader knows after it has entered
  pub record IsLater (known known' : Known V) (number : ℕ) : Type 0 where
    pub same : known' ≡ record { opening = known.opening; batches = known'.batches; appends = known.appends; closed = known.closed }
    pub first : StartsWith known'.batches known.batches
    pub count : number ≡ length known'.batches
    pub last : known.closed ≡ true → known'.batches ≡ known.batches

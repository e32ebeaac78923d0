-- The rule of a live value, and what its steps tell
use Rattle.std.specs.Prelude.{◌≡◌, ℕ, ◌++◌, List, fold, length, Bool, Some, true}
use mathlib.Core.Option.{some}
use lib.ListN.{get_elem?}
use Rattle.kql_cells.specs.Table.{Grid}
use Rattle.live_catalogue.specs.declared.value.Live.{Live}
use Rattle.live_catalogue.specs.declared.known.Known.{Known}
use Rattle.live_catalogue.specs.Moves.{appending, with_batches}

abbrev pub StartsWith : List Grid → List Grid → Type 0
StartsWith all first = (rest : List Grid) × (all ≡ first ++ rest)

module _ {V : Type 0} where
  -- what holds of the view of the seat j, where `batches` are all that were published since the value was `opening`
  pub record Fits (promised : V → List Grid → Type 0) (opening : V) (batches : List Grid) (shut begun : Bool) (writer j : ℕ) (v : Known V) : Type 0 where
    pub same : (o : V) → v.opening ≡ Some o → o ≡ opening
    pub promise : (o : V) → v.opening ≡ Some o → promised o v.batches
    pub first : StartsWith batches v.batches
    pub closed : v.closed ≡ true → (shut ≡ true) × (begun ≡ true) × (v.batches ≡ batches)
    pub appends : v.appends ≡ true → (j ≡ writer) × (begun ≡ true) × (v.batches ≡ batches) × (v.closed ≡ shut) × (v.opening ≡ Some opening)

  -- There are the value as it was opened, and all batches published since, of which the promise holds. The value that is published now is the
  -- first grown by the others, and what each seat knows is a beginning of their list
  pub record Kept (grown : V → Grid → V) (promised : V → List Grid → Type 0) (x : Live V) (views : List (Known V)) : Type 0 where
    pub opening : V
    pub batches : List Grid
    pub shut : Bool
    pub writer : ℕ
    pub value : x.value ≡ fold grown opening batches
    pub count : x.batches ≡ length batches
    pub promise : promised opening batches
    pub each : (j : ℕ) (v : Known V) → get_elem? views j ≡ some v → Fits promised opening batches shut x.begun writer j v

  abbrev pub Begins : Known V → Live V → Live V → Known V → Type 0
  Begins v x y w = w ≡ appending x.value

  abbrev pub Publishes : List Grid → Known V → Live V → Live V → Known V → Type 0
  Publishes more v x y w = w ≡ with_batches v more

  -- the batches that are seen begin with those that were seen before, and are the same where the seat has the closing mark
  pub record Enters (grown : V → Grid → V) (promised : V → List Grid → Type 0) (v : Known V) (x y : Live V) (w : Known V) : Type 0 where
    pub same : w ≡ record v { batches = w.batches }
    pub first : StartsWith w.batches v.batches
    pub value : (o : V) → v.opening ≡ Some o → y.value ≡ fold grown o w.batches
    pub count : y.batches ≡ length w.batches
    pub promise : (o : V) → v.opening ≡ Some o → promised o w.batches
    pub last : v.closed ≡ true → w.batches ≡ v.batches

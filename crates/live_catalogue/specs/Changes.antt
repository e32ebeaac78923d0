-- What a change does to a live value
use Rattle.std.specs.Prelude.{◌+◌, List, [], ◌∷◌, true}
use Rattle.kql_cells.specs.Table.{Grid}
use Rattle.live_catalogue.specs.declared.value.Live.{Live}
use Rattle.live_catalogue.specs.declared.value.Change.{Change}
use Rattle.live_catalogue.specs.declared.value.Change.TheVariants.{Begin, Grow}

module _ {V : Type 0} (grown : V → Grid → V) where
  abbrev pub changed : Live V → Change → Live V
  changed live Begin = record live { begun = true }
  changed live (Grow batch) = record live { value = grown live.value batch; batches = live.batches + 1 }

-- the batches of these changes, in order
abbrev pub batches_of : List Change → List Grid
batches_of [] = []
batches_of (Begin ∷ changes) = batches_of changes
batches_of (Grow batch ∷ changes) = batch ∷ batches_of changes

use Rattle.std.proofs.Common.{◌↔◌, All, length}
use Rattle.live_tables.specs.Growing.{has_columns_of}
use Rattle.live_tables.proofs.columns.have_columns_of.Given as goal

abbrev pub invariant-batches : goal.invariant-batches
invariant-batches l = All (has_columns_of l.table) l.left ↔ All (has_columns_of l.table) l.fn.batches

abbrev pub decreases-batches : goal.decreases-batches
decreases-batches l = length l.left

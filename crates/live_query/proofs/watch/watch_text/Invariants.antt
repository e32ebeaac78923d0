use Rattle.std.proofs.Common.{◌≡◌, ◌+◌, ◌++◌, All, length}
use Rattle.live_tables.specs.Growing.{has_columns_of}
use Rattle.live_query.specs.LiveMeaning.{live_means}
use Rattle.live_query.specs.Watching.{watch_text, watched_from}
use Rattle.live_query.proofs.watch.watch_text.Given as goal

abbrev pub invariant-grown : goal.invariant-grown
invariant-grown l = record {
  count : l.count + length l.left ≡ length l.batches;
  columns : l.table.columns ≡ l.opening.columns;
  fits : All (has_columns_of l.opening) l.left;
  shown : l.out.items ++ watched_from (live_means l.query) l.count l.before l.table l.left ≡ watch_text (live_means l.query) l.opening l.batches;
}

abbrev pub decreases-grown : goal.decreases-grown
decreases-grown l = length l.left

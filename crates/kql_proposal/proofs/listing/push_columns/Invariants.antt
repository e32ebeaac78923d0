use Rattle.std.proofs.Common.{◌≡◌, ◌++◌, map, take}
use Rattle.kql_proposal.specs.Listing.{count_value, listing_columns, row_of}
use Rattle.kql_proposal.proofs.listing.push_columns.Given as goal

abbrev pub invariant-loop-column : goal.invariant-loop-column
invariant-loop-column l = record {
  columns : l.listing.columns ≡ listing_columns;
  lines : l.listing.lines ≡ l.initial.listing.lines ++ map (row_of l.named.name (count_value l.count)) (take l.column-index l.named.schema);
}

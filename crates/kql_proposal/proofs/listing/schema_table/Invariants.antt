use Rattle.std.proofs.Common.{◌≡◌, ◌++◌, length}
use Rattle.kql_proposal.specs.Listing.{listed, listing_columns}
use Rattle.kql_proposal.proofs.listing.schema_table.Given as goal

abbrev pub invariant-tables : goal.invariant-tables
invariant-tables l = record {
  columns : l.listing.columns ≡ listing_columns;
  lines : l.listing.lines ++ listed l.left l.counts_left ≡ listed l.tables l.counts;
}

abbrev pub decreases-tables : goal.decreases-tables
decreases-tables l = length l.left

use Rattle.std.proofs.Common.{refl}
use Rattle.kql_proposal.proofs.ListingFacts.{row-fits}
use Rattle.kql_proposal.proofs.listing.push_column.Goals as goal

pub push_cells-requires : goal.push_cells-requires
push_cells-requires c =
    row-fits c.args.listing.now.columns _ c.args.table.now c.args.count c.args.column.now c.requires.columns (rw (c.as_str.ensures.same, c.kind_word.ensures.word, c.count_cell.ensures) refl)

use Rattle.kql_plain.specs.AtHand.{world_of}
use Rattle.phase_laws.specs.Pieces.{piece_of}
use Rattle.phase_run.proofs.RowSteps.{behind-filter-made, filter-fits, filter-plain}
use Rattle.phase_run.proofs.rows.made_of_piece.Goals as goal

pub filtered_piece-requires-clause-fits : goal.filtered_piece-requires-clause-fits
filtered_piece-requires-clause-fits c = filter-fits c.args.ops.now c.in-Some.behind.now c.in-Some.e.now (world_of c.args.catalogue.now c.args.lets.now) c.args.table.now c.in-Some.ensures.first c.requires.fits

pub filtered_piece-requires-clause-plain : goal.filtered_piece-requires-clause-plain
filtered_piece-requires-clause-plain c = filter-plain c.args.ops.now c.in-Some.behind.now c.in-Some.e.now c.in-Some.ensures.first c.requires.by_row

pub returns-in_ok-made-in-Some : goal.returns-in_ok-made-in-Some
returns-in_ok-made-in-Some c = record {
  table = behind-filter-made c.args.ops.now c.in-Some.behind.now c.in-Some.e.now (world_of c.args.catalogue.now c.args.lets.now) (piece_of c.args.rows c.args.table.now c.args.piece) c.in_ok-kept-in-Some.kept c.in_ok-made-in-Some.made
      c.in-Some.ensures.first c.in_ok-kept-in-Some.ensures.table c.in_ok-made-in-Some.ensures.table;
}

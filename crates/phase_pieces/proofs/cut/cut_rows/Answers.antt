use Rattle.std.proofs.Common.{rules}
use Rattle.phase_pieces.proofs.CutLaws.{cut_steps, pieces-found}
use Rattle.phase_pieces.proofs.cut.cut_rows.Goals as goal

pub returns-clause-pieces : goal.returns-clause-pieces
returns-clause-pieces c = pieces-found c.args.count c.args.piece_rows c.fewer.rows c.pieces_of.result (search (rules, cut_steps)) c.pieces_of.ensures.all c.pieces_of.ensures.each

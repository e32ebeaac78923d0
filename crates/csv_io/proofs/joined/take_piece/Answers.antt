use Rattle.std.proofs.Common.{◌≡◌}
use Rattle.csv_io.proofs.PartFacts.{part-join}
use Rattle.csv_io.proofs.joined.take_piece.Goals as goal

pub returns-clause-part : goal.returns-clause-part
returns-clause-part c =
    let piece = rw c.requires.piece at c.into_parts-from.ensures.part in
    let same : c.in_ok-at.at ≡ c.into_parts-from.result.0 = c.if-at-from.false in
    let before = rw same at c.in_ok-at.ensures.part in
    rw c.in_ok-append.ensures.lines (part-join c.args.schema.now c.args.text.now c.args.start c.into_parts-from.result.0 c.into_parts-from.result.1 c.read_up_to.new.table.lines c.into_parts-from.result.2.lines before piece)

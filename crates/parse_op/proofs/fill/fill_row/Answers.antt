use Rattle.std.proofs.Common.{◌≡◌, ◌++◌, subst}
use Rattle.kql_meaning.specs.Cuts.{cut}
use Rattle.kql_meaning.specs.Parse.{parsed_values, pieces_values}
use Rattle.parse_op.specs.Filled.{has_row}
use Rattle.parse_op.specs.Search.{Answers, ends_in}
use Rattle.parse_op.proofs.FillSteps.{row-closed, row-of-pieces}
use Rattle.parse_op.proofs.fill.fill_row.Goals as goal

pub returns-in_ok-fill_pieces-clause-added : goal.returns-in_ok-fill_pieces-clause-added
returns-in_ok-fill_pieces-clause-added c =
    let found = subst (λ ps. Answers c.in_ok-is_cut.is_cut (cut c.args.p.now.relaxed ps c.args.text.now) (ends_in c.cut_into.new.slots)) c.as_slice.ensures.items c.in_ok-is_cut.ensures.found in
    let filled = subst (λ ps. c.fill_pieces.new.builder ≡ has_row c.args.builder.now (c.args.builder.now.row ++ pieces_values ps c.args.text.now 0 (ends_in c.cut_into.new.slots))) c.as_slice-then-is_cut.ensures.items c.in_ok-fill_pieces.ensures.added in
    row-closed c.end_row.result c.args.builder.now c.fill_pieces.new.builder c.end_row.new.self (parsed_values c.args.p.now c.args.text.now)
    (row-of-pieces c.in_ok-is_cut.is_cut c.args.p.now c.args.text.now (ends_in c.cut_into.new.slots) c.args.builder.now c.fill_pieces.new.builder c.if-is_cut.true found c.requires.closed filled)
    c.end_row.ensures.ended

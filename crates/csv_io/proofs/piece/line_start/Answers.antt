use Rattle.std.proofs.Common.{length, refl, arith}
use Rattle.csv_io.proofs.PartFacts.{start-behind, start-end}
use Rattle.csv_io.proofs.piece.line_start.Goals.{then-loop-end-test+else-text-end-ne10, else-loop-end-test}
use Rattle.csv_io.proofs.piece.line_start.Goals as goal

pub returns-then-end-text : goal.returns-then-end-text
returns-then-end-text c = start-end c.args.text.now (length c.args.text.now) refl

pub returns : goal.returns
returns c = elim c.loop-end-test.branch [
  | then-loop-end-test+else-text-end-ne10 w ↦ start-behind c.args.text.now c.loop-end.end c.record_start.result c.requires c.if-end-text.false w.if-text-end-ne10.false c.record_start.ensures.within c.record_start.ensures.same
  | else-loop-end-test w ↦ absurd (omega (arith, w.loop-end-test.false, c.if-end-text.false))
]

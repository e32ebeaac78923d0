use Rattle.std.proofs.Common.{◌∙◌, refl, sym, arith}
use Rattle.csv_io.proofs.CutFacts.{line-at}
use Rattle.csv_io.proofs.cut.record_start.Goals as goal

pub loop-start-init : goal.loop-start-init
loop-start-init c = (c.requires, refl)

pub loop-start-preserved : goal.loop-start-preserved
loop-start-preserved c =
    let ends = sym c.ends_line.ensures ∙ c.if-ends_line.true in
    (omega (arith, c.loop-start-test.true), c.loop-start.invariant.1 ∙ line-at c.args.text.now c.loop-start.start c.loop-start-test.true ends)

pub returns-else-ends_line-clause-same : goal.returns-else-ends_line-clause-same
returns-else-ends_line-clause-same c = c.loop-start.invariant.1

pub returns-after-loop-start-clause-within : goal.returns-after-loop-start-clause-within
returns-after-loop-start-clause-within c = c.loop-start.invariant.0

pub returns-after-loop-start-clause-same : goal.returns-after-loop-start-clause-same
returns-after-loop-start-clause-same c = c.loop-start.invariant.1

use Rattle.std.proofs.Common.{arith}
use Rattle.csv_io.proofs.MarkFacts.{ahead-next, run-first, run-past}
use Rattle.csv_io.proofs.lanes.field_end.Goals as goal

pub returns-then-ahead-eq0-clause-run : goal.returns-then-ahead-eq0-clause-run
returns-then-ahead-eq0-clause-run c = run-past c.args.text.now c.args.at c.args.ahead.bits c.args.ahead.left c.far_end-end.result c.requires c.if-ahead-eq0.true c.far_end-end.ensures

pub overflow_sub-next : goal.overflow_sub-next
overflow_sub-next c =
    let first = run-first c.args.text.now c.args.at c.args.ahead.bits c.args.ahead.left c.requires c.if-ahead-eq0.false in
    omega (arith, first.1)

pub overflow_sub-next-2 : goal.overflow_sub-next-2
overflow_sub-next-2 c =
    let first = run-first c.args.text.now c.args.at c.args.ahead.bits c.args.ahead.left c.requires c.if-ahead-eq0.false in
    omega (arith, first.1)

pub returns-clause-run : goal.returns-clause-run
returns-clause-run c = (run-first c.args.text.now c.args.at c.args.ahead.bits c.args.ahead.left c.requires c.if-ahead-eq0.false).0

pub returns-clause-ahead : goal.returns-clause-ahead
returns-clause-ahead c =
    let first = run-first c.args.text.now c.args.at c.args.ahead.bits c.args.ahead.left c.requires c.if-ahead-eq0.false in
    λ lt. ahead-next c.args.text.now c.args.at c.args.ahead.bits c.args.ahead.left _ c.requires first.1

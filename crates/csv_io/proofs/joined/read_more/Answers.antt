use Rattle.std.proofs.Common.{◌+◌, arith, length}
use Rattle.std.proofs.lemmas.Result.{err_from_is_err_and}
use Rattle.csv_io.proofs.PartFacts.{part-first, part-join, part-start}
use Rattle.csv_io.proofs.joined.read_more.Goals as goal

pub read_rows-requires-clause-start : goal.read_rows-requires-clause-start
read_rows-requires-clause-start c = part-start c.args.schema.now c.args.text.now c.args.start c.args.at c.args.table.now.lines c.requires.part c.requires.start

pub returns-in_err-more-clause-fault : goal.returns-in_err-more-clause-fault
returns-in_err-more-clause-fault c =
    let p = err_from_is_err_and c.from_residual-in_err-more.result c.from_residual-in_err-more.ensures.1 in
    let lines = c.args.table.now.lines in
    let first = rw (c.in_ok-copy.ensures.same, c.len.ensures.count) at c.in_err-more.ensures.fault in
    rw (p.1, p.2) (part-first c.args.schema.now c.args.text.now c.args.start c.args.at 1 (length lines + 1) lines _ c.requires.part (omega arith) first)

pub returns-clause-part : goal.returns-clause-part
returns-clause-part c =
    let more = rw c.in_ok-copy.ensures.same at c.in_ok-more.ensures.part in
    rw c.in_ok-append.ensures.lines (part-join c.args.schema.now c.args.text.now c.args.start c.args.at c.in_ok-more.more.end c.args.table.now.lines c.in_ok-more.more.table.lines c.requires.part more)

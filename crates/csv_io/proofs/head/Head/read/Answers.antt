use Rattle.std.proofs.lemmas.Result.{err_from_is_err_and}
use Rattle.csv_io.proofs.PartFacts.{head-bad, head-loads, head-none}
use Rattle.csv_io.proofs.head.Head.read.Goals as goal

pub returns-in_err-schema-in-Some-clause-fault : goal.returns-in_err-schema-in-Some-clause-fault
returns-in_err-schema-in-Some-clause-fault c =
    let p = err_from_is_err_and c.from_residual-in_err-schema-in-Some.result c.from_residual-in_err-schema-in-Some.ensures.1 in
    let first = rw c.in-Some.is at c.in_ok-end.ensures in
    rw (p.1, p.2) (head-bad c.args.text.now c.read_first.new.line c.in-Some.end _ c.utf8.text first c.in_err-schema-in-Some.ensures)

pub returns-in-Some-clause-loads : goal.returns-in-Some-clause-loads
returns-in-Some-clause-loads c =
    let first = rw c.in-Some.is at c.in_ok-end.ensures in
    let read = c.in_ok-schema-in-Some.ensures in
    head-loads c.args.text.now c.read_first.new.line c.in-Some.end c.in_ok-schema-in-Some.schema c.utf8.text first read.0 read.1

pub returns-clause-fault : goal.returns-clause-fault
returns-clause-fault c = head-none c.args.text.now c.refused.result c.utf8.text (rw c.in-None.is at c.in_ok-end.ensures) c.refused.ensures

use Rattle.std.proofs.Common.{◌∙◌, ap, sym}
use Rattle.std.proofs.lemmas.Result.{err_from_is_err_and}
use Rattle.csv_io.specs.Parts.{loaded_rows}
use Rattle.csv_io.proofs.PartFacts.{typed-bad, typed-loads, typed-none}
use Rattle.csv_io.proofs.head.Head.read_typed.Goals as goal

pub returns-in_err-check_header-in-Some-clause-fault : goal.returns-in_err-check_header-in-Some-clause-fault
returns-in_err-check_header-in-Some-clause-fault c =
    let p = err_from_is_err_and c.from_residual-in_err-check_header-in-Some.result c.from_residual-in_err-check_header-in-Some.ensures.1 in
    let first = rw c.in-Some.is at c.in_ok-end.ensures in
    let differs = rw c.columns.ensures.columns at c.in_err-check_header-in-Some.ensures in
    rw (p.1, p.2) (typed-bad c.args.text.now c.read_first.new.line c.in-Some.end c.args.schema.now _ c.utf8.text first differs)

pub returns-in-Some-clause-loads : goal.returns-in-Some-clause-loads
returns-in-Some-clause-loads c =
    let first = rw c.in-Some.is at c.in_ok-end.ensures in
    let same = rw c.columns.ensures.columns at c.in_ok-check_header-in-Some.ensures.0 in
    typed-loads c.args.text.now c.read_first.new.line c.in-Some.end c.args.schema.now c.utf8.text first same
    ∙ ap (λ cs. loaded_rows cs c.args.text.now) (sym c.in_ok-schema-in-Some.ensures.same)

pub returns-clause-fault : goal.returns-clause-fault
returns-clause-fault c = typed-none c.args.text.now c.args.schema.now c.refused.result c.utf8.text (rw c.in-None.is at c.in_ok-end.ensures) c.refused.ensures

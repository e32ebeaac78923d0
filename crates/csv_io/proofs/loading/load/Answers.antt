use Rattle.std.proofs.Common.{◌∙◌, ap, refl, sym}
use Rattle.std.proofs.lemmas.Result.{err_from_is_err_and}
use Rattle.csv_io.specs.Load.{loaded}
use Rattle.csv_io.proofs.LoadFacts.{loaded-other}
use Rattle.csv_io.proofs.PartFacts.{load-fault, load-table}
use Rattle.csv_io.proofs.loading.load.Goals as goal

pub returns-in_ok-read-in-Ok-clause-table : goal.returns-in_ok-read-in-Ok-clause-table
returns-in_ok-read-in-Ok-clause-table c =
    load-table (loaded c.args.bytes.now) _ _ c.join.result c.in_ok-read-in-Ok.ensures.text (ap loaded (sym c.in-Ok.ensures.cases.0) ∙ c.in_ok-read-in-Ok.ensures.loads) c.join.ensures.table

pub returns-in_ok-read-in-Ok-clause-fault : goal.returns-in_ok-read-in-Ok-clause-fault
returns-in_ok-read-in-Ok-clause-fault c =
    load-fault (loaded c.args.bytes.now) _ _ c.join.result c.in_ok-read-in-Ok.ensures.text (ap loaded (sym c.in-Ok.ensures.cases.0) ∙ c.in_ok-read-in-Ok.ensures.loads) c.join.ensures.fault

pub returns-in_err-read-in-Ok-clause-fault : goal.returns-in_err-read-in-Ok-clause-fault
returns-in_err-read-in-Ok-clause-fault c =
    let p = err_from_is_err_and c.from_residual.result c.from_residual.ensures.1 in
    rw (p.1, p.2) (rw c.in-Ok.ensures.cases.0 at c.in_err-read-in-Ok.ensures.fault)

pub returns-in-Err : goal.returns-in-Err
returns-in-Err c =
    rw (loaded-other c.args.bytes.now c.in-Err.ensures.cases.0, c.refused.ensures, c.valid_up_to.ensures, c.in-Err.ensures.valid_len) record { table = tt; fault = refl }

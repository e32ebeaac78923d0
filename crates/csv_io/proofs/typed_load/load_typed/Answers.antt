use Rattle.std.proofs.Common.{◌∙◌, ap, refl, sym}
use Rattle.std.proofs.lemmas.Result.{err_from_is_err_and}
use Rattle.csv_io.specs.TypedLoad.{loaded_typed}
use Rattle.csv_io.proofs.PartFacts.{load-columns, load-fault, load-table}
use Rattle.csv_io.proofs.TypedLoadFacts.{typed-other}
use Rattle.csv_io.proofs.typed_load.load_typed.Goals as goal

pub returns-in_ok-read_typed-in-Ok-clause-table : goal.returns-in_ok-read_typed-in-Ok-clause-table
returns-in_ok-read_typed-in-Ok-clause-table c =
    let same = ap (loaded_typed c.args.schema.now) (sym c.in-Ok.ensures.cases.0) in
    load-table (loaded_typed c.args.schema.now c.args.bytes.now) _ _ c.join.result c.in_ok-read_typed-in-Ok.ensures.text (same ∙ c.in_ok-read_typed-in-Ok.ensures.loads) c.join.ensures.table

pub returns-in_ok-read_typed-in-Ok-clause-fault : goal.returns-in_ok-read_typed-in-Ok-clause-fault
returns-in_ok-read_typed-in-Ok-clause-fault c =
    let same = ap (loaded_typed c.args.schema.now) (sym c.in-Ok.ensures.cases.0) in
    load-fault (loaded_typed c.args.schema.now c.args.bytes.now) _ _ c.join.result c.in_ok-read_typed-in-Ok.ensures.text (same ∙ c.in_ok-read_typed-in-Ok.ensures.loads) c.join.ensures.fault

pub returns-in_ok-read_typed-in-Ok-clause-columns : goal.returns-in_ok-read_typed-in-Ok-clause-columns
returns-in_ok-read_typed-in-Ok-clause-columns c = load-columns c.args.schema.now c.in_ok-read_typed-in-Ok.field-0 c.join.result c.in_ok-read_typed-in-Ok.ensures.columns c.join.ensures.columns

pub returns-in_err-read_typed-in-Ok-clause-fault : goal.returns-in_err-read_typed-in-Ok-clause-fault
returns-in_err-read_typed-in-Ok-clause-fault c =
    let p = err_from_is_err_and c.from_residual.result c.from_residual.ensures.1 in
    rw (p.1, p.2) (rw c.in-Ok.ensures.cases.0 at c.in_err-read_typed-in-Ok.ensures.fault)

pub returns-in-Err : goal.returns-in-Err
returns-in-Err c =
    rw (typed-other c.args.schema.now c.args.bytes.now c.in-Err.ensures.cases.0, c.refused.ensures, c.valid_up_to.ensures, c.in-Err.ensures.valid_len) record { table = tt; columns = tt; fault = refl }

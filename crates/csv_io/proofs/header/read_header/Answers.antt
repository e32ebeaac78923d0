use Rattle.std.proofs.Common.{◌<◌, length, arith}
use Rattle.std.proofs.lemmas.Grind.{common_steps}
use Rattle.std.proofs.lemmas.Result.{err_from_is_err_and}
use Rattle.csv_io.proofs.HeaderFacts.{header-fault}
use Rattle.csv_io.proofs.header.read_header.Goals as goal

pub returns-in_err-push_column : goal.returns-in_err-push_column
returns-in_err-push_column c =
    let p = err_from_is_err_and c.from_residual.result c.from_residual.ensures.1 in
    let fields = c.args.line.now in
    let within : c.loop-j.j < length fields = grind (arith, common_steps) in
    let first = rw c.field.ensures at c.in_err-push_column.ensures.read in
    rw (p.1, p.2) (header-fault c.loop-j.schema fields c.loop-j.j _ _ within c.loop-j.invariant.1 first)

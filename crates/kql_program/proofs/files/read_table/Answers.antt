use Rattle.std.proofs.Common.{Err, ◌≤◌, ◌<◌, ◌-◌, ap, arith, length}
use Rattle.kql_program.specs.Files.{loaded_as}
use Rattle.csv_io.specs.Load.{loaded}
use Rattle.kql_program.proofs.AnswerFacts.{gives-along}
use Rattle.kql_program.proofs.FileFacts.{table-ok, table-raised, too-long}
use Rattle.kql_program.proofs.CallFacts.{given-raised, raised-stops}
use Rattle.kql_program.proofs.files.read_table.Goals as goal

pub returns-then-len-room-clause-table : goal.returns-then-len-room-clause-table
returns-then-len-room-clause-table g c =
    let over : c.args.room < length c.in_ok-bytes.bytes = omega (arith, c.len.ensures.count) in
    too-long _ c.args.number c.args.room c.args.path.now c.in_ok-bytes.bytes c.in_ok-bytes.ensures.front over

pub returns-in_err-table-clause-table : goal.returns-in_err-table-clause-table
returns-in_err-table-clause-table g c =
    let within : length c.in_ok-bytes.bytes ≤ c.args.room = omega (arith, c.len.ensures.count) in
    table-raised _ c.args.number c.args.room c.args.path.now c.in_ok-bytes.bytes _ _ c.in_ok-bytes.ensures.front within (gives-along _ _ (Err c.in_err-table.field-0.0) (ap (λ bytes. loaded_as c.args.number (loaded bytes)) c.as_slice.ensures.items) c.in_err-table.ensures.table) c.from_residual-in_err-table.ensures.1

pub returns-clause-table : goal.returns-clause-table
returns-clause-table g c =
    let within : length c.in_ok-bytes.bytes ≤ c.args.room = omega (arith, c.len.ensures.count) in
    table-ok _ c.args.number c.args.room _ c.args.path.now c.in_ok-bytes.bytes _ c.in_ok-bytes.ensures.front within (rw c.as_slice.ensures.items at c.in_ok-table.ensures.table) (ap (λ n. c.args.room - n) c.len-2.ensures.count)

pub returns-in_err-bytes-clause-stops : goal.returns-in_err-bytes-clause-stops
returns-in_err-bytes-clause-stops g c = raised-stops _ _ _ _ c.from_residual.ensures.1 c.in_err-bytes.ensures.stops

pub returns-in_err-table-clause-stops : goal.returns-in_err-table-clause-stops
returns-in_err-table-clause-stops g c = given-raised _ _ _ _ _ c.in_err-table.ensures.table c.from_residual-in_err-table.ensures.1 c.in_ok-bytes.ensures.stops

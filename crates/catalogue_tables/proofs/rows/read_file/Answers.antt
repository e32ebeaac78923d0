use Rattle.std.proofs.Common.{◌-◌, ap}
use Rattle.catalogue_tables.proofs.CallFacts.{given-raised, raised-stops}
use Rattle.catalogue_tables.proofs.RowFacts.{rows-bad, rows-there, rows-unread}
use Rattle.catalogue_tables.proofs.rows.read_file.Goals as goal

pub returns-in_err-bytes-clause-rows : goal.returns-in_err-bytes-clause-rows
returns-in_err-bytes-clause-rows g c = rows-unread _ c.args.number c.args.room c.args.schema.now c.args.path.now _ _ c.in_err-bytes.ensures.bytes c.from_residual.ensures.1

pub returns-in_err-table-clause-rows : goal.returns-in_err-table-clause-rows
returns-in_err-table-clause-rows g c = rows-bad _ c.args.number c.args.room c.args.schema.now c.args.path.now c.in_ok-bytes.bytes _ _ _ c.in_ok-bytes.ensures.bytes c.as_slice.ensures.items c.in_err-table.ensures.table c.from_residual-in_err-table.ensures.1

pub returns-clause-rows : goal.returns-clause-rows
returns-clause-rows g c = rows-there _ c.args.number c.args.room _ c.args.schema.now c.args.path.now c.in_ok-bytes.bytes _ _ c.in_ok-bytes.ensures.bytes c.as_slice.ensures.items c.in_ok-table.ensures.table (ap (λ n. c.args.room - n) c.len.ensures.count)

pub returns-in_err-bytes-clause-stops : goal.returns-in_err-bytes-clause-stops
returns-in_err-bytes-clause-stops g c = raised-stops _ _ _ _ c.from_residual.ensures.1 c.in_err-bytes.ensures.stops

pub returns-in_err-table-clause-stops : goal.returns-in_err-table-clause-stops
returns-in_err-table-clause-stops g c = given-raised _ _ _ _ _ c.in_err-table.ensures.table c.from_residual-in_err-table.ensures.1 c.in_ok-bytes.ensures.stops

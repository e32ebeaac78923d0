use Rattle.catalogue_tables.proofs.CallFacts.{given-stops, no-fault, raised-stops}
use Rattle.catalogue_tables.proofs.EntryFacts.{entries-there, entries-unread}
use Rattle.catalogue_tables.proofs.entries.read_entries.Goals as goal

pub returns-in_err-bytes-clause-entries : goal.returns-in_err-bytes-clause-entries
returns-in_err-bytes-clause-entries g c = entries-unread _ c.args.number c.args.path.now _ _ c.in_err-bytes.ensures.bytes c.from_residual.ensures.1

pub returns-clause-entries : goal.returns-clause-entries
returns-clause-entries g c = entries-there _ c.args.number c.args.path.now c.in_ok-bytes.bytes _ _ c.in_ok-bytes.ensures.bytes c.as_slice.ensures.items c.entries_in.ensures.entries

pub returns-in_err-bytes-clause-stops : goal.returns-in_err-bytes-clause-stops
returns-in_err-bytes-clause-stops g c = raised-stops _ _ _ _ c.from_residual.ensures.1 c.in_err-bytes.ensures.stops

pub returns-clause-stops : goal.returns-clause-stops
returns-clause-stops g c = given-stops _ _ _ _ c.entries_in.ensures.entries c.in_ok-bytes.ensures.stops

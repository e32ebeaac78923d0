-- What of a live table may cross threads.
use denote.Param.Send.{IsSend, IsSync, sendable}
use Rattle.std.proofs.Crossing
use Rattle.crossing_laws.proofs.TableLaws.{table_send, table_sync}
use Rattle.live_tables.specs.contracts.live_table.LiveTable as LiveTable

pub live_table_send : IsSend LiveTable.the_row
live_table_send = search (table_send, Crossing.crosses, sendable) depth 60 fits 20000

pub live_table_sync : IsSync LiveTable.the_row
live_table_sync = search (table_sync, Crossing.crosses, sendable) depth 60 fits 20000

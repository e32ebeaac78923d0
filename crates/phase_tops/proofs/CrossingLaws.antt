-- The columns of keys may be shared by threads.
use denote.Param.Send.{IsSync, sendable}
use Rattle.std.proofs.Crossing
use Rattle.crossing_laws.proofs.TableLaws.{vector_field_sync, vector_sync}
use Rattle.order_ops.specs.contracts.keys.KeyColumn as KeyColumn

pub column_sync : IsSync KeyColumn.the_row
column_sync = search (vector_sync, vector_field_sync, Crossing.crosses, sendable) depth 60 fits 20000

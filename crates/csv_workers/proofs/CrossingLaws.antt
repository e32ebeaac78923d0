-- What of pieces may cross threads.
use denote.Param.Send.{IsSend, sendable}
use denote.Ref.{NamedLft}
use Rattle.std.proofs.Crossing
use Rattle.kql_items.proofs.items.Items.TheSendSync as items
use Rattle.csv_io.specs.contracts.piece.Piece as Piece
use Rattle.csv_io.specs.contracts.printed.Printed as Printed
use Rattle.csv_io.specs.contracts.stack.Parts as Parts
use Rattle.csv_workers.specs.contracts.joining.Slot as Slot
use Rattle.crossing_laws.proofs.TableLaws.{table_send, table_sync, vector_send}

pub piece_send : (κ : NamedLft) → IsSend (Piece.the_row κ)
piece_send κ = search (table_send, Crossing.crosses, sendable) depth 60 fits 20000

pub printed_send : (κ : NamedLft) → IsSend (Printed.the_row κ)
printed_send κ = search (table_sync, Crossing.crosses, sendable) depth 60 fits 20000

pub parts_send : IsSend Parts.the_row
parts_send = search (items.the_send, vector_send, Crossing.crosses, sendable) depth 60 fits 20000

pub slot_send : IsSend Slot.the_row
slot_send = search (parts_send, Crossing.crosses, sendable) depth 60 fits 20000

-- What of pieces and groups may cross threads. Each type has its lemma as a row and as a field of another.
use denote.Param.Send.{IsSend, IsSync, sendable}
use denote.Ref.{NamedLft}
use Rattle.std.proofs.Crossing
use Rattle.indexmap.proofs.set.IndexSet.TheSendSync as set
use Rattle.kql_items.proofs.items.Items.TheSendSync as items
use Rattle.kql_cells.proofs.value.Kind.TheSendSync as kind
use Rattle.agg_folds.proofs.call.FoldCall.TheSendSync as call
use Rattle.crossing_laws.proofs.TableLaws.{dyn_sync, vector_send, vector_sync}
use Rattle.kql_cells.specs.contracts.cell.CellRef as CellRef
use Rattle.kql_cells.specs.contracts.value.Kind as Kind
use Rattle.kql_functions.specs.contracts.aggregate.Aggregate as Aggregate
use Rattle.kql_values.specs.contracts.rows.Rows as Rows
use Rattle.agg_folds.specs.contracts.best.Best as Best
use Rattle.agg_folds.specs.contracts.best.Prefer as Prefer
use Rattle.agg_folds.specs.contracts.bits.Bits as Bits
use Rattle.agg_folds.specs.contracts.call.FoldCall as FoldCall
use Rattle.agg_folds.specs.contracts.fold.Fold as Fold
use Rattle.agg_folds.specs.contracts.held.Held as Held
use Rattle.agg_folds.specs.contracts.held.HeldSet as HeldSet
use Rattle.agg_folds.specs.contracts.lists.Listed as Listed
use Rattle.agg_folds.specs.contracts.lists.Members as Members
use Rattle.agg_folds.specs.contracts.state.State as State
use Rattle.summarize_pieces.specs.contracts.groups.Groups as Groups
use Rattle.summarize_pieces.specs.contracts.kept.GroupFold as GroupFold
use Rattle.summarize_pieces.specs.contracts.piece.CallRows as CallRows
use Rattle.summarize_pieces.specs.contracts.piece.PieceRows as PieceRows

-- What is read of a piece.

pub call_field_send : IsSend (FoldCall.the_field).row
call_field_send = search (Crossing.crosses, sendable) depth 60 fits 20000

pub rows_send : IsSend Rows.the_row
rows_send = search (vector_send, Crossing.crosses, sendable) depth 60 fits 20000

pub call_rows_send : IsSend CallRows.the_row
call_rows_send = search (call_field_send, vector_send, Crossing.crosses, sendable) depth 60 fits 20000

pub piece_send : IsSend PieceRows.the_row
piece_send = search (rows_send, call_rows_send, Crossing.crosses, sendable) depth 60 fits 20000

pub call_field_sync : IsSync (FoldCall.the_field).row
call_field_sync = search (Crossing.crosses, sendable) depth 60 fits 20000

pub rows_sync : IsSync Rows.the_row
rows_sync = search (vector_sync, Crossing.crosses, sendable) depth 60 fits 20000

pub call_rows_sync : IsSync CallRows.the_row
call_rows_sync = search (call_field_sync, vector_sync, Crossing.crosses, sendable) depth 60 fits 20000

pub piece_sync : IsSync PieceRows.the_row
piece_sync = search (rows_sync, call_rows_sync, Crossing.crosses, sendable) depth 60 fits 20000

-- Groups, with what each keeps.

pub kind_field_send : IsSend (Kind.the_field).row
kind_field_send = search (Crossing.crosses, sendable) depth 60 fits 20000

pub aggregate_field_send : IsSend (Aggregate.the_field).row
aggregate_field_send = search (Crossing.crosses, sendable) depth 60 fits 20000

pub prefer_field_send : IsSend (Prefer.the_field).row
prefer_field_send = search (Crossing.crosses, sendable) depth 60 fits 20000

pub bits_field_send : IsSend (Bits.the_field).row
bits_field_send = search (Crossing.crosses, sendable) depth 60 fits 20000

pub cell_send : (l : NamedLft) → IsSend (CellRef.the_row l)
cell_send l = search (dyn_sync, Crossing.crosses, sendable) depth 60 fits 20000

pub cell_field_send : (l : NamedLft) → IsSend (CellRef.the_field l).row
cell_field_send l = search (dyn_sync, Crossing.crosses, sendable) depth 60 fits 20000

pub held_send : (l : NamedLft) → IsSend (Held.the_row l)
held_send l = search (cell_field_send, Crossing.crosses, sendable) depth 60 fits 20000

pub held_set_send : (l : NamedLft) → IsSend (HeldSet.the_row l)
held_set_send l = search (set.the_send, held_send, Crossing.crosses, sendable) depth 60 fits 20000

pub held_set_field_send : (l : NamedLft) → IsSend (HeldSet.the_field l).row
held_set_field_send l = search (held_set_send, Crossing.crosses, sendable) depth 60 fits 20000

pub listed_send : (l : NamedLft) → IsSend (Listed.the_row l)
listed_send l = search (items.the_send, held_send, Crossing.crosses, sendable) depth 60 fits 20000

pub listed_field_send : (l : NamedLft) → IsSend (Listed.the_field l).row
listed_field_send l = search (items.the_send, held_send, Crossing.crosses, sendable) depth 60 fits 20000

pub members_send : (l : NamedLft) → IsSend (Members.the_row l)
members_send l = search (held_set_send, Crossing.crosses, sendable) depth 60 fits 20000

pub members_field_send : (l : NamedLft) → IsSend (Members.the_field l).row
members_field_send l = search (held_set_send, Crossing.crosses, sendable) depth 60 fits 20000

pub best_send : (l : NamedLft) → IsSend (Best.the_row l)
best_send l = search (prefer_field_send, held_send, Crossing.crosses, sendable) depth 60 fits 20000

pub best_field_send : (l : NamedLft) → IsSend (Best.the_field l).row
best_field_send l = search (prefer_field_send, held_send, Crossing.crosses, sendable) depth 60 fits 20000

pub state_send : (l : NamedLft) → IsSend (State.the_row l)
state_send l = search (kind.the_send, best_field_send, bits_field_send, listed_field_send, members_field_send, held_set_send, Crossing.crosses, sendable) depth 60 fits 20000

pub state_field_send : (l : NamedLft) → IsSend (State.the_field l).row
state_field_send l = search (kind.the_send, best_field_send, bits_field_send, listed_field_send, members_field_send, held_set_send, Crossing.crosses, sendable) depth 60 fits 20000

pub fold_send : (l : NamedLft) → IsSend (Fold.the_row l)
fold_send l = search (aggregate_field_send, state_field_send, Crossing.crosses, sendable) depth 60 fits 20000

pub group_fold_send : (l : NamedLft) → IsSend (GroupFold.the_row l)
group_fold_send l = search (fold_send, cell_send, Crossing.crosses, sendable) depth 60 fits 20000

pub groups_send : (l : NamedLft) → IsSend (Groups.the_row l)
groups_send l = search (rows_send, call.the_send, items.the_send, group_fold_send, Crossing.crosses, sendable) depth 60 fits 20000

-- A view may be sent to other threads, and be shared by them. Each type has its lemma as a row and as a field of another.
use denote.Param.Send.{IsSend, IsSync, sendable}
use Rattle.std.proofs.Crossing
use Rattle.kql_items.proofs.items.Items.TheSendSync as items
use Rattle.kql_items.proofs.boxed.Boxed.TheSendSync as boxed
use Rattle.kql_cells.proofs.text.KText.TheSendSync as text
use Rattle.kql_cells.proofs.value.Kind.TheSendSync as kind
use Rattle.kql_cells.proofs.schema.Schema.TheSendSync as schema
use Rattle.kql_bound.proofs.expr.ChainSign.TheSendSync as sign
use Rattle.kql_bound.proofs.expr.BExpr.TheLaws.TheKnot as expr_knot
use Rattle.agg_folds.proofs.call.FoldCall.TheSendSync as call
use Rattle.crossing_laws.proofs.TableLaws.{value_field_send, value_field_sync, value_send, value_sync, vector_send, vector_sync}
use Rattle.crossing_laws.proofs.PlanLaws.{group_field_sync}
use Rattle.kql_cells.specs.contracts.value.Kind as Kind
use Rattle.kql_functions.specs.contracts.aggregate.Aggregate as Aggregate
use Rattle.kql_functions.specs.contracts.func.Func as Func
use Rattle.kql_functions.specs.contracts.window.Window as Window
use Rattle.kql_values.specs.contracts.rows.Rows as Rows
use Rattle.kql_bound.specs.contracts.literal.Lit as Lit
use Rattle.kql_bound.specs.contracts.expr.StepColumn as StepColumn
use Rattle.kql_bound.specs.contracts.expr.ChainSign as ChainSign
use Rattle.kql_bound.specs.contracts.expr.BExpr as BExpr
use Rattle.kql_bound.specs.contracts.parts.BItem as BItem
use Rattle.kql_bound.specs.contracts.parts.GroupPlan as GroupPlan
use Rattle.agg_folds.specs.contracts.best.Prefer as Prefer
use Rattle.agg_folds.specs.contracts.bits.Bits as Bits
use Rattle.agg_folds.specs.contracts.own.Own as Own
use Rattle.agg_folds.specs.contracts.own.OwnSet as OwnSet
use Rattle.agg_folds.specs.contracts.kept.OwnState as OwnState
use Rattle.agg_folds.specs.contracts.kept.OwnFold as OwnFold
use Rattle.summarize_pieces.specs.contracts.own.OwnGroupFold as OwnGroupFold
use Rattle.summarize_pieces.specs.contracts.own.OwnGroups as OwnGroups
use Rattle.view_ops.specs.contracts.view.View as View

-- The plan.

kind_field_send : IsSend (Kind.the_field).row
kind_field_send = search (Crossing.crosses, sendable) depth 60 fits 20000

kind_field_sync : IsSync (Kind.the_field).row
kind_field_sync = search (Crossing.crosses, sendable) depth 60 fits 20000

aggregate_field_send : IsSend (Aggregate.the_field).row
aggregate_field_send = search (Crossing.crosses, sendable) depth 60 fits 20000

aggregate_field_sync : IsSync (Aggregate.the_field).row
aggregate_field_sync = search (Crossing.crosses, sendable) depth 60 fits 20000

func_field_send : IsSend (Func.the_field).row
func_field_send = search (Crossing.crosses, sendable) depth 60 fits 20000

window_field_send : IsSend (Window.the_field).row
window_field_send = search (Crossing.crosses, sendable) depth 60 fits 20000

sign_field_send : IsSend (ChainSign.the_field).row
sign_field_send = search (Crossing.crosses, sendable) depth 60 fits 20000

lit_send : IsSend Lit.the_row
lit_send = search (value_field_send, kind_field_send, Crossing.crosses, sendable) depth 60 fits 20000

lit_field_send : IsSend (Lit.the_field).row
lit_field_send = search (value_field_send, kind_field_send, Crossing.crosses, sendable) depth 60 fits 20000

step_send : IsSend StepColumn.the_row
step_send = search (text.the_send, lit_field_send, Crossing.crosses, sendable) depth 60 fits 20000

step_field_send : IsSend (StepColumn.the_field).row
step_field_send = search (text.the_send, lit_field_send, Crossing.crosses, sendable) depth 60 fits 20000

expr_send : IsSend BExpr.the_row
expr_send = search (items.the_send, boxed.the_send, text.the_send, sign.the_send, func_field_send, window_field_send, aggregate_field_send, lit_field_send, step_field_send, expr_knot.crosses, Crossing.crosses, sendable) depth 60 fits 20000

expr_field_send : IsSend (BExpr.the_field).row
expr_field_send = search (items.the_send, boxed.the_send, text.the_send, sign.the_send, func_field_send, window_field_send, aggregate_field_send, lit_field_send, step_field_send, expr_knot.crosses, Crossing.crosses, sendable) depth 60 fits 20000

item_send : IsSend BItem.the_row
item_send = search (items.the_send, text.the_send, expr_field_send, Crossing.crosses, sendable) depth 60 fits 20000

item_field_send : IsSend (BItem.the_field).row
item_field_send = search (items.the_send, text.the_send, expr_field_send, Crossing.crosses, sendable) depth 60 fits 20000

group_field_send : IsSend (GroupPlan.the_field).row
group_field_send = search (items.the_send, item_send, Crossing.crosses, sendable) depth 60 fits 20000

-- What is kept of the groups.

prefer_field_send : IsSend (Prefer.the_field).row
prefer_field_send = search (Crossing.crosses, sendable) depth 60 fits 20000

prefer_field_sync : IsSync (Prefer.the_field).row
prefer_field_sync = search (Crossing.crosses, sendable) depth 60 fits 20000

bits_field_send : IsSend (Bits.the_field).row
bits_field_send = search (Crossing.crosses, sendable) depth 60 fits 20000

bits_field_sync : IsSync (Bits.the_field).row
bits_field_sync = search (Crossing.crosses, sendable) depth 60 fits 20000

own_send : IsSend Own.the_row
own_send = search (value_field_send, Crossing.crosses, sendable) depth 60 fits 20000

own_sync : IsSync Own.the_row
own_sync = search (value_field_sync, Crossing.crosses, sendable) depth 60 fits 20000

own_field_send : IsSend (Own.the_field).row
own_field_send = search (value_field_send, Crossing.crosses, sendable) depth 60 fits 20000

own_field_sync : IsSync (Own.the_field).row
own_field_sync = search (value_field_sync, Crossing.crosses, sendable) depth 60 fits 20000

own_set_field_send : IsSend (OwnSet.the_field).row
own_set_field_send = search (items.the_send, own_send, Crossing.crosses, sendable) depth 60 fits 20000

own_set_field_sync : IsSync (OwnSet.the_field).row
own_set_field_sync = search (items.the_sync, own_sync, Crossing.crosses, sendable) depth 60 fits 20000

own_state_field_send : IsSend (OwnState.the_field).row
own_state_field_send = search (items.the_send, kind.the_send, prefer_field_send, bits_field_send, own_send, own_set_field_send, Crossing.crosses, sendable) depth 60 fits 20000

own_state_field_sync : IsSync (OwnState.the_field).row
own_state_field_sync = search (items.the_sync, kind.the_sync, prefer_field_sync, bits_field_sync, own_sync, own_set_field_sync, Crossing.crosses, sendable) depth 60 fits 20000

own_fold_field_send : IsSend (OwnFold.the_field).row
own_fold_field_send = search (aggregate_field_send, own_state_field_send, Crossing.crosses, sendable) depth 60 fits 20000

own_fold_field_sync : IsSync (OwnFold.the_field).row
own_fold_field_sync = search (aggregate_field_sync, own_state_field_sync, Crossing.crosses, sendable) depth 60 fits 20000

own_group_fold_send : IsSend OwnGroupFold.the_row
own_group_fold_send = search (items.the_send, value_send, own_fold_field_send, Crossing.crosses, sendable) depth 60 fits 20000

own_group_fold_sync : IsSync OwnGroupFold.the_row
own_group_fold_sync = search (items.the_sync, value_sync, own_fold_field_sync, Crossing.crosses, sendable) depth 60 fits 20000

rows_field_send : IsSend (Rows.the_field).row
rows_field_send = search (vector_send, Crossing.crosses, sendable) depth 60 fits 20000

rows_field_sync : IsSync (Rows.the_field).row
rows_field_sync = search (vector_sync, Crossing.crosses, sendable) depth 60 fits 20000

groups_field_send : IsSend (OwnGroups.the_field).row
groups_field_send = search (items.the_send, rows_field_send, call.the_send, own_group_fold_send, Crossing.crosses, sendable) depth 60 fits 20000

groups_field_sync : IsSync (OwnGroups.the_field).row
groups_field_sync = search (items.the_sync, rows_field_sync, call.the_sync, own_group_fold_sync, Crossing.crosses, sendable) depth 60 fits 20000

-- The view.

pub view_send : IsSend View.the_row
view_send = search (group_field_send, schema.the_send, groups_field_send, Crossing.crosses, sendable) depth 60 fits 20000

pub view_sync : IsSync View.the_row
view_sync = search (group_field_sync, schema.the_sync, groups_field_sync, Crossing.crosses, sendable) depth 60 fits 20000

-- What may be shared by threads.
use denote.Param.Send.{IsSync, sendable}
use Rattle.std.proofs.Crossing
use Rattle.kql_items.proofs.items.Items.TheSendSync as items
use Rattle.kql_items.proofs.boxed.Boxed.TheSendSync as boxed
use Rattle.kql_cells.proofs.text.KText.TheSendSync as text
use Rattle.kql_cells.proofs.value.Kind.TheSendSync as kind
use Rattle.kql_functions.proofs.aggregate.Aggregate.TheSendSync as aggregate
use Rattle.kql_functions.proofs.func.Func.TheSendSync as func
use Rattle.kql_functions.proofs.window.Window.TheSendSync as window
use Rattle.kql_bound.proofs.expr.ChainSign.TheSendSync as sign
use Rattle.kql_bound.proofs.parts.JoinPlan.TheSendSync as joining
use Rattle.kql_bound.proofs.parts.Output.TheSendSync as output
use Rattle.kql_bound.proofs.parts.PatItem.TheSendSync as pattern
use Rattle.kql_bound.proofs.expr.BExpr.TheLaws.TheKnot as expr_knot
use Rattle.kql_bound.proofs.plan.Op.TheLaws.TheKnot as op_knot
use Rattle.crossing_laws.proofs.TableLaws.{value_sync, value_field_sync}
use Rattle.kql_bound.specs.contracts.literal.Lit as Lit
use Rattle.kql_bound.specs.contracts.expr.StepColumn as StepColumn
use Rattle.kql_bound.specs.contracts.expr.BExpr as BExpr
use Rattle.kql_bound.specs.contracts.parts.BItem as BItem
use Rattle.kql_bound.specs.contracts.parts.BKey as BKey
use Rattle.kql_bound.specs.contracts.parts.ExpandItem as ExpandItem
use Rattle.kql_bound.specs.contracts.parts.Expand as Expand
use Rattle.kql_bound.specs.contracts.parts.ParsePlan as ParsePlan
use Rattle.kql_bound.specs.contracts.parts.GroupPlan as GroupPlan
use Rattle.kql_bound.specs.contracts.parts.SeriesItem as SeriesItem
use Rattle.kql_bound.specs.contracts.parts.SeriesPlan as SeriesPlan
use Rattle.kql_bound.specs.contracts.parts.ScanStep as ScanStep
use Rattle.kql_bound.specs.contracts.parts.Decl as Decl
use Rattle.kql_bound.specs.contracts.parts.ScanPlan as ScanPlan
use Rattle.kql_bound.specs.contracts.plan.Source as Source
use Rattle.kql_bound.specs.contracts.plan.Op as Op
use Rattle.kql_cells.specs.contracts.text.KText as KText
use Rattle.kql_cells.specs.contracts.value.Kind as Kind
use Rattle.kql_functions.specs.contracts.aggregate.Aggregate as Aggregate
use Rattle.kql_functions.specs.contracts.func.Func as Func
use Rattle.kql_functions.specs.contracts.window.Window as Window
use Rattle.kql_bound.specs.contracts.expr.ChainSign as ChainSign
use Rattle.kql_bound.specs.contracts.parts.JoinPlan as JoinPlan
use Rattle.kql_bound.specs.contracts.parts.Output as Output
use Rattle.kql_bound.specs.contracts.parts.PatItem as PatItem

pub text_field_sync : IsSync (KText.the_field).row
text_field_sync = search (text.the_sync, Crossing.crosses, sendable) depth 60 fits 20000

pub kind_field_sync : IsSync (Kind.the_field).row
kind_field_sync = search (kind.the_sync, Crossing.crosses, sendable) depth 60 fits 20000

pub aggregate_field_sync : IsSync (Aggregate.the_field).row
aggregate_field_sync = search (aggregate.the_sync, Crossing.crosses, sendable) depth 60 fits 20000

pub func_field_sync : IsSync (Func.the_field).row
func_field_sync = search (func.the_sync, Crossing.crosses, sendable) depth 60 fits 20000

pub window_field_sync : IsSync (Window.the_field).row
window_field_sync = search (window.the_sync, Crossing.crosses, sendable) depth 60 fits 20000

pub sign_field_sync : IsSync (ChainSign.the_field).row
sign_field_sync = search (sign.the_sync, Crossing.crosses, sendable) depth 60 fits 20000

pub joining_field_sync : IsSync (JoinPlan.the_field).row
joining_field_sync = search (joining.the_sync, Crossing.crosses, sendable) depth 60 fits 20000

pub output_field_sync : IsSync (Output.the_field).row
output_field_sync = search (output.the_sync, Crossing.crosses, sendable) depth 60 fits 20000

pub pattern_field_sync : IsSync (PatItem.the_field).row
pattern_field_sync = search (pattern.the_sync, Crossing.crosses, sendable) depth 60 fits 20000

pub lit_sync : IsSync Lit.the_row
lit_sync = search (value_sync, value_field_sync, kind.the_sync, kind_field_sync, Crossing.crosses, sendable) depth 60 fits 20000

pub lit_field_sync : IsSync (Lit.the_field).row
lit_field_sync = search (value_sync, value_field_sync, kind.the_sync, kind_field_sync, Crossing.crosses, sendable) depth 60 fits 20000

pub step_sync : IsSync StepColumn.the_row
step_sync = search (text.the_sync, text_field_sync, lit_sync, lit_field_sync, Crossing.crosses, sendable) depth 60 fits 20000

pub step_field_sync : IsSync (StepColumn.the_field).row
step_field_sync = search (text.the_sync, text_field_sync, lit_sync, lit_field_sync, Crossing.crosses, sendable) depth 60 fits 20000

pub expr_sync : IsSync BExpr.the_row
expr_sync = search (items.the_sync, boxed.the_sync, text.the_sync, text_field_sync, sign.the_sync, sign_field_sync, func.the_sync, func_field_sync, window.the_sync, window_field_sync, aggregate.the_sync, aggregate_field_sync, lit_sync, lit_field_sync, step_sync, step_field_sync, expr_knot.crosses, Crossing.crosses, sendable) depth 60 fits 20000

pub expr_field_sync : IsSync (BExpr.the_field).row
expr_field_sync = search (items.the_sync, boxed.the_sync, text.the_sync, text_field_sync, sign.the_sync, sign_field_sync, func.the_sync, func_field_sync, window.the_sync, window_field_sync, aggregate.the_sync, aggregate_field_sync, lit_sync, lit_field_sync, step_sync, step_field_sync, expr_knot.crosses, Crossing.crosses, sendable) depth 60 fits 20000

pub item_sync : IsSync BItem.the_row
item_sync = search (items.the_sync, boxed.the_sync, text.the_sync, text_field_sync, expr_sync, expr_field_sync, Crossing.crosses, sendable) depth 60 fits 20000

pub item_field_sync : IsSync (BItem.the_field).row
item_field_sync = search (items.the_sync, boxed.the_sync, text.the_sync, text_field_sync, expr_sync, expr_field_sync, Crossing.crosses, sendable) depth 60 fits 20000

pub key_sync : IsSync BKey.the_row
key_sync = search (items.the_sync, boxed.the_sync, text.the_sync, text_field_sync, expr_sync, expr_field_sync, Crossing.crosses, sendable) depth 60 fits 20000

pub key_field_sync : IsSync (BKey.the_field).row
key_field_sync = search (items.the_sync, boxed.the_sync, text.the_sync, text_field_sync, expr_sync, expr_field_sync, Crossing.crosses, sendable) depth 60 fits 20000

pub expand_item_sync : IsSync ExpandItem.the_row
expand_item_sync = search (items.the_sync, boxed.the_sync, text.the_sync, text_field_sync, kind.the_sync, kind_field_sync, expr_sync, expr_field_sync, Crossing.crosses, sendable) depth 60 fits 20000

pub expand_item_field_sync : IsSync (ExpandItem.the_field).row
expand_item_field_sync = search (items.the_sync, boxed.the_sync, text.the_sync, text_field_sync, kind.the_sync, kind_field_sync, expr_sync, expr_field_sync, Crossing.crosses, sendable) depth 60 fits 20000

pub expand_sync : IsSync Expand.the_row
expand_sync = search (items.the_sync, boxed.the_sync, text.the_sync, text_field_sync, expand_item_sync, expand_item_field_sync, Crossing.crosses, sendable) depth 60 fits 20000

pub expand_field_sync : IsSync (Expand.the_field).row
expand_field_sync = search (items.the_sync, boxed.the_sync, text.the_sync, text_field_sync, expand_item_sync, expand_item_field_sync, Crossing.crosses, sendable) depth 60 fits 20000

pub parse_sync : IsSync ParsePlan.the_row
parse_sync = search (items.the_sync, boxed.the_sync, text.the_sync, text_field_sync, pattern.the_sync, pattern_field_sync, expr_sync, expr_field_sync, Crossing.crosses, sendable) depth 60 fits 20000

pub parse_field_sync : IsSync (ParsePlan.the_field).row
parse_field_sync = search (items.the_sync, boxed.the_sync, text.the_sync, text_field_sync, pattern.the_sync, pattern_field_sync, expr_sync, expr_field_sync, Crossing.crosses, sendable) depth 60 fits 20000

pub group_sync : IsSync GroupPlan.the_row
group_sync = search (items.the_sync, boxed.the_sync, text.the_sync, text_field_sync, item_sync, item_field_sync, Crossing.crosses, sendable) depth 60 fits 20000

pub group_field_sync : IsSync (GroupPlan.the_field).row
group_field_sync = search (items.the_sync, boxed.the_sync, text.the_sync, text_field_sync, item_sync, item_field_sync, Crossing.crosses, sendable) depth 60 fits 20000

pub series_item_sync : IsSync SeriesItem.the_row
series_item_sync = search (items.the_sync, boxed.the_sync, text.the_sync, text_field_sync, expr_sync, expr_field_sync, lit_sync, lit_field_sync, Crossing.crosses, sendable) depth 60 fits 20000

pub series_item_field_sync : IsSync (SeriesItem.the_field).row
series_item_field_sync = search (items.the_sync, boxed.the_sync, text.the_sync, text_field_sync, expr_sync, expr_field_sync, lit_sync, lit_field_sync, Crossing.crosses, sendable) depth 60 fits 20000

pub series_sync : IsSync SeriesPlan.the_row
series_sync = search (items.the_sync, boxed.the_sync, text.the_sync, text_field_sync, series_item_sync, series_item_field_sync, item_sync, item_field_sync, lit_sync, lit_field_sync, Crossing.crosses, sendable) depth 60 fits 20000

pub series_field_sync : IsSync (SeriesPlan.the_field).row
series_field_sync = search (items.the_sync, boxed.the_sync, text.the_sync, text_field_sync, series_item_sync, series_item_field_sync, item_sync, item_field_sync, lit_sync, lit_field_sync, Crossing.crosses, sendable) depth 60 fits 20000

pub scan_step_sync : IsSync ScanStep.the_row
scan_step_sync = search (items.the_sync, boxed.the_sync, text.the_sync, text_field_sync, output.the_sync, output_field_sync, expr_sync, expr_field_sync, item_sync, item_field_sync, Crossing.crosses, sendable) depth 60 fits 20000

pub scan_step_field_sync : IsSync (ScanStep.the_field).row
scan_step_field_sync = search (items.the_sync, boxed.the_sync, text.the_sync, text_field_sync, output.the_sync, output_field_sync, expr_sync, expr_field_sync, item_sync, item_field_sync, Crossing.crosses, sendable) depth 60 fits 20000

pub decl_sync : IsSync Decl.the_row
decl_sync = search (items.the_sync, boxed.the_sync, text.the_sync, text_field_sync, lit_sync, lit_field_sync, Crossing.crosses, sendable) depth 60 fits 20000

pub decl_field_sync : IsSync (Decl.the_field).row
decl_field_sync = search (items.the_sync, boxed.the_sync, text.the_sync, text_field_sync, lit_sync, lit_field_sync, Crossing.crosses, sendable) depth 60 fits 20000

pub scan_sync : IsSync ScanPlan.the_row
scan_sync = search (items.the_sync, boxed.the_sync, text.the_sync, text_field_sync, scan_step_sync, scan_step_field_sync, decl_sync, decl_field_sync, Crossing.crosses, sendable) depth 60 fits 20000

pub scan_field_sync : IsSync (ScanPlan.the_field).row
scan_field_sync = search (items.the_sync, boxed.the_sync, text.the_sync, text_field_sync, scan_step_sync, scan_step_field_sync, decl_sync, decl_field_sync, Crossing.crosses, sendable) depth 60 fits 20000

pub source_sync : IsSync Source.the_row
source_sync = search (items.the_sync, boxed.the_sync, text.the_sync, text_field_sync, lit_sync, lit_field_sync, item_sync, item_field_sync, Crossing.crosses, sendable) depth 60 fits 20000

pub source_field_sync : IsSync (Source.the_field).row
source_field_sync = search (items.the_sync, boxed.the_sync, text.the_sync, text_field_sync, lit_sync, lit_field_sync, item_sync, item_field_sync, Crossing.crosses, sendable) depth 60 fits 20000

pub op_sync : IsSync Op.the_row
op_sync = search (items.the_sync, boxed.the_sync, text.the_sync, text_field_sync, expr_sync, expr_field_sync, item_sync, item_field_sync, key_sync, key_field_sync, group_sync, group_field_sync, series_sync, series_field_sync, expand_sync, expand_field_sync, parse_sync, parse_field_sync, joining.the_sync, joining_field_sync, scan_sync, scan_field_sync, source_sync, source_field_sync, op_knot.crosses, Crossing.crosses, sendable) depth 60 fits 20000

pub op_field_sync : IsSync (Op.the_field).row
op_field_sync = search (items.the_sync, boxed.the_sync, text.the_sync, text_field_sync, expr_sync, expr_field_sync, item_sync, item_field_sync, key_sync, key_field_sync, group_sync, group_field_sync, series_sync, series_field_sync, expand_sync, expand_field_sync, parse_sync, parse_field_sync, joining.the_sync, joining_field_sync, scan_sync, scan_field_sync, source_sync, source_field_sync, op_knot.crosses, Crossing.crosses, sendable) depth 60 fits 20000

pub ruleset sync_laws = (expr_sync, group_sync, op_sync)

-- A query over a live table may be shared by threads.
use denote.Param.Send.{IsSync, sendable}
use Rattle.std.proofs.Crossing
use Rattle.kql_items.proofs.items.Items.TheSendSync as items
use Rattle.kql_items.proofs.boxed.Boxed.TheSendSync as boxed
use Rattle.kql_cells.proofs.text.KText.TheSendSync as text
use Rattle.kql_cells.proofs.schemas.Schemas.TheSendSync as schemas
use Rattle.kql_bound.proofs.plan.Op.TheLaws.TheKnot as op_knot
use Rattle.crossing_laws.proofs.PlanLaws.{expand_field_sync, expr_field_sync, group_field_sync, item_sync, joining_field_sync, key_sync, parse_field_sync, scan_field_sync, series_field_sync, source_field_sync}
use Rattle.kql_bound.specs.contracts.plan.Plan as Plan
use Rattle.kql_bound.specs.contracts.plan.Program as Program
use Rattle.live_query.specs.contracts.query.LiveQuery as LiveQuery

plan_sync : IsSync Plan.the_row
plan_sync = search (items.the_sync, text.the_sync, expr_field_sync, item_sync, key_sync, group_field_sync, series_field_sync, expand_field_sync, parse_field_sync, joining_field_sync, scan_field_sync, source_field_sync, op_knot.crosses, Crossing.crosses, sendable) depth 60 fits 20000

plan_field_sync : IsSync (Plan.the_field).row
plan_field_sync = search (items.the_sync, text.the_sync, expr_field_sync, item_sync, key_sync, group_field_sync, series_field_sync, expand_field_sync, parse_field_sync, joining_field_sync, scan_field_sync, source_field_sync, op_knot.crosses, Crossing.crosses, sendable) depth 60 fits 20000

program_sync : IsSync Program.the_row
program_sync = search (items.the_sync, schemas.the_sync, plan_sync, plan_field_sync, Crossing.crosses, sendable) depth 60 fits 20000

pub live_query_sync : IsSync LiveQuery.the_row
live_query_sync = search (boxed.the_sync, text.the_sync, program_sync, Crossing.crosses, sendable) depth 60 fits 20000

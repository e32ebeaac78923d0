use denote.Param.Send.{sendable}
use Rattle.std.proofs.Crossing
use Rattle.std.proofs.Common.{◌∙◌, List, [], ap}
use Rattle.kql_cells.specs.declared.schema.Column.{Column}
use Rattle.kql_meaning.specs.Items.{items_columns}
use Rattle.kql_items.proofs.items.Items.TheSendSync as items
use Rattle.window_ops.proofs.carries.Carry.TheSendSync as carry
use Rattle.crossing_laws.proofs.PlanLaws.{item_sync}
use Rattle.crossing_laws.proofs.TableLaws.{table_send, table_sync}
use Rattle.phase_windows.proofs.FillSteps.{pieces-alike, whole-table}
use Rattle.phase_windows.proofs.fills.run_fills.Goals as goal

pub run_pieces-requires-send-T : goal.run_pieces-requires-send-T
run_pieces-requires-send-T g c κs within = search (table_send, Crossing.crosses, sendable) depth 60 fits 20000

pub run_pieces-requires-sync-W : goal.run_pieces-requires-sync-W
run_pieces-requires-sync-W g c κs within = search (table_sync, item_sync, items.the_sync, carry.the_sync, Crossing.crosses, sendable) depth 60 fits 20000

pub put_together-requires : goal.put_together-requires
put_together-requires g c =
    let items = c.args.items.now in
    let t = c.args.table.now in
    let named = c.in_ok-columns.ensures.columns ∙ ap (items_columns items) (c.columns.ensures.columns ∙ c.schema.ensures.columns) in
    let none = c.in_ok-first.ensures.parts ∙ ap (λ (cs : List Column). record { columns = cs; lines = [] }) c.from_items.ensures.columns in
    record { kinds = pieces-alike items t c.in_ok-first.first c.in_ok-columns.columns c.args.cut.rows c.args.cut.pieces c.in_ok-results.field-0.results named none c.in_ok-results.ensures.results }

pub returns-clause-table : goal.returns-clause-table
returns-clause-table g c =
    let items = c.args.items.now in
    let t = c.args.table.now in
    let named = c.in_ok-columns.ensures.columns ∙ ap (items_columns items) (c.columns.ensures.columns ∙ c.schema.ensures.columns) in
    let none = c.in_ok-first.ensures.parts ∙ ap (λ (cs : List Column). record { columns = cs; lines = [] }) c.from_items.ensures.columns in
    whole-table items t c.in_ok-first.first c.in_ok-made.made c.in_ok-columns.columns c.args.cut.rows c.args.cut.pieces c.in_ok-results.field-0.results named none c.in_ok-results.ensures.results c.requires.all c.in_ok-made.ensures.table

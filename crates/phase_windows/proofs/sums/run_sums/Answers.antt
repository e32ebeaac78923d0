use denote.Param.Send.{sendable}
use Rattle.std.proofs.Crossing
use Rattle.std.proofs.Common.{◌≡◌, ◌≢◌, ◌∙◌, ◌++◌, ◌∷◌, List, [], ap, false, subst, sym, true}
use Rattle.kql_items.proofs.items.Items.TheSendSync as items
use Rattle.window_ops.proofs.carries.Carry.TheSendSync as carry
use Rattle.crossing_laws.proofs.PlanLaws.{item_sync}
use Rattle.crossing_laws.proofs.TableLaws.{table_sync}
use Rattle.phase_windows.specs.Rounds.{AreRoundsBefore}
use Rattle.phase_windows.proofs.ItemSteps.{no-pieces, one-has}
use Rattle.phase_windows.proofs.SumSteps.{no-rounds, one-round, sums-are}
use Rattle.worker_board.specs.Views.{WholeClaims}
use Rattle.phase_windows.proofs.sums.run_sums.Goals as goal

pub run_pieces-requires-send-T : goal.run_pieces-requires-send-T
run_pieces-requires-send-T g c κs within = search (items.the_send, carry.the_send, Crossing.crosses, sendable) depth 60 fits 20000

pub run_pieces-requires-sync-W : goal.run_pieces-requires-sync-W
run_pieces-requires-sync-W g c κs within = search (table_sync, item_sync, Crossing.crosses, sendable) depth 60 fits 20000

pub returns-then-is_empty-clause-rounds : goal.returns-then-is_empty-clause-rounds
returns-then-is_empty-clause-rounds g c =
    subst (AreRoundsBefore c.args.workers c.args.items.now) (sym c.new-gathered.ensures.empty)
    (no-rounds c.args.workers c.args.items.now c.args.table.now c.in_ok-first.first c.in_ok-first.ensures.carries (c.is_empty.ensures.empty.0 c.if-is_empty.true))

pub sums_before-requires-clause-sums : goal.sums_before-requires-clause-sums
sums_before-requires-clause-sums g c =
    c.as_slice.ensures.items ∙ sums-are c.args.items.now c.args.table.now c.args.cut.rows c.args.cut.pieces c.in_ok-results.field-0.results c.in_ok-results.ensures.results

pub returns-clause-rounds : goal.returns-clause-rounds
returns-clause-rounds g c =
    let some : c.in_ok-first.first ≢ [] = λ none. (let no : false ≡ true = sym c.if-is_empty.false ∙ c.is_empty.ensures.empty.1 none in absurd cc) in
    one-round c.args.workers c.args.items.now c.args.table.now c.in_ok-first.first c.in_ok-results.field-0.gathered c.push.new.self c.in_ok-first.ensures.carries some
    (c.in_ok-push.ensures.added ∙ ap (λ (gs : List WholeClaims). gs ++ c.in_ok-results.field-0.gathered ∷ []) c.new-gathered.ensures.empty)
    (record { workers = c.in_ok-results.ensures.size.1; claims = c.in_ok-results.ensures.claims })

pub returns-then-is_empty-clause-pieces : goal.returns-then-is_empty-clause-pieces
returns-then-is_empty-clause-pieces g c = no-pieces _ _ c.new-gathered.ensures.empty

pub returns-clause-pieces : goal.returns-clause-pieces
returns-clause-pieces g c = one-has _ _ _ _ (no-pieces _ _ c.new-gathered.ensures.empty) c.in_ok-push.ensures.added c.in_ok-results.ensures.size.0

use denote.Param.Send.{sendable}
use Rattle.std.proofs.Common.{subst}
use Rattle.std.proofs.Crossing
use Rattle.live_query.specs.Keeping.{Keeps}
use Rattle.live_query.proofs.CrossingLaws.{live_query_sync}
use Rattle.live_query.proofs.KeptFacts.{all-follow, all-own}
use Rattle.live_query.proofs.ViewCrossing.{view_send, view_sync}
use Rattle.live_query.proofs.view.run_kept.Goals as goal

pub run_value-requires-send-V : goal.run_value-requires-send-V
run_value-requires-send-V g c κs within = search (view_send, Crossing.crosses, sendable) depth 60 fits 20000

pub run_value-requires-sync-V : goal.run_value-requires-sync-V
run_value-requires-sync-V g c κs within = search (view_sync, Crossing.crosses, sendable) depth 60 fits 20000

pub run_value-requires-sync-Q : goal.run_value-requires-sync-Q
run_value-requires-sync-Q g c κs within = search (live_query_sync, Crossing.crosses, sendable) depth 60 fits 20000

pub run_value-requires-clause-takes : goal.run_value-requires-clause-takes
run_value-requires-clause-takes g c κs within =
    all-own c.in_ok-view.view.columns c.args.opening c.args.batches.now c.in_ok-view.ensures.keeps.columns c.requires.columns c.know_batches.ensures.tables

pub run_value-requires-clause-stands : goal.run_value-requires-clause-stands
run_value-requires-clause-stands g c κs within = subst (λ t. Keeps c.args.query.now t c.in_ok-view.view) c.requires.script.0 c.in_ok-view.ensures.keeps

pub run_value-requires-clause-follows : goal.run_value-requires-clause-follows
run_value-requires-clause-follows g c κs within = all-follow _ _ _ _ c.requires.script.0 c.requires.script.1 c.requires.columns c.know_batches.ensures.tables

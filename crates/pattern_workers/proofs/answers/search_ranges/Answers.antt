use denote.Exit.{no}
use denote.Param.Send.{arg_sync, param_sync, sendable}
use Rattle.std.proofs.Crossing
use Rattle.crossing_laws.proofs.TableLaws.{vector_send}
use Rattle.pattern_workers.proofs.CrossingLaws.{searching_sync}
use Rattle.pattern_workers.proofs.RangeFacts.{parts-ranged}
use Rattle.pattern_workers.proofs.answers.search_ranges.Goals as goal

pub run_pieces-requires-send-T : goal.run_pieces-requires-send-T
run_pieces-requires-send-T g c κs within = search (vector_send, Crossing.crosses, sendable) depth 60 fits 20000

pub run_pieces-requires-sync-W : goal.run_pieces-requires-sync-W
run_pieces-requires-sync-W g c κs within = param_sync _ _ (arg_sync _ no _ (searching_sync _ _ c.type_bounds.sync-P))

pub returns : goal.returns
returns g c = record { parts = parts-ranged _ _ _ _ _ _ c.in_ok-parts.ensures.results }

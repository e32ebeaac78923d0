use denote.Param.Send.{sendable}
use Rattle.std.proofs.Crossing
use Rattle.pattern_search.proofs.CrossingLaws.{regex_pattern_sync}
use Rattle.pattern_ops_tests.proofs.columns.is_same_by_ranges.Goals as goal

pub answers_by_ranges-requires-sync-P : goal.answers_by_ranges-requires-sync-P
answers_by_ranges-requires-sync-P g c κs within = search (regex_pattern_sync, Crossing.crosses, sendable) depth 60 fits 20000

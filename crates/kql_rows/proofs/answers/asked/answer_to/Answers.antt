use denote.Param.Send.{sendable}
use Rattle.std.proofs.Crossing
use Rattle.pattern_search.proofs.CrossingLaws.{regex_pattern_sync}
use Rattle.kql_rows.proofs.answers.asked.answer_to.Goals as goal

pub kql_in_pieces-ended-requires-sync-P-Made : goal.kql_in_pieces-ended-requires-sync-P-Made
kql_in_pieces-ended-requires-sync-P-Made g c κs within = search (regex_pattern_sync, Crossing.crosses, sendable) depth 60 fits 20000

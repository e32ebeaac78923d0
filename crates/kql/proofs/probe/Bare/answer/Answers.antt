use denote.Param.Send.{sendable}
use Rattle.std.proofs.Crossing
use Rattle.pattern_search.proofs.CrossingLaws.{regex_pattern_sync}
use Rattle.kql.proofs.probe.Bare.answer.Goals as goal

pub kql-ended-requires-sync-P-Made : goal.kql-ended-requires-sync-P-Made
kql-ended-requires-sync-P-Made g c κs within = search (regex_pattern_sync, Crossing.crosses, sendable) depth 60 fits 20000

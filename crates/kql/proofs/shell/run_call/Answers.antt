use denote.Param.Send.{sendable}
use Rattle.std.proofs.Crossing
use Rattle.pattern_search.proofs.CrossingLaws.{regex_pattern_sync}
use Rattle.kql.proofs.shell.run_call.Goals as goal

pub kql-requires-sync-P-Made : goal.kql-requires-sync-P-Made
kql-requires-sync-P-Made g c κs within = search (regex_pattern_sync, Crossing.crosses, sendable) depth 60 fits 20000

use Rattle.std.proofs.Common.{refl}
use Rattle.kql_syntax.proofs.ReadingLaws.{none_starts}
use Rattle.kql_syntax.proofs.reader.expect.Goals as goal

pub returns-in-None-clause-read : goal.returns-in-None-clause-read
returns-in-None-clause-read c = record { place = none_starts c.in-None.ensures.none refl }

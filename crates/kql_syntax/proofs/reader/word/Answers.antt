use Rattle.std.proofs.Common.{refl}
use Rattle.kql_syntax.proofs.ReadingLaws.{makes_found, none_starts}
use Rattle.kql_syntax.proofs.reader.word.Goals as goal

pub returns-in_ok-word_of-in-Some-clause-read : goal.returns-in_ok-word_of-in-Some-clause-read
returns-in_ok-word_of-in-Some-clause-read c = rw c.in_ok-word_of-in-Some.ensures.word (makes_found c.in-Some.ensures.some)

pub returns-in-None-clause-read : goal.returns-in-None-clause-read
returns-in-None-clause-read c = record { place = none_starts c.in-None.ensures.none refl }

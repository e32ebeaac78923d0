use Rattle.std.proofs.Common.{refl}
use Rattle.kql_syntax.proofs.ReadingLaws.{makes_found, none_starts}
use Rattle.kql_operators.proofs.leaf.output_word.Goals as goal

pub returns-in-Some-clause-read : goal.returns-in-Some-clause-read
returns-in-Some-clause-read c = rw c.output_of.ensures (makes_found c.in-Some.ensures.some)

pub returns-in-None-clause-read : goal.returns-in-None-clause-read
returns-in-None-clause-read c = record { place = none_starts c.in-None.ensures.none refl }

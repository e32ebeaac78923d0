use Rattle.std.proofs.Common.{refl}
use Rattle.kql_syntax.proofs.ReadingLaws.{option_none, option_some}
use Rattle.kql_parser.proofs.lets.semicolon.Goals as goal

pub returns-in-Some-clause-read : goal.returns-in-Some-clause-read
returns-in-Some-clause-read c = option_some c.in-Some.ensures.some refl

pub returns-clause-read : goal.returns-clause-read
returns-clause-read c = option_none c.in_default.ensures.none refl

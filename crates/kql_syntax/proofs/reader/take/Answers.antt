use Rattle.kql_syntax.proofs.ReadingLaws.{makes_found}
use Rattle.kql_syntax.proofs.reader.take.Goals as goal

pub returns-clause-some : goal.returns-clause-some
returns-clause-some c = makes_found c.in_ok-token.ensures.some

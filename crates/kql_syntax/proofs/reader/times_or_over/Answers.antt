use Rattle.kql_syntax.proofs.ReadingLaws.{makes_found}
use Rattle.kql_syntax.proofs.reader.times_or_over.Goals as goal

pub returns-clause-some : goal.returns-clause-some
returns-clause-some c = rw c.prod_sign.ensures.sign (makes_found c.in_ok-token.ensures.some)

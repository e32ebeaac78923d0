use Rattle.std.proofs.Common.{refl}
use Rattle.kql_syntax.proofs.ReadingLaws.{makes_found, option_none, option_some}
use Rattle.kql_operators.proofs.leaf.sort_order.Goals as goal

pub returns-in-Some-clause-read : goal.returns-in-Some-clause-read
returns-in-Some-clause-read c = rw c.sort_order_of.ensures (option_some (makes_found c.in-Some.ensures.some) refl)

pub returns-in-None-clause-read : goal.returns-in-None-clause-read
returns-in-None-clause-read c = option_none c.in-None.ensures.none refl

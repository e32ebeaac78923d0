use Rattle.kql_scalar.proofs.ChainSteps.{constants}
use Rattle.kql_scalar.proofs.chains.term_of.Goals as goal

pub returns-in-Literal : goal.returns-in-Literal
returns-in-Literal c = record { term = constants c.args.t.now c.args.node.now c.in-Literal.lit c.constant_term.result c.in-Literal.is c.constant_term.ensures.value }

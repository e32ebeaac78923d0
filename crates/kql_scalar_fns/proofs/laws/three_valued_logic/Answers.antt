use Rattle.kql_scalar_fns.proofs.LogicLaws.{and-three, or-three}
use Rattle.kql_scalar_fns.proofs.laws.three_valued_logic.Goals as goal

pub returns : goal.returns
returns c = record { conjunction = and-three; disjunction = or-three }

use Rattle.std.proofs.Common.{◌≡◌, map}
use Rattle.kql_scalar.specs.Chains.{long_along, term_at}
use Rattle.kql_scalar.specs.Rows.{rows}
use Rattle.kql_scalar.proofs.chains.chain_values.Given as goal

abbrev pub invariant-rows : goal.invariant-rows
invariant-rows l = l.numbers ≡ map (λ i. long_along l.links i (term_at l.first i)) (rows l.from l.i)

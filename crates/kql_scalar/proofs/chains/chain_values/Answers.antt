use Rattle.std.proofs.Common.{◌≤◌, arith}
use Rattle.kql_scalar.specs.Chains.{long_along, term_at}
use Rattle.kql_scalar.proofs.ChainSteps.{numbers-end}
use Rattle.kql_scalar.proofs.chains.chain_values.Goals as goal

pub returns : goal.returns
returns c =
    let over : c.args.to ≤ c.rows.i = omega (arith, c.rows-test.false) in
    let within : c.rows.i ≤ c.args.to = omega (arith, c.rows.auto.i-end) in
    record {
      values =
          numbers-end (λ i. long_along c.args.links.now i (term_at c.args.first i)) c.args.from c.rows.i c.args.to c.rows.numbers c.from_numbers.result
          over within c.rows.invariant c.from_numbers.ensures.cells;
    }

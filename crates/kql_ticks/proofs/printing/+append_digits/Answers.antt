use Rattle.std.proofs.Common.{arith}
use Rattle.kql_ticks.proofs.TextLemmas.{digits-none, digits-more}
use Rattle.kql_ticks.proofs.printing.+append_digits.Goals as goal

pub returns-then-width-eq0-clause-added : goal.returns-then-width-eq0-clause-added
returns-then-width-eq0-clause-added t c = digits-none _ _ _ (omega arith)

pub returns-clause-added : goal.returns-clause-added
returns-clause-added t c =
    rw (digits-more _ c.args.width c.args.n (omega arith)) (rw (c.append_digits.ensures.added, c.digit.ensures) at c.append.ensures.added)

use Rattle.std.proofs.Common.{◌<◌, ◌+◌, ◌^◌, arith, refl}
use Rattle.kql_values.proofs.BuilderFacts.{stored-row}
use Rattle.kql_values.proofs.builder.TableBuilder.end_row.Goals as goal

pub invariant_of-self : goal.invariant_of-self
invariant_of-self c =
    let full = rw (← c.self.view_is) at c.requires in
    let small : c.self.inside.count + 1 < 2 ^ 63 = omega arith in
    (stored-row c.self.inside.schema c.self.inside.columns.items c.self.inside.count c.self.inside.filled c.self.invariant full small).0

pub returns-clause-ended : goal.returns-clause-ended
returns-clause-ended c =
    let full = rw (← c.self.view_is) at c.requires in
    let small : c.self.inside.count + 1 < 2 ^ 63 = omega arith in
    let p = stored-row c.self.inside.schema c.self.inside.columns.items c.self.inside.count c.self.inside.filled c.self.invariant full small in
    rw (← c.self.view_is) (rw (p.1, p.2) refl)

use Rattle.std.proofs.Common.{refl}
use Rattle.kql_values.proofs.BuilderFacts.{stored-push}
use Rattle.kql_values.proofs.builder.TableBuilder.push_value.Goals as goal

pub invariant_of-self-2 : goal.invariant_of-self-2
invariant_of-self-2 c =
    let next = rw (← c.self.view_is) at c.requires in
    (stored-push c.self.inside.schema c.self.inside.columns.items _ c.self.inside.count c.self.inside.filled c.args.value c.self.invariant next c.in_ok-push_value_at.ensures.added).0

pub returns-clause-added : goal.returns-clause-added
returns-clause-added c =
    let next = rw (← c.self.view_is) at c.requires in
    let p = stored-push c.self.inside.schema c.self.inside.columns.items _ c.self.inside.count c.self.inside.filled c.args.value c.self.invariant next c.in_ok-push_value_at.ensures.added in
    rw (← c.self.view_is) (rw (p.1, p.2) refl)

use Rattle.kql_fits.proofs.LiteralFacts.{key-told}
use Rattle.kql_fits.proofs.scope.same_key.Goals as goal

pub returns : goal.returns
returns c = record { same = key-told c.same_key.result c.args.a.now c.args.b.now c.same_key.ensures.same }

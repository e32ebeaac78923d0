use Rattle.std.proofs.Common.{rules}
use Rattle.kql_keys.proofs.TextKeyFacts.{writes-are}
use Rattle.kql_keys.proofs.text_key.ShortTextHash.hash.Goals as goal

pub returns : goal.returns
returns g c = rw (writes-are c.args.self.now c.self.inside.first c.self.inside.second c.self.inside.third c.self.view_is c.self.invariant) (search rules)

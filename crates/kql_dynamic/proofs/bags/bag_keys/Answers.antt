use Rattle.kql_dynamic.proofs.BagFormLaws.{keys-form}
use Rattle.kql_dynamic.proofs.bags.bag_keys.Goals as goal

pub returns-in_ok-keys_of-in-Some-clause-form :
    goal.returns-in_ok-keys_of-in-Some-clause-form
returns-in_ok-keys_of-in-Some-clause-form c = rw c.in_ok-keys_of-in-Some.ensures (keys-form c.in-Some.entries.now)

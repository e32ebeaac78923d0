use Rattle.kql_dynamic.proofs.BagLaws.{first-bag-wins, last-pair-wins}
use Rattle.kql_dynamic.proofs.laws.keys_of_several_bags.Goals as goal

pub returns : goal.returns
returns c = record { first = first-bag-wins; last = last-pair-wins }

use Rattle.kql_dynamic.proofs.ArrayLaws.{first-is-sliced, second-is-sliced, slices-join}
use Rattle.kql_dynamic.proofs.laws.slices_and_joins.Goals as goal

pub returns : goal.returns
returns c = record { joined = slices-join; first = first-is-sliced; second = second-is-sliced }

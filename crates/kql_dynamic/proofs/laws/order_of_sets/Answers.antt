use Rattle.kql_dynamic.proofs.SetLaws.{difference-in-order, intersect-in-order, union-in-order}
use Rattle.kql_dynamic.proofs.laws.order_of_sets.Goals as goal

pub returns : goal.returns
returns c = record { union = union-in-order; intersect = intersect-in-order; difference = difference-in-order }

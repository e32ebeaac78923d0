use Rattle.kql_dynamic.proofs.SetLaws.{difference-holds, firsts-come-first, intersect-holds, union-holds}
use Rattle.kql_dynamic.proofs.laws.elements_of_sets.Goals as goal

pub returns : goal.returns
returns c = record { union = union-holds; intersect = intersect-holds; difference = difference-holds; first = firsts-come-first }

use Rattle.std.proofs.Common.{take}
use Rattle.kql_scalar.specs.Scalar.{AreLinksScalar, AreScalar}
use Rattle.kql_scalar.proofs.scalar.+is_scalar.Given as goal

abbrev pub invariant-are_scalar-parts : goal.invariant-are_scalar-parts
invariant-are_scalar-parts l = AreScalar (take l.e-index l.es)

abbrev pub invariant-are_links_scalar-parts : goal.invariant-are_links_scalar-parts
invariant-are_links_scalar-parts l = AreLinksScalar (take l.link-index l.links)

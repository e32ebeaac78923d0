use Rattle.std.proofs.Common.{◌≡◌, take}
use Rattle.kql_scalar.specs.Chains.{long_along}
use Rattle.kql_scalar.proofs.chains.long_along.Given as goal

abbrev pub invariant-links : goal.invariant-links
invariant-links l = l.number ≡ long_along (take l.link-index l.links) l.i l.fn.first

use Rattle.std.proofs.Common.{take}
use Rattle.kql_scalar.specs.Chains.{IsAlong}
use Rattle.kql_scalar.proofs.chains.longer.Given as goal

abbrev pub invariant-links : goal.invariant-links
invariant-links l = IsAlong l.t l._first (take l.link-index l.links) l.first l.terms.items

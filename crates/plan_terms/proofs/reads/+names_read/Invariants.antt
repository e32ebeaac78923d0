use Rattle.std.proofs.Common.{◌≡◌, take}
use Rattle.plan_terms.specs.NamesRead.{names_in, names_in_links}
use Rattle.plan_terms.proofs.reads.+names_read.Given as goal

abbrev pub invariant-names_in-loop-e : goal.invariant-names_in-loop-e
invariant-names_in-loop-e l = l.names ≡ names_in (take l.e-index l.es)

abbrev pub invariant-names_in_links-loop-link : goal.invariant-names_in_links-loop-link
invariant-names_in_links-loop-link l = l.names ≡ names_in_links (take l.link-index l.links)

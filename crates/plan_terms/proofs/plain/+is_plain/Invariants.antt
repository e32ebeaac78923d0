use Rattle.std.proofs.Common.{◌≡◌, take, true}
use Rattle.std.specs.List.{list_all}
use Rattle.kql_meaning.specs.RowByRow.{is_plain}
use Rattle.kql_meaning.proofs.PlainLaws.{links_plain}
use Rattle.plan_terms.proofs.plain.+is_plain.Given as goal

abbrev pub invariant-all_plain-loop-e : goal.invariant-all_plain-loop-e
invariant-all_plain-loop-e l = list_all is_plain (take l.e-index l.es) ≡ true

abbrev pub invariant-links_plain-loop-link : goal.invariant-links_plain-loop-link
invariant-links_plain-loop-link l = links_plain (take l.link-index l.links) ≡ true

use Rattle.std.proofs.Common.{◌≡◌, false, take}
use Rattle.std.specs.List.{list_any}
use Rattle.kql_bound.specs.declared.expr.BExpr.{BExpr}
use Rattle.kql_bound.specs.declared.expr.ChainSign.{ChainSign}
use Rattle.bind_expr.specs.GroupForms.{has_bad_count}
use Rattle.bind_groups.proofs.forms.+bad.Given as goal

abbrev pub invariant-any_bad_count-loop-e : goal.invariant-any_bad_count-loop-e
invariant-any_bad_count-loop-e l = list_any has_bad_count (take l.e-index l.es) ≡ false

abbrev pub invariant-any_bad_link-loop-link : goal.invariant-any_bad_link-loop-link
invariant-any_bad_link-loop-link l = list_any (λ (k : ChainSign × BExpr). has_bad_count k.1) (take l.link-index l.links) ≡ false

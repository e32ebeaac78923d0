use Rattle.std.proofs.Common.{◌≡◌, false, take}
use Rattle.std.specs.List.{list_any}
use Rattle.kql_bound.specs.declared.expr.BExpr.{BExpr}
use Rattle.kql_bound.specs.declared.expr.ChainSign.{ChainSign}
use Rattle.bind_expr.specs.GroupForms.{has_bare_column}
use Rattle.bind_groups.proofs.forms.+bare.Given as goal

abbrev pub invariant-any_bare-loop-e : goal.invariant-any_bare-loop-e
invariant-any_bare-loop-e l = list_any has_bare_column (take l.e-index l.es) ≡ false

abbrev pub invariant-any_bare_link-loop-link : goal.invariant-any_bare_link-loop-link
invariant-any_bare_link-loop-link l = list_any (λ (k : ChainSign × BExpr). has_bare_column k.1) (take l.link-index l.links) ≡ false

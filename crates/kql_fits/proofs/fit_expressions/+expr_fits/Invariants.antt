use Rattle.std.proofs.Common.{◌≡◌, take, true}
use Rattle.std.specs.List.{list_all}
use Rattle.kql_meaning.specs.FittingExpressions.{expr_fits}
use Rattle.kql_fits.proofs.fit_expressions.+expr_fits.Given as goal

abbrev pub invariant-exprs_fit-loop-e : goal.invariant-exprs_fit-loop-e
invariant-exprs_fit-loop-e l = list_all (λ e. expr_fits e l.scope l.at) (take l.e-index l.es) ≡ true

abbrev pub invariant-links_fit-loop-link : goal.invariant-links_fit-loop-link
invariant-links_fit-loop-link l = list_all (λ k. expr_fits k.1 l.scope l.at) (take l.link-index l.links) ≡ true

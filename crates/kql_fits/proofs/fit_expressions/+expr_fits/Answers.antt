use Rattle.std.proofs.Common.{arith}
use Rattle.kql_meaning.proofs.ExpressionFitLaws.{link-refused}
use Rattle.kql_fits.proofs.fit_expressions.+expr_fits.Goals as goal

pub links_fit-returns-then-not-branch : goal.links_fit-returns-then-not-branch
links_fit-returns-then-not-branch t c = record {
  fit = link-refused c.args.links.now c.args.scope.now c.args.at c.loop-link.link-index c.link-item.result c.in_ok-expr_fits.field-0
      (omega (arith, c.loop-link-test.true)) c.link-item.is c.in_ok-expr_fits.ensures.fits c.if-not-branch.true;
}

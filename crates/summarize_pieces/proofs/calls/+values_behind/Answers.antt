use Rattle.std.proofs.Common.{◌∙◌, ap, sym}
use Rattle.kql_bound.specs.declared.expr.BExpr.TheVariants as V
use Rattle.summarize_pieces.proofs.CallSteps.{behind-Call, behind-Chain, behind-Path, behind-link, behind-turn}
use Rattle.summarize_pieces.proofs.calls.+values_behind.Goals as goal

pub values_behind-returns-in-Call : goal.values_behind-returns-in-Call
values_behind-returns-in-Call t c =
    behind-Call c.args.e.now _ c.as_slice.result.now c.args.values.now c.behind_several.result.now
    (c.in-Call.is ∙ ap (V.Call _) (sym c.as_slice.ensures.items)) c.behind_several.ensures

pub values_behind-returns-in-Chain : goal.values_behind-returns-in-Chain
values_behind-returns-in-Chain t c =
    behind-Chain c.args.e.now c.get.result.now c.as_slice-in-Chain.result.now c.args.values.now c.values_behind-rest.result.now c.behind_links.result.now
    (c.in-Chain.is ∙ (ap (λ x. V.Chain x c.in-Chain.links) (sym c.get.ensures.value) ∙ ap (V.Chain c.get.result.now) (sym c.as_slice-in-Chain.ensures.items)))
    c.values_behind-rest.ensures c.behind_links.ensures

pub values_behind-returns-in-Path : goal.values_behind-returns-in-Path
values_behind-returns-in-Path t c =
    behind-Path c.args.e.now c.get-in-Path.result.now c.as_slice-in-Path.result.now c.args.values.now c.values_behind-rest-in-Path.result.now c.behind_several-in-Path.result.now
    (c.in-Path.is ∙ (ap (λ x. V.Path x c.in-Path.steps) (sym c.get-in-Path.ensures.value) ∙ ap (V.Path c.get-in-Path.result.now) (sym c.as_slice-in-Path.ensures.items)))
    c.values_behind-rest-in-Path.ensures c.behind_several-in-Path.ensures

pub behind_several-parts-preserved : goal.behind_several-parts-preserved
behind_several-parts-preserved t c = behind-turn c.args.es.now c.parts.e-index c.e-item.result c.args.values.now c.parts.rest.now c.values_behind-next.result.now c.parts-test.true c.e-item.is c.parts.invariant c.values_behind-next.ensures

pub behind_links-links-preserved : goal.behind_links-links-preserved
behind_links-links-preserved t c = behind-link c.args.links.now c.links.link-index c.link-item.result c.args.values.now c.links.rest.now c.values_behind-next.result.now c.links-test.true c.link-item.is c.links.invariant c.values_behind-next.ensures

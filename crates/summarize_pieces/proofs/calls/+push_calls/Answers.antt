use Rattle.std.proofs.Common.{◌∙◌, ap, refl, sym}
use Rattle.kql_bound.specs.declared.expr.BExpr.TheVariants as V
use Rattle.summarize_pieces.proofs.CallSteps.{links-more, push-Aggregate, push-Call, push-Chain, push-Path, several-more}
use Rattle.summarize_pieces.proofs.calls.+push_calls.Goals as goal

pub push_calls-returns-in_ok-push_calls_in-in-Call : goal.push_calls-returns-in_ok-push_calls_in-in-Call
push_calls-returns-in_ok-push_calls_in-in-Call t c = record {
  calls = push-Call c.args.e.now _ c.as_slice.result.now c.args.calls.now.items c.push_calls_in.new.calls.items (c.in-Call.is ∙ ap (V.Call _) (sym c.as_slice.ensures.items)) c.in_ok-push_calls_in-in-Call.ensures.calls;
}

pub push_calls-returns-in_ok-push_calls_along-in-Chain : goal.push_calls-returns-in_ok-push_calls_along-in-Chain
push_calls-returns-in_ok-push_calls_along-in-Chain t c = record {
  calls = push-Chain c.args.e.now c.get.result.now c.as_slice-in-Chain.result.now c.args.calls.now.items c.push_calls.new.calls.items c.push_calls_along.new.calls.items
      (c.in-Chain.is ∙ (ap (λ x. V.Chain x c.in-Chain.links) (sym c.get.ensures.value) ∙ ap (V.Chain c.get.result.now) (sym c.as_slice-in-Chain.ensures.items)))
      c.in_ok-push_calls-in-Chain.ensures.calls c.in_ok-push_calls_along-in-Chain.ensures.calls;
}

pub push_calls-returns-in_ok-push_calls_in-in-Path : goal.push_calls-returns-in_ok-push_calls_in-in-Path
push_calls-returns-in_ok-push_calls_in-in-Path t c = record {
  calls = push-Path c.args.e.now c.get-in-Path.result.now c.as_slice-in-Path.result.now c.args.calls.now.items c.push_calls-in-Path.new.calls.items c.push_calls_in-in-Path.new.calls.items
      (c.in-Path.is ∙ (ap (λ x. V.Path x c.in-Path.steps) (sym c.get-in-Path.ensures.value) ∙ ap (V.Path c.get-in-Path.result.now) (sym c.as_slice-in-Path.ensures.items)))
      c.in_ok-push_calls-in-Path.ensures.calls c.in_ok-push_calls_in-in-Path.ensures.calls;
}

pub push_calls-returns-in_ok-push-in-Aggregate : goal.push_calls-returns-in_ok-push-in-Aggregate
push_calls-returns-in_ok-push-in-Aggregate t c = record {
  calls = push-Aggregate c.args.e.now c.in-Aggregate.f c.in-Aggregate.f c.in-Aggregate.args c.as_slice-in-Aggregate.result.now c.args.calls.now.items c.push.new.self.items c.in-Aggregate.is refl c.as_slice-in-Aggregate.ensures.items c.in_ok-push-in-Aggregate.ensures.items;
}

pub push_calls_in-parts-preserved : goal.push_calls_in-parts-preserved
push_calls_in-parts-preserved t c = several-more c.args.es.now c.parts.e-index c.e-item.result c.args.calls.now.items c.parts.calls.items c.push_calls.new.calls.items c.parts-test.true c.e-item.is c.parts.invariant c.in_ok-push_calls.ensures.calls

pub push_calls_along-links-preserved : goal.push_calls_along-links-preserved
push_calls_along-links-preserved t c = links-more c.args.links.now c.links.link-index c.link-item.result c.args.calls.now.items c.links.calls.items c.push_calls.new.calls.items c.links-test.true c.link-item.is c.links.invariant c.in_ok-push_calls.ensures.calls

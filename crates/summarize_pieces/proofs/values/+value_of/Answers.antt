use Rattle.std.proofs.Common.{◌∙◌, [], ◌∷◌, ap, refl, rules, subst, sym}
use Rattle.kql_scalar_fns.specs.Applied.{applied}
use Rattle.kql_scalar_fns.specs.Arguments.{AreWellFormed}
use Rattle.kql_bound.specs.declared.expr.BExpr.TheVariants as V
use Rattle.summarize_pieces.proofs.PartSteps.{grouped_link}
use Rattle.summarize_pieces.proofs.ValueSteps.{along-end, along-more, along-none, down-end, down-more, down-none, form-Literal, forms-more, given-args, given-at, given-chain, given-link, given-path, no-forms, value-Aggregate, value-Call, value-Chain, value-Literal, value-Path, values-end, values-more, values-none}
use Rattle.summarize_pieces.proofs.values.+value_of.Goals as goal

pub value_of-returns-in_ok-constant-in-Literal : goal.value_of-returns-in_ok-constant-in-Literal
value_of-returns-in_ok-constant-in-Literal t c = record {
  value = λ u h. value-Literal c.args.e.now c.in-Literal.lit c.in_ok-constant-in-Literal.constant u c.in-Literal.is c.in_ok-constant-in-Literal.ensures.same;
  form = form-Literal c.args.schema.now c.args.e.now c.in-Literal.lit c.in_ok-constant-in-Literal.constant c.requires.grouped c.in-Literal.is c.in_ok-constant-in-Literal.ensures.same;
}

pub value_of-returns-in_ok-made-in-Call : goal.value_of-returns-in_ok-made-in-Call
value_of-returns-in_ok-made-in-Call t c =
    let args = c.parts.result.now in
    let is = c.in-Call.is ∙ ap (V.Call c.in-Call.f) (sym c.parts.ensures.items) in
    record {
      value = λ u h. value-Call c.args.e.now c.in-Call.f args c.in_ok-args-in-Call.args c.in_ok-made-in-Call.made u is
          (c.in_ok-args-in-Call.ensures.values u (given-args c.args.e.now c.in-Call.f args u c.args.values.now is h))
          (c.in_ok-made-in-Call.ensures.value ∙ ap (applied c.in-Call.f) c.as_slice.ensures.items);
      form = c.in_ok-made-in-Call.ensures.form;
    }

pub value_of-returns-in_ok-chained-in-Chain : goal.value_of-returns-in_ok-chained-in-Chain
value_of-returns-in_ok-chained-in-Chain t c =
    let first = c.part-first.result.now in
    let links = c.link_parts-links.result.now in
    let is = c.in-Chain.is ∙ (ap (λ x. V.Chain x c.in-Chain.links) (sym c.part-first.ensures.value) ∙ ap (V.Chain first) (sym c.link_parts-links.ensures.items)) in
    record {
      value = λ u h.
          let g = given-chain c.args.e.now first links u c.args.values.now c.behind-rest.result.now is c.behind-rest.ensures.rest h in
          value-Chain c.args.e.now first links c.in_ok-left-in-Chain.left c.in_ok-chained-in-Chain.chained u is (c.in_ok-left-in-Chain.ensures.value u g.0) (c.in_ok-chained-in-Chain.ensures.value u g.1);
      form = c.in_ok-chained-in-Chain.ensures.form;
    }

pub value_of-returns-in_ok-found-in-Path : goal.value_of-returns-in_ok-found-in-Path
value_of-returns-in_ok-found-in-Path t c =
    let whole = c.part-whole.result.now in
    let steps = c.parts-steps.result.now in
    let is = c.in-Path.is ∙ (ap (λ x. V.Path x c.in-Path.steps) (sym c.part-whole.ensures.value) ∙ ap (V.Path whole) (sym c.parts-steps.ensures.items)) in
    record {
      value = λ u h.
          let g = given-path c.args.e.now whole steps u c.args.values.now c.behind-rest-in-Path.result.now is c.behind-rest-in-Path.ensures.rest h in
          value-Path c.args.e.now whole steps c.in_ok-left-in-Path.left c.in_ok-found-in-Path.found u is (c.in_ok-left-in-Path.ensures.value u g.0) (c.in_ok-found-in-Path.ensures.value u g.1);
      form = c.in_ok-found-in-Path.ensures.form;
    }

pub value_of-returns-in_ok-given-in-Aggregate : goal.value_of-returns-in_ok-given-in-Aggregate
value_of-returns-in_ok-given-in-Aggregate t c = record {
  value = λ u h. value-Aggregate c.args.e.now _ _ c.args.values.now c.in_ok-given-in-Aggregate.given u c.in-Aggregate.is h c.in_ok-given-in-Aggregate.ensures.value;
  form = c.in_ok-given-in-Aggregate.ensures.form;
}

pub values_of-parts-init : goal.values_of-parts-init
values_of-parts-init t c = record {
  made = λ u h. (c.in_ok-made.ensures.empty ∙ sym (values-none c.args.es.now u), h);
  form = subst AreWellFormed (sym c.in_ok-made.ensures.empty) no-forms;
  rest = c.requires.form;
}

pub values_of-parts-preserved : goal.values_of-parts-preserved
values_of-parts-preserved t c = record {
  made = λ u h.
      let before = c.parts.invariant.made u h in
      let own = given-at c.args.es.now c.parts.e-index c.e-item.result u c.parts.rest.now c.behind-next.result.now c.parts-test.true c.e-item.is before.1 c.behind-next.ensures.rest in
      (values-more c.args.es.now c.parts.e-index c.e-item.result u c.in_ok-value.value c.parts.made c.push.new.self c.parts-test.true c.e-item.is before.0 (c.in_ok-value.ensures.value u own.0) c.in_ok-push.ensures.added, own.1);
  form = forms-more c.parts.made c.push.new.self c.in_ok-value.value c.parts.invariant.form c.in_ok-value.ensures.form c.in_ok-push.ensures.added;
  rest = c.behind-next.ensures.form;
}

pub values_of-returns : goal.values_of-returns
values_of-returns t c = record {
  values = λ u h. values-end c.args.es.now c.parts.e-index u c.parts.made (search rules) (c.parts.invariant.made u h).0;
  form = c.parts.invariant.form;
}

pub value_along-links-init : goal.value_along-links-init
value_along-links-init t c = record {
  made = λ u h. (along-none c.args.links.now u c.args.first, h);
  form = c.requires.first;
  rest = c.requires.form;
}

pub value_along-link_right-right-requires : goal.value_along-link_right-right-requires
value_along-link_right-right-requires t c = grouped_link c.args.schema.now c.args.links.now c.links.link-index c.link-item.result c.link-item.is (search rules) c.requires.grouped

pub value_along-links-preserved : goal.value_along-links-preserved
value_along-links-preserved t c = record {
  made = λ u h.
      let right = c.link_right-right.result.now in
      let before = c.links.invariant.made u h in
      let own = given-link c.args.links.now c.links.link-index c.link-item.result right u c.links.rest.now c.behind-next.result.now c.links-test.true c.link-item.is c.link_right-right.ensures.value before.1 c.behind-next.ensures.rest in
      (along-more c.args.links.now c.links.link-index c.link-item.result c.func.result right u c.args.first c.links.left c.in_ok-value.value c.links-test.true c.link-item.is c.func.ensures.func c.link_right-right.ensures.value before.0 (c.in_ok-value.ensures.value u own.0), own.1);
  form = c.in_ok-value.ensures.form;
  rest = c.behind-next.ensures.form;
}

pub value_along-returns : goal.value_along-returns
value_along-returns t c = record {
  value = λ u h. along-end c.args.links.now c.links.link-index u c.args.first c.links.left (search rules) (c.links.invariant.made u h).0;
  form = c.links.invariant.form;
}

pub value_down-steps-init : goal.value_down-steps-init
value_down-steps-init t c = record {
  made = λ u h. (down-none c.args.steps.now u c.args.whole, h);
  form = c.requires.whole;
  rest = c.requires.form;
}

pub value_down-steps-preserved : goal.value_down-steps-preserved
value_down-steps-preserved t c = record {
  made = λ u h.
      let before = c.steps.invariant.made u h in
      let own = given-at c.args.steps.now c.steps.step-index c.step-item.result u c.steps.rest.now c.behind-next.result.now c.steps-test.true c.step-item.is before.1 c.behind-next.ensures.rest in
      (down-more c.args.steps.now c.steps.step-index c.step-item.result _ u c.args.whole c.steps.left c.in_ok-value.value c.steps-test.true c.step-item.is refl before.0 (c.in_ok-value.ensures.value u own.0), own.1);
  form = c.in_ok-value.ensures.form;
  rest = c.behind-next.ensures.form;
}

pub value_down-returns : goal.value_down-returns
value_down-returns t c = record {
  value = λ u h. down-end c.args.steps.now c.steps.step-index u c.args.whole c.steps.left (search rules) (c.steps.invariant.made u h).0;
  form = c.steps.invariant.form;
}

pub linked-returns-in_ok-both-in-Ok : goal.linked-returns-in_ok-both-in-Ok
linked-returns-in_ok-both-in-Ok t c = record {
  value = λ u h. c.in_ok-both-in-Ok.ensures.value ∙ ap (λ v. applied c.args.f (c.args.left ∷ v ∷ [])) (c.in-Ok.ensures.value u h);
  form = c.in_ok-both-in-Ok.ensures.form;
}

use Rattle.std.proofs.Common.{◌∙◌, ap, rules, subst, sym}
use Rattle.kql_bound.specs.declared.expr.BExpr.{BExpr}
use Rattle.summarize_op.specs.Grouped.{AreFormed, applied_to_both, over}
use Rattle.summarize_op.proofs.PartSteps.{grouped_link}
use Rattle.summarize_op.proofs.ValueSteps.{all-start, all-step, along-start, along-step, columns-formed, down-start, down-step, no-columns-formed}
use Rattle.summarize_op.proofs.values.+values.Goals as goal

pub values_of_all-parts-init : goal.values_of_all-parts-init
values_of_all-parts-init t c = record {
  made = c.in_ok-vectors.ensures.items ∙ sym (all-start c.args.es.now c.args.t.now c.args.numbers.now c.args.count);
  form = subst AreFormed (sym c.in_ok-vectors.ensures.items) no-columns-formed;
}

pub values_of_all-parts-preserved : goal.values_of_all-parts-preserved
values_of_all-parts-preserved t c = record {
  made = all-step c.args.es.now c.args.t.now c.args.numbers.now c.args.count c.parts.e-index c.e-item.result c.parts.vectors.items c.push.new.self.items c.in_ok-vector.vector (search rules) c.e-item.is c.parts.invariant.made c.in_ok-vector.ensures.values c.in_ok-push.ensures.items;
  form = columns-formed c.parts.vectors.items c.push.new.self.items c.in_ok-vector.vector c.parts.invariant.form c.in_ok-vector.ensures.form c.in_ok-push.ensures.items;
}

pub values_along-links-init : goal.values_along-links-init
values_along-links-init t c = record {
  made = along-start c.args.links.now c.args.t.now c.args.numbers.now c.args.count c.args.first c.requires.long;
  long = c.requires.long;
  form = c.requires.form;
}

pub values_along-link_right-right-requires : goal.values_along-link_right-right-requires
values_along-link_right-right-requires t c = grouped_link c.args.t.now.columns c.args.links.now c.links.link-index c.link-item.result c.link-item.is (search rules) c.requires.grouped

pub values_along-links-preserved : goal.values_along-links-preserved
values_along-links-preserved t c =
    let right = ap (λ (e : BExpr). applied_to_both c.func.result c.links.left (over e c.args.t.now c.args.numbers.now c.args.count) c.args.count) c.link_right-right.ensures.value in
    record {
      made = along-step c.args.links.now c.args.t.now c.args.numbers.now c.args.count c.links.link-index c.link-item.result c.func.result c.args.first c.links.left c.in_ok-next.next (search rules) c.link-item.is c.func.ensures.func c.links.invariant.made (c.in_ok-next.ensures.values ∙ right);
      long = c.in_ok-next.ensures.long;
      form = c.in_ok-next.ensures.form;
    }

pub values_down-steps-init : goal.values_down-steps-init
values_down-steps-init t c = record {
  made = down-start c.args.steps.now c.args.t.now c.args.numbers.now c.args.count c.args.first c.requires.long;
  long = c.requires.long;
  form = c.requires.form;
}

pub values_down-steps-preserved : goal.values_down-steps-preserved
values_down-steps-preserved t c = record {
  made = down-step c.args.steps.now c.args.t.now c.args.numbers.now c.args.count c.steps.step-index c.step-item.result c.args.first c.steps.left c.in_ok-next.next (search rules) c.step-item.is c.steps.invariant.made c.in_ok-next.ensures.values;
  long = c.in_ok-next.ensures.long;
  form = c.in_ok-next.ensures.form;
}

use Rattle.std.proofs.Common.{◌≡◌, ◌∙◌, ap, refl, subst, sym}
use Rattle.std.specs.Prelude.{IfOk}
use Rattle.kql_bound.specs.declared.expr.BExpr.TheVariants as V
use Rattle.window_ops.specs.Columns.{chain_down, linked_down, path_down}
use Rattle.window_ops.proofs.DownSteps.{call-columns, chain-turn, columns-turn, down-Chain, down-Path, linked-columns, path-turn}
use Rattle.window_ops.proofs.ReadySteps.{links-next, ready-args, ready-first, ready-item, ready-link, ready-links, ready-next, ready-steps, ready-whole}
use Rattle.window_ops.proofs.columns.+column.Goals as goal

-- The parts of an expression.

pub column-parts-args-requires : goal.column-parts-args-requires
column-parts-args-requires t c = record { ready = ready-args c.args.e.now c.args.t.now c.args.from c.args.count c.args.carries.now _ c.in-Call.args c.requires.ready c.in-Call.is }

pub column-part-first-requires : goal.column-part-first-requires
column-part-first-requires t c = record { ready = ready-first c.args.e.now c.args.t.now c.args.from c.args.count c.args.carries.now c.in-Chain.first c.in-Chain.links c.requires.ready c.in-Chain.is }

pub column-link_parts-links-requires : goal.column-link_parts-links-requires
column-link_parts-links-requires t c = record { ready = ready-links c.args.e.now c.args.t.now c.args.from c.args.count c.args.carries.now c.carries_behind-rest.result.now c.in-Chain.first c.part-first.result.now c.in-Chain.links c.requires.ready c.in-Chain.is c.part-first.ensures.value c.carries_behind-rest.ensures }

pub column-part-whole-requires : goal.column-part-whole-requires
column-part-whole-requires t c = record { ready = ready-whole c.args.e.now c.args.t.now c.args.from c.args.count c.args.carries.now c.in-Path.whole c.in-Path.steps c.requires.ready c.in-Path.is }

pub column-parts-steps-requires : goal.column-parts-steps-requires
column-parts-steps-requires t c = record { ready = ready-steps c.args.e.now c.args.t.now c.args.from c.args.count c.args.carries.now c.carries_behind-rest-in-Path.result.now c.in-Path.whole c.part-whole.result.now c.in-Path.steps c.requires.ready c.in-Path.is c.part-whole.ensures.value c.carries_behind-rest-in-Path.ensures }

pub columns-item_part-e-requires : goal.columns-item_part-e-requires
columns-item_part-e-requires t c = record { ready = ready-item c.args.es.now c.parts.e-index c.e-item.result c.args.t.now c.args.from c.args.count c.parts.rest.now c.parts-test.true c.e-item.is c.parts.invariant.ready }

pub path_column-item_part-step-requires : goal.path_column-item_part-step-requires
path_column-item_part-step-requires t c = record { ready = ready-item c.args.steps.now c.steps.step-index c.step-item.result c.args.t.now c.args.from c.args.count c.steps.rest.now c.steps-test.true c.step-item.is c.steps.invariant.ready }

pub chain_column-link_part-right-requires : goal.chain_column-link_part-right-requires
chain_column-link_part-right-requires t c = record { ready = ready-link c.args.links.now c.links.link-index c.link-item.result c.args.t.now c.args.from c.args.count c.links.rest.now c.links-test.true c.link-item.is c.links.invariant.ready }

-- Their columns.

pub column-returns-in_ok-values-in-Chain : goal.column-returns-in_ok-values-in-Chain
column-returns-in_ok-values-in-Chain t c =
    let first = c.part-first.result.now in
    let links = c.link_parts-links.result.now in
    let is = c.in-Chain.is ∙ (ap (λ x. V.Chain x c.in-Chain.links) (sym c.part-first.ensures.value) ∙ ap (V.Chain first) (sym c.link_parts-links.ensures.items)) in
    let e = down-Chain c.args.e.now first links c.args.t.now c.args.from c.args.count c.formed-left.result (chain_down links c.args.t.now c.args.from c.args.count c.formed-left.result) is (c.formed-left.ensures.same ∙ c.in_ok-values-in-Chain.ensures.values) refl in
    record { values = subst (λ vs. IfOk c.chain_column.result (λ v. v ≡ vs)) e c.chain_column.ensures.values }

pub column-returns-in_ok-values-in-Path : goal.column-returns-in_ok-values-in-Path
column-returns-in_ok-values-in-Path t c =
    let whole = c.part-whole.result.now in
    let steps = c.parts-steps.result.now in
    let is = c.in-Path.is ∙ (ap (λ x. V.Path x c.in-Path.steps) (sym c.part-whole.ensures.value) ∙ ap (V.Path whole) (sym c.parts-steps.ensures.items)) in
    let e = down-Path c.args.e.now whole steps c.args.t.now c.args.from c.args.count c.formed-left-in-Path.result (path_down steps c.args.t.now c.args.from c.args.count c.formed-left-in-Path.result) is (c.formed-left-in-Path.ensures.same ∙ c.in_ok-values-in-Path.ensures.values) refl in
    record { values = subst (λ vs. IfOk c.path_column.result (λ v. v ≡ vs)) e c.path_column.ensures.values }

pub columns-parts-preserved : goal.columns-parts-preserved
columns-parts-preserved t c = record {
  made = columns-turn c.args.es.now c.args.t.now c.args.from c.args.count c.parts.e-index c.e-item.result c.item_part-e.result.now c.parts.vectors.items c.push.new.self.items c.in_ok-vector.vector c.parts-test.true c.e-item.is c.item_part-e.ensures.value c.parts.invariant.made c.in_ok-vector.ensures.values c.in_ok-push.ensures.items;
  ready = ready-next c.args.es.now c.parts.e-index c.e-item.result c.item_part-e.result.now c.args.t.now c.args.from c.args.count c.parts.rest.now c.carries_behind-next.result.now c.parts-test.true c.e-item.is c.parts.invariant.ready c.item_part-e.ensures.value c.carries_behind-next.ensures;
}

pub call_column-applied_rows-requires : goal.call_column-applied_rows-requires
call_column-applied_rows-requires t c = record {
  columns = call-columns c.args.args.now c.args.t.now c.args.from c.args.count c.args.carries.now c.as_slice.result.now c.requires.ready c.table_facts.ensures.distinct c.table_facts.ensures.fits (c.as_slice.ensures.value ∙ c.in_ok-vectors.ensures.values);
}

pub linked_column-applied_rows-requires : goal.linked_column-applied_rows-requires
linked_column-applied_rows-requires t c = record {
  columns = linked-columns c.args.right.now c.args.t.now c.args.from c.args.count c.args.carries.now c.args.left c.in_ok-values.values c.as_slice.result.now c.requires.ready c.table_facts.ensures.distinct c.table_facts.ensures.fits c.requires.column c.in_ok-values.ensures.values (c.as_slice.ensures.value ∙ c.in_ok-both.ensures.pair);
}

pub chain_column-links-preserved : goal.chain_column-links-preserved
chain_column-links-preserved t c = record {
  made = chain-turn c.args.links.now c.links.link-index c.link-item.result c.args.t.now c.args.from c.args.count c.func.result c.args.first c.links.left c.in_ok-next.next
      c.links-test.true c.link-item.is c.func.ensures.func c.links.invariant.made
      (c.in_ok-next.ensures.values ∙ ap (λ x. linked_down c.func.result x c.args.t.now c.args.from c.args.count c.links.left) c.link_part-right.ensures.value);
  column = c.in_ok-next.ensures.column;
  ready = links-next c.args.links.now c.links.link-index c.link-item.result c.link_part-right.result.now c.args.t.now c.args.from c.args.count c.links.rest.now c.carries_behind-behind.result.now c.links-test.true c.link-item.is c.links.invariant.ready c.link_part-right.ensures.value c.carries_behind-behind.ensures;
}

pub path_column-steps-preserved : goal.path_column-steps-preserved
path_column-steps-preserved t c = record {
  made = path-turn c.args.steps.now c.steps.step-index c.step-item.result c.item_part-step.result.now c.args.t.now c.args.from c.args.count c.args.whole c.steps.left c.in_ok-next.next
      c.steps-test.true c.step-item.is c.item_part-step.ensures.value c.steps.invariant.made c.in_ok-next.ensures.values;
  column = c.in_ok-next.ensures.column;
  ready = ready-next c.args.steps.now c.steps.step-index c.step-item.result c.item_part-step.result.now c.args.t.now c.args.from c.args.count c.steps.rest.now c.carries_behind-behind.result.now c.steps-test.true c.step-item.is c.steps.invariant.ready c.item_part-step.ensures.value c.carries_behind-behind.ensures;
}

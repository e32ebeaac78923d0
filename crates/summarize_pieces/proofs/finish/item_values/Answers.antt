use Rattle.std.proofs.Common.{◌-◌, ◌∙◌, drop, length, rules}
use Rattle.summarize_pieces.specs.Calls.{item_calls}
use Rattle.summarize_pieces.specs.Pieces.{kept_rows}
use Rattle.summarize_pieces.proofs.ItemSteps.{first-row, further-item, given-item, item-at, item-form, line-end, line-more, line-start, no-values-used, rest-low, rows-many}
use Rattle.summarize_pieces.proofs.finish.item_values.Goals as goal

pub items-init : goal.items-init
items-init c = record {
  made = λ u h g. (line-start c.args.items.now u c.args.key, h, no-values-used c.args.schema.now c.args.items.now u c.args.values.now (kept_rows c.args.folds.now c.args.k) g);
  form = c.requires.form;
  low = search rules;
}

pub push_item-requires-clause-item : goal.push_item-requires-clause-item
push_item-requires-clause-item c = item-at c.args.schema.now c.args.items.now c.items.item-index c.item-item.result c.requires.fits c.items-test.true c.item-item.is

pub items-preserved : goal.items-preserved
items-preserved c =
    let rows = kept_rows c.args.folds.now c.args.k in
    let used = length c.args.values.now - length c.items.rest.now in
    record {
      made = λ u h g.
          let before = c.items.invariant.made u h g in
          let own = given-item c.args.items.now c.items.item-index c.item-item.result u c.items.rest.now c.values_behind_item-next.result.now c.items-test.true c.item-item.is before.1 c.values_behind_item-next.ensures in
          let far = further-item c.args.schema.now c.args.items.now c.items.item-index c.item-item.result u c.args.values.now c.items.rest.now c.values_behind_item-next.result.now rows c.items-test.true c.item-item.is c.items.invariant.low (rows-many c.args.folds.now c.args.k ∙ c.requires.many) before.2 c.values_behind_item-next.ensures in
          let cells = first-row rows _ used _ (search rules) c.kept_cells-cells.ensures.cells in
          (line-more c.args.items.now c.items.item-index c.item-item.result u c.args.key c.items.line c.push_item.new.line c.items-test.true c.item-item.is before.0 (c.in_ok-push_item.ensures.pushed u (drop used rows) own.0 far.0 cells), own.1, far.1);
      form = item-form (length (item_calls c.item-item.result.expr)) c.items.rest.now c.values_behind_item-next.result.now c.items.invariant.form c.values_behind_item-next.ensures;
      low = rest-low (length (item_calls c.item-item.result.expr)) c.args.values.now c.items.rest.now c.values_behind_item-next.result.now c.values_behind_item-next.ensures c.items.invariant.low;
    }

pub returns : goal.returns
returns c = record { line = λ u h g. line-end c.args.items.now c.items.item-index u c.args.key c.items.line (search rules) (c.items.invariant.made u h g).0 }

use Rattle.std.proofs.Common.{◌<◌, ◌≡◌, ◌∙◌, ap, arith, length, subst, sym}
use Rattle.kql_cells.specs.Seen.{seen}
use Rattle.kql_cells.specs.Values.{IsWellFormed}
use Rattle.kql_bound.specs.declared.parts.SeriesItem.{SeriesItem}
use Rattle.kql_scalar_fns.specs.Arguments.{AreWellFormed}
use Rattle.series_op.proofs.ArraySteps.{all-more, all-start, forms-at}
use Rattle.series_op.proofs.arrays.item_arrays.Goals as goal

-- the column and the default of an item are well formed
forms : (c : goal.After-as_cell-default) → AreWellFormed c.index-columns-i.result × IsWellFormed c.index-items-i.result.default.value
forms c =
    let below : c.items.i < length c.args.items.now = omega (arith, c.items-test.true, c.items.auto.i-end) in
    let inside : c.items.i < length c.args.columns.now = omega (arith, below, c.requires.many) in
    forms-at c.args.columns.now c.args.items.now c.items.i c.index-columns-i.result c.index-items-i.result c.requires.form inside below c.index-columns-i.is c.index-items-i.is

shown : (c : goal.After-as_cell-default) → seen c.as_cell-default.result ≡ c.index-items-i.result.default.value
shown c = c.as_cell-default.ensures.same ∙ sym (ap (λ (j : SeriesItem). j.default.value) c.index-items-i.is)

pub items-init : goal.items-init
items-init c = c.in_ok-vectors.ensures.items ∙ sym (all-start c.args.columns.now c.args.items.now c.args.groups.now c.args.places.now c.args.count)

pub arrays-requires-clause-form : goal.arrays-requires-clause-form
arrays-requires-clause-form c = (forms c).0

pub arrays-requires-clause-default : goal.arrays-requires-clause-default
arrays-requires-clause-default c = subst IsWellFormed (sym (shown c)) (forms c).1

pub items-preserved : goal.items-preserved
items-preserved c =
    let below : c.items.i < length c.args.items.now = omega (arith, c.items-test.true, c.items.auto.i-end) in
    let inside : c.items.i < length c.args.columns.now = omega (arith, below, c.requires.many) in
    all-more c.args.columns.now c.args.items.now c.args.groups.now c.args.places.now c.args.count c.items.i c.index-columns-i.result c.in_ok-vector.vector c.index-items-i.result (seen c.as_cell-default.result) c.items.vectors.items c.push.new.self.items inside below c.index-columns-i.is c.index-items-i.is (c.as_cell-default.ensures.same ∙ sym (ap (λ (j : SeriesItem). j.default.value) c.index-items-i.is)) c.in_ok-vector.ensures.arrays c.items.invariant c.in_ok-push.ensures.items

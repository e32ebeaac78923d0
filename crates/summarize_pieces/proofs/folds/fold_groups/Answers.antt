use Rattle.std.proofs.Common.{◌<◌, ◌^◌, get_or, length, refl, rules, subst, sym, take}
use Rattle.agg_folds.specs.States.{fold_of}
use Rattle.summarize_op.specs.Passes.{group_args}
use Rattle.summarize_pieces.proofs.PassSteps.{fold-at, fold-room, folds-many, folds-start, folds-step, stored-more, stored-none}
use Rattle.summarize_pieces.proofs.folds.fold_groups.Goals as goal

pub rows-init : goal.rows-init
rows-init c = (folds-start c.args.call c.args.columns.now c.args.numbers.now c.args.count c.in_ok-folds.folds.items c.in_ok-folds.ensures.none, stored-none c.args.columns.now)

pub step_group-requires-clause-group : goal.step_group-requires-clause-group
step_group-requires-clause-group c =
    let ns = c.args.numbers.now in
    let i = c.rows.i in
    let xc = c.requires.within i 0 c.rows-test.true in
    let many = folds-many c.args.call c.args.columns.now (take i ns) c.args.count c.rows.folds.items c.rows.invariant.0 in
    subst (λ n. get_or ns i 0 < n) (sym many) xc

pub step_group-requires-clause-room : goal.step_group-requires-clause-room
step_group-requires-clause-room c =
    let ns = c.args.numbers.now in
    let i = c.rows.i in
    let xc = c.requires.within i 0 c.rows-test.true in
    let small : length ns < 2 ^ 63 = search rules in
    fold-room c.args.call c.args.columns.now ns c.args.count i (get_or ns i 0) c.rows.folds.items c.rows-test.true small xc c.rows.invariant.0

pub rows-preserved : goal.rows-preserved
rows-preserved c =
    let ns = c.args.numbers.now in
    let columns = c.args.columns.now in
    let i = c.rows.i in
    let x = get_or ns i 0 in
    let xc = c.requires.within i 0 c.rows-test.true in
    let rows = group_args columns (take i ns) x in
    let e = fold-at c.args.call columns (take i ns) c.args.count x (fold_of c.args.call rows) c.rows.folds.items xc c.rows.invariant.0 in (
      folds-step c.args.call columns ns c.args.count i x c.rows.folds.items c.step_group.new.folds.items c.rows-test.true refl xc c.rows.invariant.0 (c.in_ok-step_group.ensures.row c.args.call rows e),
      stored-more columns i c.rows.invariant.1 c.in_ok-step_group.ensures.number,
    )

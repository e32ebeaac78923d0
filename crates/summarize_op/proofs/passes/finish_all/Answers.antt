use Rattle.std.proofs.Common.{◌<◌, ◌∙◌, length, rules}
use Rattle.summarize_op.specs.Passes.{group_args}
use Rattle.summarize_op.proofs.PassSteps.{finish-step, fold-at}
use Rattle.summarize_op.proofs.passes.finish_all.Goals as goal

pub groups-preserved : goal.groups-preserved
groups-preserved c =
    let columns = c.args._columns.now in
    let numbers = c.args._numbers.now in
    let g = c.groups.fold-index in
    let lt : c.groups.fold-index < length c.args.folds.now = search rules in
    let e = c.fold-item.is ∙ fold-at c.args._call columns numbers (length c.args.folds.now) g c.fold-item.result c.args.folds.now lt c.requires in
    finish-step c.args._call columns numbers g c.in_ok-value.value c.groups.made c.push.new.self c.groups.invariant (c.in_ok-value.ensures.value c.args._call (group_args columns numbers g) e) c.in_ok-push.ensures.added

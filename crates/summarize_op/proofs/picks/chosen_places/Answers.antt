use Rattle.std.proofs.Common.{◌<◌, ◌∙◌, length, rules}
use Rattle.summarize_op.specs.Passes.{group_args}
use Rattle.summarize_op.proofs.PassSteps.{fold-at}
use Rattle.summarize_op.proofs.PickSteps.{chosen-step}
use Rattle.summarize_op.proofs.picks.chosen_places.Goals as goal

pub groups-preserved : goal.groups-preserved
groups-preserved c =
    let columns = c.args._columns.now in
    let numbers = c.args._numbers.now in
    let g = c.groups.fold-index in
    let lt : c.groups.fold-index < length c.args.folds.now = search rules in
    let e = c.fold-item.is ∙ fold-at c.args._call columns numbers (length c.args.folds.now) g c.fold-item.result c.args.folds.now lt c.requires in
    chosen-step c.args._call columns numbers g c.chosen-place.result c.groups.places c.push.new.self c.groups.invariant (c.chosen-place.ensures.row c.args._call (group_args columns numbers g) e) c.in_ok-push.ensures.added

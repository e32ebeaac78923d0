use Rattle.summarize_op.proofs.PickSteps.{plain-named}
use Rattle.summarize_op.proofs.picks.picked_column.Goals as goal

pub unreachable-requires : goal.unreachable-requires
unreachable-requires c =
    let q = plain-named c.args.t.now.columns c.args.column.now c.requires.column in
    c.in_default.not-Column q.0 q.1

use Rattle.std.proofs.Common.{slice_get}
use Rattle.window_ops.proofs.ArgumentSteps.{long-given}
use Rattle.window_ops.proofs.WindowSteps.{number-few}
use Rattle.window_ops.proofs.windows.number_column.Goals as goal

pub row_numbers-requires-clause-starts : goal.row_numbers-requires-clause-starts
row_numbers-requires-clause-starts c = long-given (slice_get c.args.args.now 0) c.args.t.now c.args.from c.args.count c.in_ok-starts.starts c.in_ok-starts.ensures.values

pub row_numbers-requires-clause-restarts : goal.row_numbers-requires-clause-restarts
row_numbers-requires-clause-restarts c = long-given (slice_get c.args.args.now 1) c.args.t.now c.args.from c.args.count c.in_ok-restarts.restarts c.in_ok-restarts.ensures.values

pub row_numbers-requires-clause-few : goal.row_numbers-requires-clause-few
row_numbers-requires-clause-few c = number-few c.args.args.now c.args.t.now c.args.from c.args.count c.len-rows.result c.args.before.now c.requires.before c.requires.range c.len-rows.ensures.count c.len-rows.ensures.small

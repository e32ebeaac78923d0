use Rattle.std.proofs.Common.{slice_get, ◌-◌}
use Rattle.window_ops.specs.Calls.{term_named}
use Rattle.window_ops.proofs.ArgumentSteps.{long-given}
use Rattle.window_ops.proofs.sums.carry_of_call.Goals as goal

pub carry_over-made-requires-clause-terms : goal.carry_over-made-requires-clause-terms
carry_over-made-requires-clause-terms c = long-given (term_named c.args.name.now c.args.args.now) c.args.t.now c.args.from (c.args.to - c.args.from) c.in_ok-terms.terms c.in_ok-terms.ensures.values

pub carry_over-made-requires-clause-restarts : goal.carry_over-made-requires-clause-restarts
carry_over-made-requires-clause-restarts c = long-given (slice_get c.args.args.now 1) c.args.t.now c.args.from (c.args.to - c.args.from) c.in_ok-restarts.restarts c.in_ok-restarts.ensures.values

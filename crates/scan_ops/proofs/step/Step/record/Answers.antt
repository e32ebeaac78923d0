use Rattle.std.proofs.Common.{◌∙◌}
use Rattle.scan_ops.proofs.StepFacts.{sources-there}
use Rattle.scan_ops.proofs.step.Step.record.Goals as goal

pub record_of-requires-clause-inside : goal.record_of-requires-clause-inside
record_of-requires-clause-inside c = sources-there c.self.inside.step.now c.self.inside.condition.columns c.as_slice.result.now c.args.t.now (rw (← c.self.view_is) at c.requires.columns) (c.as_slice.ensures.value ∙ c.self.invariant.1)

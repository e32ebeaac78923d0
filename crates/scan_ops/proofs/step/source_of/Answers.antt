use Rattle.scan_ops.proofs.StepFacts.{set-scalar, value-source}
use Rattle.scan_ops.proofs.step.source_of.Goals as goal

pub new-requires : goal.new-requires
new-requires c = set-scalar c.args.sets.now c.as_str.result.now c.in-Some.set.now c.requires.scalar c.in-Some.ensures.set

pub returns-in_ok-located-in-Some : goal.returns-in_ok-located-in-Some
returns-in_ok-located-in-Some c = record {
  source = value-source c.args.sets.now c.args.schema.now c.args.column.now c.as_str.result.now c.in-Some.set.now c.in_ok-located-in-Some.located c.as_str.ensures.same c.in-Some.ensures.set c.in_ok-located-in-Some.ensures.parts;
}

use Rattle.std.proofs.Common.{◌≡◌, ◌<◌, length, arith}
use Rattle.scan_ops.specs.Runs.{machine_of}
use Rattle.scan_ops.proofs.EmitFacts.{ends-all, ends-more, ends-start, held-added-wide, state-there}
use Rattle.scan_ops.proofs.emit.emit_ends.Goals as goal

pub each-init : goal.each-init
each-init c = record {
  rows = ends-start c.args.plan.now (machine_of c.args.states.now c.args.begun) c.args.emitted.now;
  width = c.requires.width;
}

pub each-preserved : goal.each-preserved
each-preserved c =
    let lt : c.each.at < length c.args.states.now = omega arith in
    let s = c.index-states-at.result in
    let n = length c.args.plan.now.steps in
    record {
      rows = ends-more c.args.plan.now c.args.states.now c.args.begun c.each.at s c.args.emitted.now c.each.emitted c.emit_held.new.emitted lt c.index-states-at.is c.each.invariant.rows c.in_ok-emit_held.ensures.rows;
      width = held-added-wide c.args.plan.now n c.args.width c.each.at s c.each.emitted c.emit_held.new.emitted (state-there n c.args.width c.each.at c.args.states.now s c.requires.states lt c.index-states-at.is) c.each.invariant.width c.in_ok-emit_held.ensures.rows;
    }

pub returns : goal.returns
returns c =
    let all : c.each.at ≡ length c.args.plan.now.steps = omega arith in
    record {
      rows = ends-all c.args.plan.now (machine_of c.args.states.now c.args.begun) c.each.at c.args.emitted.now c.each.emitted all c.each.invariant.rows;
      width = c.each.invariant.width;
    }

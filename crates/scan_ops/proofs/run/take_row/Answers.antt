use Rattle.std.proofs.Common.{◌≡◌, ◌<◌, ◌+◌, ◌-◌, length, arith}
use Rattle.kql_meaning.specs.Scan.{row_after}
use Rattle.scan_ops.specs.Runs.{turn_of}
use Rattle.scan_ops.proofs.RowFacts.{step-of, step-there, steps-count, still-all, still-more, still-none}
use Rattle.scan_ops.proofs.run.take_row.Goals as goal

pub each-init : goal.each-init
each-init c = record {
  run = c.requires.run;
  left = omega arith;
  turn = still-all c.args.plan.now c.args.t.now c.args.i (length c.args.steps.now) (turn_of c.args.run.now) (steps-count c.args.plan.now c.args.t.now.columns c.args.steps.now c.requires.steps);
}

pub try_step-requires-clause-step : goal.try_step-requires-clause-step
try_step-requires-clause-step c = step-of c.args.plan.now c.args.t.now.columns c.args.steps.now _ c.index-steps-at.result c.requires.steps (omega arith) c.index-steps-at.is

pub each-preserved : goal.each-preserved
each-preserved c =
    let p = c.args.plan.now in
    let cs = c.args.t.now.columns in
    let x = c.index-steps-at.result in
    let k = c.each.left - 1 in
    let lt : k < length p.steps = omega (arith, steps-count p cs c.args.steps.now c.requires.steps) in
    let next : c.each.left ≡ k + 1 = omega arith in
    let here = step-of p cs c.args.steps.now k x c.requires.steps (omega arith) c.index-steps-at.is in
    record {
      run = c.try_step.ensures.run;
      left = omega arith;
      turn = still-more p c.args.t.now c.args.i c.each.left k x.step (turn_of c.each.run) (turn_of c.try_step.new.run) (row_after p c.args.t.now (turn_of c.args.run.now) c.args.i) next lt (step-there p cs k x here lt) c.in_ok-try_step.ensures.turn c.each.invariant.turn;
    }

pub returns-clause-turn : goal.returns-clause-turn
returns-clause-turn c =
    let none : c.each.left ≡ 0 = omega arith in
    still-none c.args.plan.now c.args.t.now c.args.i c.each.left (turn_of c.each.run) (row_after c.args.plan.now c.args.t.now (turn_of c.args.run.now) c.args.i) none c.each.invariant.turn

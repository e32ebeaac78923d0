use Rattle.std.proofs.Common.{◌-◌, length}
use Rattle.scan_ops.specs.Runs.{emitted_with, width_of}
use Rattle.scan_ops.proofs.EmitFacts.{held-added-wide, more-wide, same-wide, state-wide, with-wide}
use Rattle.scan_ops.proofs.emit.emit_move.Goals as goal

pub emit_held-requires-2-clause-width : goal.emit_held-requires-2-clause-width
emit_held-requires-2-clause-width c =
    let p = c.args.plan.now in
    let w = length c.args.line.now in
    let n = length p.steps in
    let one = held-added-wide p n w c.args.at c.args.old.now c.args.emitted.now c.emit_held.new.emitted c.requires.old c.requires.width c.in_ok-emit_held.ensures.rows in
    state-wide p n w (c.args.at - 1) c.args.before.now c.emit_held.new.emitted c.requires.before one

pub returns-in_err-emit_held-2-clause-width : goal.returns-in_err-emit_held-2-clause-width
returns-in_err-emit_held-2-clause-width c =
    let p = c.args.plan.now in
    let w = length c.args.line.now in
    let n = length p.steps in
    let one = held-added-wide p n w c.args.at c.args.old.now c.args.emitted.now c.emit_held.new.emitted c.requires.old c.requires.width c.in_ok-emit_held.ensures.rows in
    same-wide (width_of p w) c.emit_held.new.emitted c.emit_held-2.new.emitted one c.in_err-emit_held-2.ensures.kept

pub emit_with-requires : goal.emit_with-requires
emit_with-requires c =
    let p = c.args.plan.now in
    let w = length c.args.line.now in
    let n = length p.steps in
    let one = held-added-wide p n w c.args.at c.args.old.now c.args.emitted.now c.emit_held.new.emitted c.requires.old c.requires.width c.in_ok-emit_held.ensures.rows in
    record { width = held-added-wide p n w (c.args.at - 1) c.args.before.now c.emit_held.new.emitted c.emit_held-2.new.emitted c.requires.before one c.in_ok-emit_held-2.ensures.rows }

pub returns-in_err-emit_with-clause-width : goal.returns-in_err-emit_with-clause-width
returns-in_err-emit_with-clause-width c =
    let p = c.args.plan.now in
    let w = length c.args.line.now in
    let n = length p.steps in
    let one = held-added-wide p n w c.args.at c.args.old.now c.args.emitted.now c.emit_held.new.emitted c.requires.old c.requires.width c.in_ok-emit_held.ensures.rows in
    let two = held-added-wide p n w (c.args.at - 1) c.args.before.now c.emit_held.new.emitted c.emit_held-2.new.emitted c.requires.before one c.in_ok-emit_held-2.ensures.rows in
    same-wide (width_of p w) c.emit_held-2.new.emitted c.emit_with.new.emitted two c.in_err-emit_with.ensures.kept

pub returns-clause-width : goal.returns-clause-width
returns-clause-width c =
    let p = c.args.plan.now in
    let w = length c.args.line.now in
    let n = length p.steps in
    let one = held-added-wide p n w c.args.at c.args.old.now c.args.emitted.now c.emit_held.new.emitted c.requires.old c.requires.width c.in_ok-emit_held.ensures.rows in
    let two = held-added-wide p n w (c.args.at - 1) c.args.before.now c.emit_held.new.emitted c.emit_held-2.new.emitted c.requires.before one c.in_ok-emit_held-2.ensures.rows in
    let step = c.args.step.now.step in
    more-wide (width_of p w) c.emit_held-2.new.emitted c.emit_with.new.emitted (emitted_with p step c.args.line.now c.args.before.now.held) two (with-wide p step c.args.line.now c.args.before.now.held) c.in_ok-emit_with.ensures.rows

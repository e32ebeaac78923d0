use Rattle.std.proofs.Common.{◌<◌, ◌-◌, length, get_or, sym, ap, ◌∙◌, arith, List}
use Rattle.scan_ops.specs.States.{StateSeen}
use Rattle.scan_ops.proofs.RunFacts.{empty-stays, first-stays, full-moves, within-run}
use Rattle.scan_ops.proofs.run.moves_on.Goals as goal

pub returns-then-at-eq0-clause-check : goal.returns-then-at-eq0-clause-check
returns-then-at-eq0-clause-check c = first-stays c.args.plan.now c.args.step.now.step c.args.t.now c.args.i c.args.at c.args.run.now.states.items c.args.run.now.begun c.if-at-eq0.true

pub returns-in-None-clause-check : goal.returns-in-None-clause-check
returns-in-None-clause-check c =
    let r = c.args.run.now in
    let b = c.index-as_slice-at.result in
    let above : 0 < c.args.at = omega arith in
    let lt : c.args.at - 1 < length r.states.items = omega (arith, within-run c.args.plan.now c.args.t.now.columns c.args.at c.args.step.now r c.requires.step c.requires.run) in
    empty-stays c.args.plan.now c.args.step.now.step c.args.t.now c.args.i c.args.at r.states.items r.begun b above lt (c.index-as_slice-at.is ∙ ap (λ (xs : List StateSeen). get_or xs (c.args.at - 1) b) c.as_slice.ensures.value) (sym c.in-None.ensures.id)

pub returns-in_ok-truth-in-Some-clause-check : goal.returns-in_ok-truth-in-Some-clause-check
returns-in_ok-truth-in-Some-clause-check c =
    let r = c.args.run.now in
    let b = c.index-as_slice-at.result in
    let above : 0 < c.args.at = omega arith in
    let lt : c.args.at - 1 < length r.states.items = omega (arith, within-run c.args.plan.now c.args.t.now.columns c.args.at c.args.step.now r c.requires.step c.requires.run) in
    full-moves c.args.plan.now c.args.step.now.step c.args.t.now c.args.i c.args.at (length c.args.t.now.columns) r.states.items r.begun b c.in-Some.field-0 c.records.result.now c.in_ok-truth-in-Some.truth above lt (c.index-as_slice-at.is ∙ ap (λ (xs : List StateSeen). get_or xs (c.args.at - 1) b) c.as_slice.ensures.value) c.requires.run.states (sym c.in-Some.ensures.id) c.records.ensures.records c.in_ok-truth-in-Some.ensures.truth

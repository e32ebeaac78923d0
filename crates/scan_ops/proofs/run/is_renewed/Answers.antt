use Rattle.std.proofs.Common.{◌<◌, length, sym, arith, inl, inr}
use Rattle.scan_ops.proofs.EmitFacts.{state-at}
use Rattle.scan_ops.proofs.RunFacts.{empty-remains, full-renews, within-run}
use Rattle.scan_ops.proofs.run.is_renewed.Goals as goal

pub returns-then-at-eq0 : goal.returns-then-at-eq0
returns-then-at-eq0 c =
    let r = c.args.run.now in
    let ss = r.states.items in
    let b = c.index-as_slice-at.result in
    let inside = within-run c.args.plan.now c.args.t.now.columns c.args.at c.args.step.now r c.requires.step c.requires.run in
    let here = state-at c.args.at ss c.as_slice.result.now b c.as_slice.ensures.value c.index-as_slice-at.is in
    record {
      check = full-renews c.args.plan.now c.args.step.now.step c.args.t.now c.args.i c.args.at (length c.args.t.now.columns) ss r.begun b c.records.result.now c.in_ok-first.first inside here c.requires.run.states (inl c.if-at-eq0.true) c.records.ensures.records c.in_ok-first.ensures.truth;
    }

pub returns-in-None : goal.returns-in-None
returns-in-None c =
    let r = c.args.run.now in
    let ss = r.states.items in
    let b = c.index-as_slice-at.result in
    let inside = within-run c.args.plan.now c.args.t.now.columns c.args.at c.args.step.now r c.requires.step c.requires.run in
    let above : 0 < c.args.at = omega arith in
    let here = state-at c.args.at ss c.as_slice.result.now b c.as_slice.ensures.value c.index-as_slice-at.is in
    record { check = empty-remains c.args.plan.now c.args.step.now.step c.args.t.now c.args.i c.args.at ss r.begun b above inside here (sym c.in-None.ensures.id) }

pub returns-in_ok-truth-in-Some : goal.returns-in_ok-truth-in-Some
returns-in_ok-truth-in-Some c =
    let r = c.args.run.now in
    let ss = r.states.items in
    let b = c.index-as_slice-at.result in
    let inside = within-run c.args.plan.now c.args.t.now.columns c.args.at c.args.step.now r c.requires.step c.requires.run in
    let above : 0 < c.args.at = omega arith in
    let here = state-at c.args.at ss c.as_slice.result.now b c.as_slice.ensures.value c.index-as_slice-at.is in
    record {
      check = full-renews c.args.plan.now c.args.step.now.step c.args.t.now c.args.i c.args.at (length c.args.t.now.columns) ss r.begun b c.records-in-Some.result.now c.in_ok-truth-in-Some.truth inside here c.requires.run.states (inr (c.in-Some.field-0, above, sym c.in-Some.ensures.id)) c.records-in-Some.ensures.records c.in_ok-truth-in-Some.ensures.truth;
    }

use Rattle.std.proofs.Common.{◌≡◌, ◌<◌, ◌-◌, ◌++◌, List, length, ap, ◌∙◌, arith}
use Rattle.kql_cells.specs.declared.value.Value.{Value}
use Rattle.scan_ops.specs.Runs.{emitted_by_move}
use Rattle.scan_ops.specs.States.{StateSeen}
use Rattle.scan_ops.proofs.EmitFacts.{state-at, state-same, wide-line}
use Rattle.scan_ops.proofs.RunFacts.{moved-count, moved-states, new-width, promoted-turn, within-run}
use Rattle.scan_ops.proofs.run.promote.Goals as goal

pub returns-clause-turn : goal.returns-clause-turn
returns-clause-turn c =
    let p = c.args.plan.now in
    let s = c.args.step.now.step in
    let r = c.args.run.now in
    let ss = r.states.items in
    let at = c.args.at in
    let line = c.in_ok-line.line in
    let inside = within-run p c.args.t.now.columns at c.args.step.now r c.requires.step c.requires.run in
    let below : at - 1 < length ss = omega (arith, inside) in
    let b = c.index-as_slice-at.result in
    let b2 = c.index-as_slice-at-2.result in
    let o = c.index-as_slice-at-3.result in
    let before = state-at (at - 1) ss c.as_slice.result.now b c.as_slice.ensures.value c.index-as_slice-at.is in
    let second = state-at (at - 1) ss c.as_slice-3.result.now b2 c.as_slice-3.ensures.value c.index-as_slice-at-2.is in
    let old = state-at at ss c.as_slice-4.result.now o c.as_slice-4.ensures.value c.index-as_slice-at-3.is in
    let same = state-same (at - 1) ss b2 b below second before in
    let rows : c.emit_move.new.emitted ≡ r.emitted ++ emitted_by_move p s at line b.held o.held =
    c.in_ok-emit_move.ensures.rows
    ∙ (ap (λ (l : List Value). r.emitted ++ emitted_by_move p s at l b2.held o.held) c.as_slice-2.ensures.items
    ∙ ap (λ (x : StateSeen). r.emitted ++ emitted_by_move p s at line x.held o.held) same) in
    promoted-turn p s c.args.t.now c.args.i at (length c.args.t.now.columns) ss c.move_up.new.states.items r.begun r.emitted c.emit_move.new.emitted b o c.records.result.now line
    c.requires.above inside before old c.requires.run.states c.requires.check c.records.ensures.records c.in_ok-line.ensures.line rows c.move_up.ensures.moved

pub returns-clause-run : goal.returns-clause-run
returns-clause-run c =
    let p = c.args.plan.now in
    let r = c.args.run.now in
    let ss = r.states.items in
    let at = c.args.at in
    let w = length c.args.t.now.columns in
    let line = c.in_ok-line.line in
    let wide = new-width c.args.step.now.step c.args.t.now c.args.i c.records.result.now line c.in_ok-line.ensures.line in
    let inside = within-run p c.args.t.now.columns at c.args.step.now r c.requires.step c.requires.run in
    let below : at - 1 < length ss = omega (arith, inside) in
    let b = c.index-as_slice-at.result in
    let before = state-at (at - 1) ss c.as_slice.result.now b c.as_slice.ensures.value c.index-as_slice-at.is in
    record {
      count = moved-count at ss c.move_up.new.states.items line b below before c.move_up.ensures.moved ∙ c.requires.run.count;
      states = moved-states (length p.steps) w at ss c.move_up.new.states.items line b c.requires.run.states c.requires.above inside before wide c.in_ok-line.ensures.form c.move_up.ensures.moved;
      width = wide-line p w c.as_slice-2.result.now line c.emit_move.new.emitted c.as_slice-2.ensures.items wide c.in_ok-emit_move.ensures.width;
    }

use Rattle.std.proofs.Common.{◌≡◌, ◌+◌, ◌++◌, List, length, refl, ap, ◌∙◌, subst, rules}
use Rattle.std.specs.Prelude.{Some, slice_set}
use Rattle.kql_cells.specs.declared.value.Value.{Value}
use Rattle.kql_meaning.specs.Scan.{emitted_at_once, held_rows}
use Rattle.kql_values.specs.Grids.{HaveLength}
use Rattle.scan_ops.specs.Runs.{machine_of, width_of}
use Rattle.scan_ops.specs.States.{StateSeen, begun_with}
use Rattle.scan_ops.proofs.EmitFacts.{held-added-wide, line-wide, more-wide, once-wide, same-wide, state-at, state-in, state-same}
use Rattle.scan_ops.proofs.RunFacts.{begun-states, begun-turn, new-width, set-count, turn_with, within-run}
use Rattle.scan_ops.proofs.run.begin.Goals as goal

pub emit_at_once-requires : goal.emit_at_once-requires
emit_at_once-requires c =
    let p = c.args.plan.now in
    let r = c.args.run.now in
    let n = length p.steps in
    let w = length c.args.t.now.columns in
    let b = c.index-as_slice-at-2.result in
    let lt = within-run p c.args.t.now.columns c.args.at c.args.step.now r c.requires.step c.requires.run in
    let state = state-in n w c.args.at r.states.items c.as_slice-2.result.now b c.requires.run.states c.as_slice-2.ensures.value lt c.index-as_slice-at-2.is in
    let one = held-added-wide p n w c.args.at b r.emitted c.emit_held.new.emitted state c.requires.run.width c.in_ok-emit_held.ensures.rows in
    record { width = line-wide p w c.as_slice-3.result.now c.in_ok-line.line c.emit_held.new.emitted c.as_slice-3.ensures.items (new-width c.args.step.now.step c.args.t.now c.args.i c.records.result.now c.in_ok-line.line c.in_ok-line.ensures.line) one }

pub returns-in_err-emit_at_once-clause-run : goal.returns-in_err-emit_at_once-clause-run
returns-in_err-emit_at_once-clause-run c =
    let p = c.args.plan.now in
    let r = c.args.run.now in
    let n = length p.steps in
    let w = length c.args.t.now.columns in
    let b = c.index-as_slice-at-2.result in
    let lt = within-run p c.args.t.now.columns c.args.at c.args.step.now r c.requires.step c.requires.run in
    let state = state-in n w c.args.at r.states.items c.as_slice-2.result.now b c.requires.run.states c.as_slice-2.ensures.value lt c.index-as_slice-at-2.is in
    let one = held-added-wide p n w c.args.at b r.emitted c.emit_held.new.emitted state c.requires.run.width c.in_ok-emit_held.ensures.rows in
    record {
      count = c.requires.run.count;
      states = c.requires.run.states;
      width = same-wide (width_of p w) c.emit_held.new.emitted c.emit_at_once.new.emitted one c.in_err-emit_at_once.ensures.kept;
    }

pub returns-clause-turn : goal.returns-clause-turn
returns-clause-turn c =
    let p = c.args.plan.now in
    let s = c.args.step.now.step in
    let r = c.args.run.now in
    let ss = r.states.items in
    let at = c.args.at in
    let line = c.in_ok-line.line in
    let inside = within-run p c.args.t.now.columns at c.args.step.now r c.requires.step c.requires.run in
    let b = c.index-as_slice-at.result in
    let b2 = c.index-as_slice-at-2.result in
    let m = c.index_mut.result.now in
    let here = state-at at ss c.as_slice.result.now b c.as_slice.ensures.value c.index-as_slice-at.is in
    let second = state-at at ss c.as_slice-2.result.now b2 c.as_slice-2.ensures.value c.index-as_slice-at-2.is in
    let one : c.emit_held.new.emitted ≡ r.emitted ++ held_rows p (at + 1) b.held =
    c.in_ok-emit_held.ensures.rows ∙ ap (λ (x : StateSeen). r.emitted ++ held_rows p (at + 1) x.held) (state-same at ss b2 b inside second here) in
    let two : c.emit_at_once.new.emitted ≡ c.emit_held.new.emitted ++ emitted_at_once p s line r.begun =
    c.in_ok-emit_at_once.ensures.rows ∙ ap (λ (l : List Value). c.emit_held.new.emitted ++ emitted_at_once p s l r.begun) c.as_slice-3.ensures.items in
    let made : c.begin.new.self ≡ record { size = b.size; held = Some (begun_with r.begun line) } =
    c.begin.ensures.after ∙ ap (λ (x : StateSeen). record { size = x.size; held = Some (begun_with r.begun line) }) (state-same at ss m b inside c.index_mut.ensures.value here) in
    let next : c.in-Some.next ≡ r.begun + 1 = search rules in
    let turn = begun-turn p s c.args.t.now c.args.i at (length c.args.t.now.columns) ss (slice_set ss at c.begin.new.self) r.begun r.emitted c.emit_held.new.emitted c.emit_at_once.new.emitted b c.begin.new.self c.records.result.now line
    c.requires.first inside here c.requires.run.states c.requires.check c.records.ensures.records c.in_ok-line.ensures.line one two refl made in
    ap (λ k. Some (turn_with (machine_of (slice_set ss at c.begin.new.self) k) c.emit_at_once.new.emitted)) next ∙ turn

pub returns-clause-run : goal.returns-clause-run
returns-clause-run c =
    let p = c.args.plan.now in
    let s = c.args.step.now.step in
    let r = c.args.run.now in
    let ss = r.states.items in
    let at = c.args.at in
    let w = length c.args.t.now.columns in
    let n = length p.steps in
    let line = c.in_ok-line.line in
    let wide = new-width s c.args.t.now c.args.i c.records.result.now line c.in_ok-line.ensures.line in
    let inside = within-run p c.args.t.now.columns at c.args.step.now r c.requires.step c.requires.run in
    let b = c.index-as_slice-at.result in
    let b2 = c.index-as_slice-at-2.result in
    let m = c.index_mut.result.now in
    let here = state-at at ss c.as_slice.result.now b c.as_slice.ensures.value c.index-as_slice-at.is in
    let state = state-in n w at ss c.as_slice-2.result.now b2 c.requires.run.states c.as_slice-2.ensures.value inside c.index-as_slice-at-2.is in
    let one = held-added-wide p n w at b2 r.emitted c.emit_held.new.emitted state c.requires.run.width c.in_ok-emit_held.ensures.rows in
    let two : c.emit_at_once.new.emitted ≡ c.emit_held.new.emitted ++ emitted_at_once p s line r.begun =
    c.in_ok-emit_at_once.ensures.rows ∙ ap (λ (l : List Value). c.emit_held.new.emitted ++ emitted_at_once p s l r.begun) c.as_slice-3.ensures.items in
    let fits : HaveLength (width_of p w) (emitted_at_once p s line r.begun) = subst (λ k. HaveLength (width_of p k) (emitted_at_once p s line r.begun)) wide (once-wide p s line r.begun) in
    let made : c.begin.new.self ≡ record { size = b.size; held = Some (begun_with r.begun line) } =
    c.begin.ensures.after ∙ ap (λ (x : StateSeen). record { size = x.size; held = Some (begun_with r.begun line) }) (state-same at ss m b inside c.index_mut.ensures.value here) in
    record {
      count = set-count ss (slice_set ss at c.begin.new.self) at c.begin.new.self refl ∙ c.requires.run.count;
      states = begun-states n w at r.begun ss (slice_set ss at c.begin.new.self) line b c.begin.new.self c.requires.run.states c.requires.first inside here wide c.in_ok-line.ensures.form refl made;
      width = more-wide (width_of p w) c.emit_held.new.emitted c.emit_at_once.new.emitted (emitted_at_once p s line r.begun) one fits two;
    }

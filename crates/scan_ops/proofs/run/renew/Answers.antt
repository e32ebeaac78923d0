use Rattle.std.proofs.Common.{◌≡◌, ◌++◌, List, length, refl, ap, ◌∙◌, subst}
use Rattle.std.specs.Prelude.{option_map, slice_set}
use Rattle.kql_cells.specs.declared.value.Value.{Value}
use Rattle.kql_values.specs.Grids.{HaveLength}
use Rattle.scan_ops.specs.Runs.{emitted_with, width_of}
use Rattle.scan_ops.specs.States.{StateSeen, held_with}
use Rattle.scan_ops.proofs.EmitFacts.{more-wide, state-at, state-same, with-wide}
use Rattle.scan_ops.proofs.RunFacts.{new-width, replaced-states, replaced-turn, set-count, within-run}
use Rattle.scan_ops.proofs.run.renew.Goals as goal

pub returns-clause-turn : goal.returns-clause-turn
returns-clause-turn c =
    let p = c.args.plan.now in
    let s = c.args.step.now.step in
    let r = c.args.run.now in
    let ss = r.states.items in
    let at = c.args.at in
    let line = c.in_ok-line.line in
    let inside = within-run p c.args.t.now.columns at c.args.step.now r c.requires.step c.requires.run in
    let b = c.index-as_slice-at.result in
    let b2 = c.index-as_slice-at-2.result in
    let m = c.index_mut.result.now in
    let here = state-at at ss c.as_slice.result.now b c.as_slice.ensures.value c.index-as_slice-at.is in
    let second = state-at at ss c.as_slice-3.result.now b2 c.as_slice-3.ensures.value c.index-as_slice-at-2.is in
    let rows : c.emit_with.new.emitted ≡ r.emitted ++ emitted_with p s line b.held =
    c.in_ok-emit_with.ensures.rows
    ∙ (ap (λ (l : List Value). r.emitted ++ emitted_with p s l b2.held) c.as_slice-2.ensures.items
    ∙ ap (λ (x : StateSeen). r.emitted ++ emitted_with p s line x.held) (state-same at ss b2 b inside second here)) in
    let made : c.take.new.self ≡ record { size = b.size; held = option_map (held_with at line) b.held } =
    c.take.ensures.after ∙ ap (λ (x : StateSeen). record { size = x.size; held = option_map (held_with at line) x.held }) (state-same at ss m b inside c.index_mut.ensures.value here) in
    replaced-turn p s c.args.t.now c.args.i at (length c.args.t.now.columns) ss (slice_set ss at c.take.new.self) r.begun r.emitted c.emit_with.new.emitted b c.take.new.self c.records.result.now line
    c.requires.above inside here c.requires.run.states c.requires.check c.records.ensures.records c.in_ok-line.ensures.line rows refl made

pub returns-clause-run : goal.returns-clause-run
returns-clause-run c =
    let p = c.args.plan.now in
    let s = c.args.step.now.step in
    let r = c.args.run.now in
    let ss = r.states.items in
    let at = c.args.at in
    let w = length c.args.t.now.columns in
    let n = length p.steps in
    let line = c.in_ok-line.line in
    let wide = new-width s c.args.t.now c.args.i c.records.result.now line c.in_ok-line.ensures.line in
    let inside = within-run p c.args.t.now.columns at c.args.step.now r c.requires.step c.requires.run in
    let b = c.index-as_slice-at.result in
    let b2 = c.index-as_slice-at-2.result in
    let m = c.index_mut.result.now in
    let here = state-at at ss c.as_slice.result.now b c.as_slice.ensures.value c.index-as_slice-at.is in
    let made : c.take.new.self ≡ record { size = b.size; held = option_map (held_with at line) b.held } =
    c.take.ensures.after ∙ ap (λ (x : StateSeen). record { size = x.size; held = option_map (held_with at line) x.held }) (state-same at ss m b inside c.index_mut.ensures.value here) in
    let rows : c.emit_with.new.emitted ≡ r.emitted ++ emitted_with p s line b2.held = c.in_ok-emit_with.ensures.rows ∙ ap (λ (l : List Value). r.emitted ++ emitted_with p s l b2.held) c.as_slice-2.ensures.items in
    let fits : HaveLength (width_of p w) (emitted_with p s line b2.held) = subst (λ k. HaveLength (width_of p k) (emitted_with p s line b2.held)) wide (with-wide p s line b2.held) in
    record {
      count = set-count ss (slice_set ss at c.take.new.self) at c.take.new.self refl ∙ c.requires.run.count;
      states = replaced-states n w at ss (slice_set ss at c.take.new.self) line b c.take.new.self c.requires.run.states inside here wide c.in_ok-line.ensures.form refl made;
      width = more-wide (width_of p w) r.emitted c.emit_with.new.emitted (emitted_with p s line b2.held) c.requires.run.width fits rows;
    }

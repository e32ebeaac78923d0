use Rattle.std.proofs.Common.{◌<◌, ◌∙◌, ap, length, rules, subst, sym}
use Rattle.summarize_pieces.specs.Pieces.{Grouped}
use Rattle.summarize_pieces.proofs.FinishSteps.{lines-end, lines-start, lines-step, lines-wide}
use Rattle.summarize_pieces.proofs.PlanSteps.{Fits}
use Rattle.summarize_pieces.proofs.finish.group_rows.Goals as goal

pub groups-init : goal.groups-init
groups-init c = λ t whole named is. lines-start c.args.g.now t c.args.none c.requires.none

pub group_line-requires-clause-within : goal.group_line-requires-clause-within
group_line-requires-clause-within c = subst (λ n. c.groups.k < n) (c.len-k-end.ensures.count ∙ ap (λ (y : Grouped). length y.keys) c.x.view_is) c.groups-test.true

pub push_row-requires : goal.push_row-requires
push_row-requires c =
    let g = c.args.g.now in
    let h = c.requires.groups in
    let lt = subst (λ n. c.groups.k < n) (c.len-k-end.ensures.count ∙ ap (λ (y : Grouped). length y.keys) c.x.view_is) c.groups-test.true in
    lines-wide g h.table c.args.x.now c.groups.k c.in_ok-line.line c.groups.rows h.whole (subst (Fits g) (sym h.named) c.requires.fits) h.groups lt (c.in_ok-line.ensures.line h.table h.whole h.named h.groups) (c.groups.invariant h.table h.whole h.named h.groups)

pub groups-preserved : goal.groups-preserved
groups-preserved c =
    let lt = subst (λ n. c.groups.k < n) (c.len-k-end.ensures.count ∙ ap (λ (y : Grouped). length y.keys) c.x.view_is) c.groups-test.true in
    λ t whole named is. lines-step c.args.g.now t c.args.x.now c.groups.k c.in_ok-line.line c.groups.rows c.push_row.new.self is lt (c.groups.invariant t whole named is) (c.in_ok-line.ensures.line t whole named is) c.in_ok-push_row.ensures.added

pub returns : goal.returns
returns c = record {
  rows = λ t whole named is. lines-end c.args.g.now t c.args.x.now c.groups.k c.groups.rows is (search rules) (c.groups.invariant t whole named is);
}

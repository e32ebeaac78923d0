use Rattle.std.proofs.Common.{rules}
use Rattle.summarize_pieces.proofs.FirstSteps.{behind-one, columns-end, columns-more, columns-start, given-next}
use Rattle.summarize_pieces.proofs.finish.push_firsts.Goals as goal

pub columns-init : goal.columns-init
columns-init c = record {
  made = λ u h. (columns-start c.args.columns.now u c.args.line.now, h);
  form = c.requires.form;
}

pub columns-preserved : goal.columns-preserved
columns-preserved c = record {
  made = λ u h.
      let before = c.columns.invariant.made u h in
      let own = given-next c.args.columns.now c.columns.j u c.columns.rest.now c.behind_first-next.result.now c.columns-test.true before.1 c.behind_first-next.ensures in
      (columns-more c.args.columns.now c.columns.j u c.args.line.now c.columns.rest.now c.columns.line c.push.new.self c.in_ok-value.value c.columns-test.true before.0 own.0 c.in_ok-value.ensures.value c.in_ok-push.ensures.added, own.1);
  form = behind-one c.columns.rest.now c.behind_first-next.result.now c.columns.invariant.form c.behind_first-next.ensures;
}

pub returns : goal.returns
returns c = record { pushed = λ u h. columns-end c.args.columns.now c.columns.j u c.args.line.now c.columns.line (search rules) (c.columns.invariant.made u h).0 }

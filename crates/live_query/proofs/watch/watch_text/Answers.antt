use Rattle.std.proofs.Common.{◌∙◌, ◌+◌, ◌++◌, ap, arith, length}
use Rattle.live_tables.specs.Growing.{with_rows}
use Rattle.live_query.specs.LiveMeaning.{live_means}
use Rattle.live_query.specs.Watching.{shown, shown_after}
use Rattle.std.proofs.lemmas.Option.{MatchOption-at_none}
use Rattle.live_query.proofs.WatchFacts.{kinds-fit, rest-fits, same-columns, watch-begins, watch-ends, watch-next}
use Rattle.live_query.proofs.watch.watch_text.Goals as goal

pub grown-init : goal.grown-init
grown-init c = record {
  count = omega arith;
  columns = ap (λ t. t.columns) c.in_ok-table.ensures.same;
  fits = c.requires.columns;
  shown =
      watch-begins (live_means c.args.query.now) c.args.opening.now c.in_ok-table.table c.args.batches.now c.new-out.result.items c.push_shown.new.out.items c.in_ok-before.before c.in_ok-table.ensures.same c.in_ok-before.ensures.text c.new-out.ensures.items
      (c.in_ok-push_shown.ensures.shown ∙ ap (λ t. c.new-out.result.items ++ shown 0 t) c.as_slice.ensures.items);
}

pub append-requires : goal.append-requires
append-requires c =
    kinds-fit c.args.opening.now c.grown.table c.in-Some.batch.now c.in_ok-copy.field-0 c.grown.left.now c.in-Some.more.now c.in-Some.ensures.cases.0 c.grown.invariant.fits c.grown.invariant.columns c.in_ok-copy.ensures.same

pub grown-preserved : goal.grown-preserved
grown-preserved c =
    let is = c.in-Some.ensures.cases.0 in
    let size = ap length is in
    let grown = c.in_ok-append.ensures.added ∙ ap (λ b. with_rows c.grown.table b) c.in_ok-copy.ensures.same in
    let more = c.in_ok-push_changed.ensures.shown
    ∙ (ap (λ t. c.grown.out.items ++ shown_after t (c.grown.count + 1) c.as_slice-in-Some-2.result.now) c.as_slice-in-Some.ensures.items
    ∙ ap (λ t. c.grown.out.items ++ shown_after c.grown.before (c.grown.count + 1) t) c.as_slice-in-Some-2.ensures.items) in
    record {
      count = omega (arith, size, c.grown.invariant.count);
      columns = same-columns c.args.opening.now c.grown.table c.append.new.self c.in-Some.batch.now c.grown.invariant.columns grown;
      fits = rest-fits c.args.opening.now c.in-Some.batch.now c.grown.left.now c.in-Some.more.now is c.grown.invariant.fits;
      shown =
          watch-next (live_means c.args.query.now) c.grown.count c.grown.before c.in_ok-text.text c.grown.out.items c.push_changed.new.out.items _ c.grown.table c.append.new.self c.in-Some.batch.now c.grown.left.now c.in-Some.more.now
          is grown c.in_ok-text.ensures.text more c.grown.invariant.shown;
    }

pub returns : goal.returns
returns c = record {
  text =
      c.from_vec.ensures.items
      ∙ watch-ends (live_means c.args.query.now) c.grown.count c.grown.before c.grown.out.items _ c.grown.table c.grown.left.now (MatchOption-at_none _ _ c.in_default.is c.split_first.ensures.cases) c.grown.invariant.shown;
}

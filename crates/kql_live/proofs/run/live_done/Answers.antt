use Rattle.std.proofs.Common.{◌∙◌, All, ap, fold, subst}
use Rattle.live_query.specs.LiveMeaning.{live_means}
use Rattle.live_run.specs.Sights.{IsSeenList}
use Rattle.live_tables.specs.Growing.{with_rows}
use Rattle.kql_live.proofs.LiveRunFacts.{text-is}
use Rattle.kql_live.proofs.run.live_done.Goals as goal

pub returns-clause-text : goal.returns-clause-text
returns-clause-text g c =
    let rows = c.in_ok-seen.ensures.table ∙ ap (λ bs. live_means c.args.bound.query (fold with_rows c.args.bound.opening bs)) c.as_slice.ensures.items in
    text-is c.args.options.watch c.args.bound c.in_ok-watched.watched _ c.in_ok-seen.field-0.table c.in_ok-watched.ensures.watched rows c.in_ok-text.ensures.text

pub returns-clause-seen : goal.returns-clause-seen
returns-clause-seen g c = record {
  count = c.in_ok-seen.ensures.count;
  each = subst (λ bs. All (IsSeenList (live_means c.args.bound.query) c.args.bound.opening bs) c.in_ok-seen.field-0.seen) c.as_slice.ensures.items c.in_ok-seen.ensures.seen;
}

use Rattle.open_quotes.proofs.QuoteFacts.{first-opened, first-stands, stands-more, turn}
use Rattle.open_quotes.proofs.quotes.open_quote.Goals as goal

pub loop-i-init : goal.loop-i-init
loop-i-init c = record {
  stands = first-stands c.without_mark-text.result.now;
  opened = first-opened c.without_mark-text.result.now 0;
}

pub loop-i-preserved : goal.loop-i-preserved
loop-i-preserved c =
    let text = c.without_mark-text.result.now in
    record {
      stands = stands-more text c.loop-i.i c.loop-i.place c.place_behind-next.result c.loop-i-test.true c.loop-i.invariant.stands c.place_behind-next.ensures.step;
      opened = turn text c.loop-i.i c.loop-i.opened c.opened_behind-opened.result c.loop-i.place c.place_behind-next.result c.loop-i-test.true c.loop-i.invariant.stands c.loop-i.invariant.opened c.place_behind-next.ensures.step c.opened_behind-opened.ensures;
    }

use Rattle.std.proofs.Common.{◌≡◌}
use Rattle.csv_io.proofs.LinesFacts.{back-none, lines-none}
use Rattle.csv_io.proofs.printed.push_part.Goals as goal

pub returns-then-from-at-clause-text : goal.returns-then-from-at-clause-text
returns-then-from-at-clause-text c = lines-none c.args.t.now c.args.at c.args.out.now.items

pub returns-then-from-at-clause-back : goal.returns-then-from-at-clause-back
returns-then-from-at-clause-back c = back-none c.args.t.now.lines c.args.at

pub returns : goal.returns
returns c =
    let same : c.into_parts-from.result.0 ≡ c.args.at = c.if-from-at.false in
    let part = rw (c.requires.part, same) at c.into_parts-from.ensures in
    record {
      order = part.order;
      within = part.within;
      text = rw (c.as_slice.ensures.items, part.prints) at c.in_ok-extend_from_slice.ensures.items;
      back = part.back;
    }

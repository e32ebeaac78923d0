use Rattle.std.proofs.Common.{◌≡◌, Some, length, refl}
use Rattle.std.proofs.lemmas.List.Elements.{All-pop}
use Rattle.csv_io.proofs.LinesFacts.{backs-all, backs-more, lines-all, ranges-more}
use Rattle.kql_cells.specs.Table.{Grid}
use Rattle.csv_io.proofs.printed.push_printed.Goals as goal

pub push_part-requires-clause-part : goal.push_part-requires-clause-part
push_part-requires-clause-part c = (All-pop (λ (p : Grid). p ≡ c.args.t.now) _ _ (Some c.in-Some.next) c.in-Some.ensures.last c.parts.invariant.left).1

pub parts-preserved : goal.parts-preserved
parts-preserved c =
    let t = c.args.t.now in
    let q = All-pop (λ (p : Grid). p ≡ t) _ _ (Some c.in-Some.next) c.in-Some.ensures.last c.parts.invariant.left in
    let part = c.in_ok-at.ensures in
    record {
      within = part.within;
      text = ranges-more t c.parts.at c.in_ok-at.at c.args.out.now.items c.parts.out.items _ _ c.parts.invariant.text part.order refl part.text;
      back = backs-more t.lines c.parts.at c.in_ok-at.at part.order c.parts.invariant.back part.back;
      left = q.0;
    }

pub returns : goal.returns
returns c =
    let t = c.args.t.now in
    let n = length t.lines in
    let text = rw c.len.ensures.count at c.in_ok-push_range.ensures.text in
    let back = rw c.len.ensures.count at c.in_ok-push_range.ensures.back in
    record {
      text = lines-all t c.args.out.now.items _ n refl (ranges-more t c.parts.at n c.args.out.now.items c.parts.out.items _ _ c.parts.invariant.text c.parts.invariant.within refl text);
      back = backs-all t.lines n refl (backs-more t.lines c.parts.at n c.parts.invariant.within c.parts.invariant.back back);
    }

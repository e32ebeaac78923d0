use Rattle.std.proofs.Common.{◌≡◌, ◌≤◌, ◌∙◌, Some, ap, arith, length, map}
use Rattle.std.proofs.lemmas.List.Elements.{All-pop}
use Rattle.pattern_ops.specs.Answers.{answer_to}
use Rattle.pattern_workers.specs.Ranges.{Finds, IsRanged}
use Rattle.pattern_workers.proofs.answers.join.Goals as goal

pub parts-preserved : goal.parts-preserved
parts-preserved g c =
    let cells = c.args.cells.now in
    let find : Finds = g.P.Pattern.finds c.args.pattern.now in
    let q = All-pop (IsRanged find c.args.group cells) _ _ (Some c.in-Some.next) c.in-Some.ensures.last c.parts.invariant.left in
    let part = q.1 in
    let same : c.in-Some.next.range.from ≡ c.parts.at = c.if-next-at.false in
    let order : c.parts.at ≤ c.in-Some.next.range.to = rw same at part.order in
    record {
      within = part.inside;
      values = rw c.in_ok-append.ensures.added
          (c.law_of_ranges.ensures.values (Some find) c.args.group cells c.parts.answers c.in-Some.next.answers 0 c.parts.at c.in-Some.next.range.to (omega arith) order c.parts.invariant.values
          (rw same at part.values));
      fits = rw c.in_ok-append.ensures.added
          (c.law_of_ranges.ensures.fits c.args.group cells c.parts.answers c.in-Some.next.answers 0 c.parts.at c.in-Some.next.range.to (omega arith) order c.parts.invariant.fits (rw same at part.fits));
      left = q.0;
    }

pub returns-clause-values : goal.returns-clause-values
returns-clause-values g c =
    let cells = c.args.cells.now in
    let find : Finds = g.P.Pattern.finds c.args.pattern.now in
    let rest = rw c.len.ensures.count at c.in_ok-rest.ensures.values in
    let joined = c.law_of_ranges.ensures.values (Some find) c.args.group cells c.parts.answers c.in_ok-rest.rest 0 c.parts.at (length cells) (omega arith) c.parts.invariant.within c.parts.invariant.values rest in
    c.in_ok-append-2.ensures.added ∙ (joined ∙ ap (map (answer_to find c.args.group)) (c.law_of_ranges.ensures.whole cells))

pub returns-clause-fits : goal.returns-clause-fits
returns-clause-fits g c =
    let cells = c.args.cells.now in
    let rest = rw c.len.ensures.count at c.in_ok-rest.ensures.fits in
    let joined = c.law_of_ranges.ensures.fits c.args.group cells c.parts.answers c.in_ok-rest.rest 0 c.parts.at (length cells) (omega arith) c.parts.invariant.within c.parts.invariant.fits rest in
    let whole = c.law_of_ranges.ensures.whole cells in
    let all = rw whole at joined in
    rw c.in_ok-append-2.ensures.added all

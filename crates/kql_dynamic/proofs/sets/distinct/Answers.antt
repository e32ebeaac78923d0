use Rattle.std.proofs.Common.{◌≡◌, ◌<◌, ◌+◌, ◌++◌, ◌∷◌, ◌∙◌, [], Bor, map, take, length, not, sym, ap, arith}
use Rattle.std.proofs.lemmas.Grind.{common_steps}
use Rattle.std.proofs.lemmas.List.{map-append, take_more}
use Rattle.kql_cells.specs.declared.dynamic.Dyn.{Dyn}
use Rattle.kql_dynamic.specs.Sets.{is_among}
use Rattle.kql_dynamic.proofs.SetFormLaws.{among-push, distinct-step}
use Rattle.kql_dynamic.proofs.sets.distinct.Goals as goal

pub loop-part-preserved : goal.loop-part-preserved
loop-part-preserved c =
    let lt : c.loop-part.part-index < length c.args.parts.now = grind (arith, common_steps) in
    let now : Bor Dyn → Dyn = λ d. d.now in
    let done = take c.loop-part.part-index c.args.parts.now in
    let x = c.part-item.result in
    let more : map now (take (c.loop-part.part-index + 1) c.args.parts.now) ≡ map now done ++ x.now ∷ [] =
    ap (map now) (take_more c.args.parts.now c.loop-part.part-index x lt ∙ ap (λ (y : Bor Dyn). done ++ y ∷ []) (sym c.part-item.is)) ∙ map-append now done (x ∷ []) in
    let added : c.in_ok-added.added ≡ not (is_among (map now done) x.now) = rw c.new.ensures at c.in_ok-added.ensures.added ∙ ap not (c.loop-part.invariant.seen x.now) in
    record {
      seen = λ d. rw (c.in_ok-added.ensures.updates.0 d, c.new.ensures, more, c.loop-part.invariant.seen d) (among-push (map now done) x.now d);
      list = rw more (distinct-step (map now done) x.now c.loop-part.list c.push_if.new.list c.in_ok-added.added c.loop-part.invariant.list added c.in_ok-push_if.ensures);
    }

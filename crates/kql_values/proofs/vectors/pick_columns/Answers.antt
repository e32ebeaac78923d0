use Rattle.std.proofs.Common.{◌≡◌, [], get_or, subst, sym, ap, ◌∙◌}
use Rattle.std.proofs.Math.ListN.{set}
use Rattle.std.proofs.lemmas.List.{get_or_default}
use Rattle.kql_values.proofs.TableLaws.{agree-first, pick-step}
use Rattle.kql_values.proofs.vectors.pick_columns.Goals as goal

pub loop-k-init : goal.loop-k-init
loop-k-init c = record { picked = c.in_ok-picked.ensures.items; rest = agree-first c.args.columns.items }

pub loop-k-preserved : goal.loop-k-preserved
loop-k-preserved c =
    let places = c.args.places.now in
    let rest = c.loop-k.rest.items in
    let j = get_or places c.loop-k.k 0 in
    let at : j ≡ get_or places c.loop-k.k j = get_or_default places c.loop-k.k 0 j c.loop-k-test.true in
    let read : c.replace-column.result ≡ get_or rest j c.replace-column.result = subst (λ y. y ≡ get_or rest j y) (sym c.replace-column.ensures.value) c.index_mut.ensures.value in
    let left : set rest j c.replace-column.new.dest ≡ set rest j [] = ap (set rest j) (c.replace-column.ensures.after ∙ c.new.ensures.empty) in
    let step = pick-step places c.args.columns.items rest (set rest j c.replace-column.new.dest) c.loop-k.picked.items c.push.new.self.items c.loop-k.k j c.replace-column.result c.loop-k-test.true c.requires.distinct c.requires.within at c.loop-k.invariant.picked c.loop-k.invariant.rest read c.in_ok-push.ensures.items left in
    record { picked = step.0; rest = step.1 }

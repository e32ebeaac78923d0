use Rattle.std.proofs.Common.{◌≡◌, ◌<◌, ◌+◌, ◌++◌, ◌∷◌, ◌∙◌, [], take, length, sym, ap, arith}
use Rattle.std.proofs.lemmas.Grind.{common_steps}
use Rattle.std.proofs.lemmas.List.{take_more}
use Rattle.kql_cells.specs.declared.dynamic.Dyn.{Dyn}
use Rattle.kql_dynamic.proofs.SetFormLaws.{among-push}
use Rattle.kql_dynamic.proofs.sets.set_of.Goals as goal

pub loop-part-preserved : goal.loop-part-preserved
loop-part-preserved c = λ d.
    let lt : c.loop-part.part-index < length c.args.parts.now = grind (arith, common_steps) in
    let x = c.part-item.result in
    let more : take (c.loop-part.part-index + 1) c.args.parts.now ≡ take c.loop-part.part-index c.args.parts.now ++ x ∷ [] =
    take_more c.args.parts.now c.loop-part.part-index x lt ∙ ap (λ (y : Dyn). take c.loop-part.part-index c.args.parts.now ++ y ∷ []) (sym c.part-item.is) in
    rw (c.in_ok-insert.ensures.updates.0 d, c.new.ensures, more, c.loop-part.invariant d) (among-push (take c.loop-part.part-index c.args.parts.now) x d)

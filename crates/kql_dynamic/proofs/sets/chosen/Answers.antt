use Rattle.std.proofs.Common.{◌≡◌, ◌<◌, ◌∙◌, Bor, Vec, Global, map, length, ap, arith}
use Rattle.std.proofs.lemmas.Grind.{common_steps}
use Rattle.std.proofs.lemmas.List.{map-append}
use Rattle.kql_cells.specs.declared.dynamic.Dyn.{Dyn}
use Rattle.kql_dynamic.specs.Sets.{is_among}
use Rattle.kql_dynamic.proofs.SetFormLaws.{chosen-left, chosen-taken}
use Rattle.kql_dynamic.proofs.sets.chosen.Goals as goal
use Rattle.kql_dynamic.proofs.sets.chosen.Goals.{then-contains-wanted+in_ok-push, else-contains-wanted}

pub loop-part-preserved : goal.loop-part-preserved
loop-part-preserved c =
    let lt : c.loop-part.part-index < length c.args.first.now = grind (arith, common_steps) in
    let now : Bor Dyn → Dyn = λ d. d.now in
    let x = c.part-item.result in
    let among : c.contains.result ≡ is_among c.args.second.now x = rw c.new.ensures at c.contains.ensures ∙ c.in_ok-others.ensures x in
    elim c.if-contains-wanted.branch [
      | then-contains-wanted+in_ok-push w ↦
          chosen-taken c.args.wanted c.args.first.now c.args.second.now c.loop-part.part-index x (map now c.loop-part.kept.items) _ c.contains.result lt c.part-item.is c.loop-part.invariant among
          w.if-contains-wanted.true (ap (λ (v : Vec (Bor Dyn) Global). map now v.items) w.kept-is ∙ (ap (map now) w.in_ok-push.ensures.items ∙ map-append now c.loop-part.kept.items _))
      | else-contains-wanted w ↦
          chosen-left c.args.wanted c.args.first.now c.args.second.now c.loop-part.part-index x (map now c.loop-part.kept.items) _ c.contains.result lt c.part-item.is c.loop-part.invariant among
          w.if-contains-wanted.false (ap (λ (v : Vec (Bor Dyn) Global). map now v.items) w.kept-is)
    ]

use Rattle.std.proofs.Common.{◌∷◌, ◌++◌, ◌∙◌, [], ap, arith, sym, take}
use Rattle.std.proofs.lemmas.List.{take_more}
use Rattle.bind_groups.specs.Names.{written}
use Rattle.bind_groups.proofs.NameSteps.{written-more}
use Rattle.bind_groups.proofs.names.all_written.Goals as goal

pub loop-n-preserved : goal.loop-n-preserved
loop-n-preserved c =
    let names = c.args.names.now in
    let so_far = take c.loop-n.n-index names in
    let more = take_more names c.loop-n.n-index c.n-item.result (omega (arith, c.loop-n-test.true)) in
    written-more so_far c.n-item.result c.loop-n.all c.in_ok-all.all c.loop-n.invariant c.in_ok-all.ensures.added
    ∙ ap written (ap (λ n. so_far ++ n ∷ []) c.n-item.is ∙ sym more)

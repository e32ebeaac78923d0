use Rattle.std.proofs.Common.{◌≡◌, ◌<◌, ◌+◌, ◌++◌, ◌∷◌, ◌∙◌, [], take, length, sym, ap, arith}
use Rattle.std.proofs.lemmas.Grind.{common_steps}
use Rattle.std.proofs.lemmas.List.{take_more}
use Rattle.kql_cells.specs.declared.value.Value.{Value}
use Rattle.kql_scalar.proofs.ListSteps.{key-more}
use Rattle.kql_scalar.proofs.list_keys.key_set.Goals as goal

pub loop-value-preserved : goal.loop-value-preserved
loop-value-preserved c = λ v.
    let lt : c.loop-value.value-index < length c.args.values.now = grind (arith, common_steps) in
    let x = c.value-item.result in
    let more : take (c.loop-value.value-index + 1) c.args.values.now ≡ take c.loop-value.value-index c.args.values.now ++ x ∷ [] =
    take_more c.args.values.now c.loop-value.value-index x lt ∙ ap (λ (y : Value). take c.loop-value.value-index c.args.values.now ++ y ∷ []) (sym c.value-item.is) in
    rw (c.in_ok-insert.ensures.updates.0 v, c.new.ensures, c.as_cell.ensures.same, more, c.loop-value.invariant v) (key-more (take c.loop-value.value-index c.args.values.now) x v)

use Rattle.std.proofs.Common.{rules, ◌==◌, ap, sym, ◌∙◌}
use Rattle.std.specs.List.{list_any}
use Rattle.row_ops.proofs.MovedFacts.{moved-step}
use Rattle.row_ops.proofs.moved.moved_places.Goals as goal

-- src/moved.rt:25:5
pub items-preserved : goal.items-preserved
items-preserved c =
    moved-step c.args.schema.now c.args.items.now c.items.item-index c.item-item.result c.items.places c.push.new.self c.in-Some.place (search rules) c.item-item.is c.items.invariant c.in-Some.ensures.place
    (ap (list_any (λ p. p == c.in-Some.place)) (sym c.as_slice.ensures.items) ∙ (sym c.contains.ensures.value ∙ c.if-contains.false))
    c.in_ok-push.ensures.added

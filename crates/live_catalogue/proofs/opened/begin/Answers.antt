use Rattle.std.proofs.Common.{◌≡◌, drop, [], ◌∷◌, false, rules}
use Rattle.left_right.specs.Sides.{view}
use Rattle.live_catalogue.specs.declared.value.Change.TheVariants.{Begin}
use Rattle.live_catalogue.specs.Moves.{nothing}
use Rattle.live_catalogue.proofs.Steps.{begins_at}
use Rattle.live_catalogue.proofs.opened.begin.Goals as goal

pub publish_as-writer-requires : goal.publish_as-writer-requires
publish_as-writer-requires g c next is =
    let new = c.append.new.self in
    let blank : view new.desk.place ≡ nothing = search rules in
    let none : new.desk.shown.value.batches ≡ 0 = search rules in
    let fresh : new.desk.shown.value.begun ≡ false = search rules in
    let one : drop new.behind new.log.items ≡ Begin ∷ [] = search rules in
    begins_at g.V.Grows.grown g.K.Promise.promised _ _ new.desk.shown.value next (drop new.behind new.log.items) blank none fresh one is

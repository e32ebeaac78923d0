use Rattle.std.proofs.Common.{◌≡◌, ◌<◌, ◌≤◌, ◌++◌, length, refl, ap, subst, sym, ◌∙◌, arith, length-append, is_ok, if◌then◌else◌}
use Rattle.worker_board.specs.Counts.{times, once_below}
use Rattle.worker_board.proofs.RuleKept.{glues, bounds}
use Rattle.worker_board.proofs.Sits.{at_hand, taken_over}
use Rattle.worker_board.proofs.board.Board.give_back.Goals as goal

pub join_seat-requires : goal.join_seat-requires
join_seat-requires c =
    let some_number : 0 < length c.into.inside.place.me.0.numbers = omega (arith, c.into.invariant.held, c.into.invariant.some_held) in (
      (at_hand _ _ _ _ c.self.view_is c.into.view_is c.requires.into).table,
      (at_hand _ _ _ _ c.self.view_is c.seat.view_is c.requires.seat).table,
      c.seat.invariant.empty_handed,
      omega (arith, c.self.invariant.words),
      glues c.self.inside.table.shared.key _ _ _ _ some_number,
    )

pub load-requires : goal.load-requires
load-requires c =
    let more : 0 < length (c.into.inside.place.me.0.numbers ++ c.seat.inside.place.me.0.numbers) = omega (arith, c.into.invariant.held, c.into.invariant.some_held, length-append c.into.inside.place.me.0.numbers c.seat.inside.place.me.0.numbers) in (
      c.join_seat.ensures.0 ∙ (at_hand _ _ _ _ c.self.view_is c.into.view_is c.requires.into).table,
      omega (arith, c.self.invariant.words),
      bounds c.self.inside.table.shared.key _ _ _ (subst (λ m. 0 < length m.0.numbers) (sym c.join_seat.ensures.2) more),
    )

pub overflow_add-into : goal.overflow_add-into
overflow_add-into c =
    let joined : length c.join_seat.new.seat.me.0.numbers ≡ length (c.into.inside.place.me.0.numbers ++ c.seat.inside.place.me.0.numbers) = ap (λ m. length m.0.numbers) c.join_seat.ensures.2 in
    omega (arith, c.load.ensures.2.2, joined, length-append c.into.inside.place.me.0.numbers c.seat.inside.place.me.0.numbers, c.into.invariant.held, c.seat.invariant.held)

pub invariant_of-into : goal.invariant_of-into
invariant_of-into c =
    let items = c.append.ensures.items ∙ ap (λ r. if is_ok r then c.into.inside.claims.items ++ c.seat.inside.claims.items else c.into.inside.claims.items) c.unwrap.ensures in
    taken_over c.into.inside c.seat.inside _ c.into.invariant c.seat.invariant (c.load.ensures.2.0 ∙ c.join_seat.ensures.2) items refl refl (λ w. subst (λ m. times w m.0.numbers ≤ once_below w m.0.size.workers) (sym c.load.ensures.2.0) (c.load.ensures.2.3 w)) (omega (arith, c.into.invariant.room, c.append.ensures.capacity)) c.min-into-inside.ensures refl refl refl

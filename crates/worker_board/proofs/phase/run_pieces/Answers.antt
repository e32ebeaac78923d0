use Rattle.std.proofs.Common.{◌∙◌, ap, arith}
use Rattle.worker_board.specs.declared.known.Size.{Size}
use Rattle.worker_board.proofs.AllDone.{all_ready, seats_counted, all_done, names_all, names_below, right_all}
use Rattle.worker_board.proofs.phase.run_pieces.Goals as goal

pub desks_of-requires : goal.desks_of-requires
desks_of-requires g c = record { ready = all_ready _ _ _ c.in_ok-board.ensures.seats }

pub fork-requires-clause-some : goal.fork-requires-clause-some
fork-requires-clause-some g c κs within = omega (arith, seats_counted _ _ _ c.in_ok-board.ensures.seats, c.in_ok-desks.ensures.count, c.requires.workers.0)

pub gather-requires-clause-some : goal.gather-requires-clause-some
gather-requires-clause-some g c = omega (arith, seats_counted _ _ _ c.in_ok-board.ensures.seats, c.in_ok-desks.ensures.count, c.fork.ensures.count, c.requires.workers.0)

pub close-gathered-requires-clause-whole : goal.close-gathered-requires-clause-whole
close-gathered-requires-clause-whole g c = (
  omega (arith, seats_counted _ _ _ c.in_ok-board.ensures.seats, c.in_ok-seat.ensures.numbers, c.fork.ensures.count, c.in_ok-desks.ensures.count, c.in_ok-board.ensures.size.1),
  (all_done _ _ _ c.in_ok-seat.ensures.left c.if-has_stopped.ensures.stopped.1).0,
)

pub in_order-requires-clause-all : goal.in_order-requires-clause-all
in_order-requires-clause-all g c =
    names_all _ _ _ c.in_ok-seat.ensures.left c.if-has_stopped.ensures.stopped.1 _ _ _ c.close-gathered.ensures.claims c.close-gathered.ensures.each
    (ap (λ (z : Size). z.pieces) c.close-gathered.ensures.size ∙ c.in_ok-board.ensures.size.0)

pub in_order-requires-clause-below : goal.in_order-requires-clause-below
in_order-requires-clause-below g c =
    names_below _ _ _ c.in_ok-seat.ensures.left c.if-has_stopped.ensures.stopped.1 _ _ _ c.close-gathered.ensures.claims c.close-gathered.ensures.each
    (ap (λ (z : Size). z.pieces) c.close-gathered.ensures.size ∙ c.in_ok-board.ensures.size.0)

pub in_order-requires-clause-right : goal.in_order-requires-clause-right
in_order-requires-clause-right g c = right_all _ _ _ c.in_ok-seat.ensures.left c.if-has_stopped.ensures.stopped.1

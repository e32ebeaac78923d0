use Rattle.std.proofs.Common.{Some, arith}
use Rattle.std.proofs.lemmas.List.Elements.{All-pop}
use Rattle.worker_board.specs.Results.{IsReady}
use Rattle.worker_board.proofs.AllDone.{one_waiting}
use Rattle.worker_board.proofs.phase.desks_of.Goals as goal

pub loop-seat-preserved : goal.loop-seat-preserved
loop-seat-preserved g c =
    let each = All-pop (IsReady c.args.board.now) _ _ (Some c.in-Some.seat) c.in-Some.ensures.items c.loop-seat.invariant.left in
    record {
      left = each.0;
      waiting = one_waiting _ _ _ _ c.in_ok-push.ensures.items c.loop-seat.invariant.waiting (each.1, c.new.ensures.items);
      count = omega (arith, c.in-Some.ensures.len, c.in_ok-push.ensures.len, c.loop-seat.invariant.count);
    }

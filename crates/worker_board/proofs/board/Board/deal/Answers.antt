use Rattle.std.proofs.Common.{◌≡◌, ◌<◌, ◌-◌, ap, sym, ◌∙◌, arith}
use Rattle.worker_board.specs.declared.known.Size.{Size}
use Rattle.worker_board.specs.Views.{BoardView}
use Rattle.worker_board.specs.Moves.{only}
use Rattle.worker_board.proofs.RuleKept.{cuts}
use Rattle.worker_board.proofs.Deals.{dealt_more, fresh_left, size_left, others_left}
use Rattle.worker_board.proofs.board.Board.deal.Goals as goal

pub split_seat-one-requires : goal.split_seat-one-requires
split_seat-one-requires c = (
  c.loop-w.invariant.board ∙ sym (ap (λ (r : BoardView). r.id) c.self.view_is),
  omega (arith, c.self.invariant.words),
  cuts c.self.inside.table.shared.key _ _ (fresh_left _ _ _ (ap (λ m. m.0) c.loop-w.invariant.left)),
)

pub loop-w-preserved : goal.loop-w-preserved
loop-w-preserved c =
    let workers = ap (λ (r : BoardView). r.size.workers) c.self.view_is in
    let left = ap (λ m. m.0) c.loop-w.invariant.left in
    let lt : c.loop-w.w < c.args.self.now.size.workers = omega (arith, workers, c.loop-w-test.true) in
    let size = ap (λ m. m.0.size) c.split_seat-one.ensures.4 ∙ size_left _ _ _ left in
    record {
      board = c.split_seat-one.ensures.0 ∙ c.loop-w.invariant.board;
      left = c.split_seat-one.ensures.2 ∙ (λ i. (others_left _ _ _ left lt i, ap (λ m. m.1) c.loop-w.invariant.left i));
      dealt = c.in_ok-push.ensures.items ∙ dealt_more c.args.self.now c.loop-w.w _ _ c.in_ok-seated.field-0 (omega arith) c.loop-w.invariant.dealt
          (c.in_ok-seated.ensures.seat.0 ∙ c.split_seat-one.ensures.3 ∙ c.loop-w.invariant.board) (c.in_ok-seated.ensures.seat.1 ∙ ap (λ (k : Size). only k c.loop-w.w) size);
    }

pub returns : goal.returns
returns c =
    let workers = ap (λ (r : BoardView). r.size.workers) c.self.view_is in
    let size = size_left _ _ _ (ap (λ m. m.0) c.loop-w.invariant.left) in
    let last : c.loop-w.w ≡ c.self.inside.size.workers - 1 = omega (arith, c.loop-w-test.false, c.loop-w.auto.w-end, workers) in
    record {
      seats =
          c.in_ok-push-2.ensures.items ∙ dealt_more c.args.self.now c.loop-w.w _ _ c.in_ok-seated-2.field-0 (omega (arith, workers, last, c.requires.workers.0)) c.loop-w.invariant.dealt
          (c.in_ok-seated-2.ensures.seat.0 ∙ c.loop-w.invariant.board) (c.in_ok-seated-2.ensures.seat.1 ∙ (λ i. only (size i) (sym last i)));
    }

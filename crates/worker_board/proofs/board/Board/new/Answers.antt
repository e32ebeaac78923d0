use Rattle.std.proofs.Common.{refl, arith}
use Rattle.worker_board.proofs.RuleKept.{opens}
use Rattle.worker_board.proofs.board.Board.new.Goals as goal

pub of_words-requires : goal.of_words-requires
of_words-requires c = opens (record { pieces = c.args.pieces; workers = c.args.workers }) _ refl (omega (arith, c.ranges.pieces)) (omega (arith, c.ranges.workers))

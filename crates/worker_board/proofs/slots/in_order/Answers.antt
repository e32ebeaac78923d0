use Rattle.std.proofs.Common.{All, IsSome, sym, subst}
use Rattle.std.specs.List.{range_with_len}
use Rattle.worker_board.proofs.Filled.{some_filled, values_given}
use Rattle.worker_board.proofs.slots.in_order.Goals as goal

pub contents_of-requires : goal.contents_of-requires
contents_of-requires g c = record { filled = subst (All IsSome) (sym c.in_ok-slots.ensures.filled) (some_filled (g.W.Work.answer c.args.work.now) (range_with_len 0 c.args.pieces)) }

pub returns : goal.returns
returns g c = record { answers = values_given (g.W.Work.answer c.args.work.now) (range_with_len 0 c.args.pieces) _ c.in_ok-slots.ensures.filled c.contents_of.result c.contents_of.ensures.values }

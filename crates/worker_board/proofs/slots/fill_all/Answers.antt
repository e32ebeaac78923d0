use Rattle.std.proofs.Common.{◌≡◌, subst, [], arith}
use Rattle.worker_board.specs.Placing.{IsFilling}
use Rattle.worker_board.proofs.Filled.{fills_none, slot_there, fills_one, all_filled, nothing_left}
use Rattle.worker_board.proofs.slots.fill_all.Goals as goal

pub loop-made-init : goal.loop-made-init
loop-made-init g c = fills_none _ _ _ _ c.in_ok-slots.ensures.empty c.requires.all c.requires.below c.requires.right

pub fill-requires : goal.fill-requires
fill-requires g c = record { known = slot_there _ _ _ _ _ c.in-Some.made c.in-Some.ensures.items c.loop-made.invariant }

pub loop-made-preserved : goal.loop-made-preserved
loop-made-preserved g c = rw c.fill.ensures.filled (fills_one _ _ _ _ _ c.in-Some.made c.in-Some.ensures.items c.loop-made.invariant)

pub returns : goal.returns
returns g c = record { filled = all_filled _ _ _ (subst (λ l. IsFilling (g.W.Work.answer c.args.work.now) c.args.pieces c.loop-made.slots.items l) none c.loop-made.invariant) }
  where
    none : c.loop-made.results.items ≡ []
    none = nothing_left _ (omega (arith, c.in_default.ensures.cases.0, c.loop-made.results.ok))

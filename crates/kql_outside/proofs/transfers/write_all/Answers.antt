use Rattle.std.proofs.Common.{arith}
use Rattle.std.proofs.lemmas.Grind.{common_steps}
use Rattle.kql_outside.proofs.Appends.{appended-piece, reduced-piece}
use Rattle.kql_outside.proofs.CallFacts.{last-failed, none-failed, stopped}
use Rattle.kql_outside.proofs.transfers.write_all.Goals as goal

pub loop-at-preserved : goal.loop-at-preserved
loop-at-preserved g c = record {
  within = grind (arith, common_steps, c.in_ok-at.ensures.within);
  calls = none-failed _ _ _ c.in_ok-at.ensures.calls c.loop-at.invariant.calls;
  later = omega arith;
  so_far = appended-piece _ _ _ _ _ _ _ (grind (arith, common_steps)) c.loop-at.invariant.so_far c.in_ok-at.ensures.bytes;
  room = reduced-piece _ _ _ _ _ c.loop-at.invariant.room c.in_ok-at.ensures.room;
}

pub returns-in_err-at-clause-stops : goal.returns-in_err-at-clause-stops
returns-in_err-at-clause-stops g c = stopped _ _ _ _ c.from_residual.ensures.1 (last-failed _ _ _ c.in_err-at.ensures.calls c.loop-at.invariant.calls)

pub returns-clause-stops : goal.returns-clause-stops
returns-clause-stops g c = c.loop-at.invariant.calls

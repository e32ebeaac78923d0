use Rattle.std.proofs.Common.{◌∙◌, ℕ, arith}
use Rattle.kql_outside.proofs.CallFacts.{read-stopped}
use Rattle.kql_outside.proofs.Fills.{prepended-piece}
use Rattle.kql_outside.proofs.transfers.fill.Goals as goal

pub loop-filled-preserved : goal.loop-filled-preserved
loop-filled-preserved g c = record {
  bounded = omega (arith, c.in_ok-count.ensures.fits);
  within = c.in_ok-count.ensures.fits;
  buffer = c.in_ok-count.ensures.bounded;
  files = c.in_ok-count.ensures.files ∙ c.loop-filled.invariant.files;
  calls = c.in_ok-count.ensures.stops ∙ c.loop-filled.invariant.calls;
  starts = c.in_ok-count.ensures.starts ∙ c.loop-filled.invariant.starts;
  later = omega arith;
  so_far = prepended-piece _ _ _ _ _ _ _ c.in_ok-count.ensures.front c.loop-filled.invariant.so_far c.in_ok-count.ensures.bytes;
}

pub returns-in_err-count-clause-stops : goal.returns-in_err-count-clause-stops
returns-in_err-count-clause-stops g c = read-stopped ℕ ℕ _ _ _ _ _ c.loop-filled.invariant.calls c.in_err-count.ensures.stops c.from_residual.ensures.1

pub returns-in_err-count-clause-starts : goal.returns-in_err-count-clause-starts
returns-in_err-count-clause-starts g c = c.in_err-count.ensures.starts ∙ c.loop-filled.invariant.starts

pub returns-then-count-eq0-clause-stops : goal.returns-then-count-eq0-clause-stops
returns-then-count-eq0-clause-stops g c = c.in_ok-count.ensures.stops ∙ c.loop-filled.invariant.calls

pub returns-then-count-eq0-clause-starts : goal.returns-then-count-eq0-clause-starts
returns-then-count-eq0-clause-starts g c = c.in_ok-count.ensures.starts ∙ c.loop-filled.invariant.starts

pub returns-clause-stops : goal.returns-clause-stops
returns-clause-stops g c = c.loop-filled.invariant.calls

pub returns-clause-starts : goal.returns-clause-starts
returns-clause-starts g c = c.loop-filled.invariant.starts

use Rattle.std.specs.List.{IsDistinct}
use Rattle.agg_folds.proofs.held.HeldSet.as_slice.Goals as goal

pub returns-in-None-clause-different : goal.returns-in-None-clause-different
unfolding IsDistinct
returns-in-None-clause-different c = tt

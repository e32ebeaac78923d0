-- What a fold keeps with values of its own, as the state of the fold.
use Rattle.agg_folds.specs.declared.kept.OwnState.{OwnState}
use Rattle.agg_folds.specs.declared.kept.OwnState.TheVariants as own
use Rattle.agg_folds.specs.declared.state.State.{State}
use Rattle.agg_folds.specs.declared.state.State.TheVariants as state

unfoldable pub lent : OwnState → State
lent own.Count = state.Count
lent (own.Total kind total) = state.Total kind total
lent (own.Best prefer value place) = state.Best (record { prefer = prefer; value = value; place = place })
lent (own.Bits b) = state.Bits b
lent (own.List limit values) = state.List (record { limit = limit; values = values })
lent (own.Set limit values) = state.Set (record { limit = limit; values = values })
lent (own.Distinct values) = state.Distinct values

use Rattle.kql_ticks.proofs.RangeLaws.{fit_moment_gives}
use Rattle.kql_ticks.proofs.moves.add_ticks.Goals as goal

pub returns-clause-range : goal.returns-clause-range
returns-clause-range c = fit_moment_gives _ _ c.fit_moment.ensures

use Rattle.std.proofs.Common.{◌*◌, sym, ap, ◌∙◌, arith, pos, ◌+ℤ◌}
use Rattle.std.proofs.lemmas.Int.{ints}
use Rattle.kql_ticks.specs.Ranges.{fit_moment}
use Rattle.kql_ticks.proofs.RangeLaws.{fit_moment_gives}
use Rattle.kql_ticks.proofs.ZoneLaws.{ticks_in_range_is}
use Rattle.kql_ticks.proofs.moments.on_day.Goals as goal

pub returns-clause-value : goal.returns-clause-value
returns-clause-value c =
    c.fit_moment.ensures ∙ (ap fit_moment (omega (arith, ints)) ∙ sym (ticks_in_range_is (pos (864000000000 * c.args.day) +ℤ c.args.ticks)))

pub returns-clause-range : goal.returns-clause-range
returns-clause-range c = fit_moment_gives _ _ c.fit_moment.ensures

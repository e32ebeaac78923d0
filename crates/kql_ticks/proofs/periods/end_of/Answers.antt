use Rattle.std.proofs.Common.{◌≡◌, refl, ap, ◌∙◌, arith, pos, ◌-ℤ◌, ◌*ℤ◌, unsigned_abs, FitsSigned, w64}
use Rattle.std.proofs.lemmas.Int.{ints, to_z-of_z}
use Rattle.kql_ticks.specs.Periods.{day_at}
use Rattle.kql_ticks.specs.Ranges.{fit_moment}
use Rattle.kql_ticks.proofs.BackLemmas.{size_is}
use Rattle.kql_ticks.proofs.BoundLemmas.{end_above, end_same, end_after}
use Rattle.kql_ticks.proofs.RangeLaws.{fit_moment_gives}
use Rattle.kql_ticks.proofs.periods.end_of.Goals as goal

-- what the code computes, with its casts taken away
end : (c : goal.After-fit_moment) → (c.day_of.result ≡ day_at (unsigned_abs c.args.x)) × (c.fit_moment.result ≡ fit_moment (c.next_day-next.result *ℤ pos 864000000000 -ℤ pos 1))
end c =
    let fits : FitsSigned w64 c.args.x = c.ranges.x in
    let size = simp to_z-of_z at c.ticks.ensures.value in
    (rw size at c.day_of.ensures.value, c.fit_moment.ensures ∙ ap fit_moment (omega (arith, ints)))

pub returns-clause-above : goal.returns-clause-above
returns-clause-above c =
    let s = end c in
    let low = rw s.0 at c.next_day-next.ensures.low in
    rw s.1 (end_above c.next_day-next.result c.args.x (unsigned_abs c.args.x) (size_is _ _ c.requires.moment.0 refl) low)

pub returns-clause-same : goal.returns-clause-same
returns-clause-same c =
    let s = end c in
    let last = rw s.0 at c.next_day-next.ensures.last in
    rw s.1 (end_same c.args.part c.next_day-next.result (unsigned_abs c.args.x) c.requires.part last)

pub returns-clause-after : goal.returns-clause-after
returns-clause-after c =
    let s = end c in
    let after = rw s.0 at c.next_day-next.ensures.after in
    rw s.1 (end_after c.args.part c.next_day-next.result (unsigned_abs c.args.x) c.requires.part after)

pub returns-clause-range : goal.returns-clause-range
returns-clause-range c = fit_moment_gives _ _ c.fit_moment.ensures

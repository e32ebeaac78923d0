use Rattle.std.proofs.Common.{◌≡◌, refl, ap, ◌∙◌, arith, pos, ◌*ℤ◌, unsigned_abs, FitsSigned, w64}
use Rattle.std.proofs.lemmas.Int.{ints, to_z-of_z}
use Rattle.kql_ticks.specs.Periods.{day_at}
use Rattle.kql_ticks.specs.Ranges.{fit_moment}
use Rattle.kql_ticks.proofs.BackLemmas.{size_is}
use Rattle.kql_ticks.proofs.BoundLemmas.{start_below, start_same, start_before}
use Rattle.kql_ticks.proofs.RangeLaws.{fit_moment_gives}
use Rattle.kql_ticks.proofs.periods.start_of.Goals as goal

-- what the code computes, with its casts taken away
start : (c : goal.After-fit_moment) → (c.day_of.result ≡ day_at (unsigned_abs c.args.x)) × (c.fit_moment.result ≡ fit_moment (c.first_day-first.result *ℤ pos 864000000000))
start c =
    let fits : FitsSigned w64 c.args.x = c.ranges.x in
    let size = simp to_z-of_z at c.ticks.ensures.value in
    (rw size at c.day_of.ensures.value, c.fit_moment.ensures ∙ ap fit_moment (omega (arith, ints)))

pub returns-clause-below : goal.returns-clause-below
returns-clause-below c =
    let s = start c in
    let high = rw s.0 at c.first_day-first.ensures.high in
    rw s.1 (start_below c.first_day-first.result c.args.x (unsigned_abs c.args.x) (size_is _ _ c.requires.moment.0 refl) high)

pub returns-clause-same : goal.returns-clause-same
returns-clause-same c =
    let s = start c in
    let same = rw s.0 at c.first_day-first.ensures.same in
    rw s.1 (start_same c.args.part c.first_day-first.result (unsigned_abs c.args.x) c.requires.part same)

pub returns-clause-before : goal.returns-clause-before
returns-clause-before c =
    let s = start c in
    let before = rw s.0 at c.first_day-first.ensures.before in
    rw s.1 (start_before c.args.part c.first_day-first.result (unsigned_abs c.args.x) c.requires.part before)

pub returns-clause-range : goal.returns-clause-range
returns-clause-range c = fit_moment_gives _ _ c.fit_moment.ensures

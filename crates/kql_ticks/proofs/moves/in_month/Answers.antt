use Rattle.std.proofs.Common.{◌≡◌, ◌/◌, pos, to_z, w16, arith}
use Rattle.std.proofs.lemmas.Int.{ints}
use Rattle.kql_ticks.specs.Moves.{in_month}
use Rattle.kql_ticks.proofs.moves.in_month.Goals as goal

pub returns-clause-value : goal.returns-clause-value
unfolding in_month
returns-clause-value c =
    let year : to_z w16 (c.args.month / 12) ≡ pos (c.args.month / 12) = omega (arith, ints) in
    let d = rw (c.constrain-date.ensures.year, c.constrain-date.ensures.month, c.constrain-date.ensures.day) at c.day_number.ensures.value in
    let n = rw (year, c.date_on-day.ensures.day, c.day_of.ensures.value) at d in
    omega (arith, n)

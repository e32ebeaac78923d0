use Rattle.std.proofs.Common.{◌≡◌, sym, ◌∙◌, ap, arith, pos, ◌<ℤ◌, ◌≤ℤ◌, unsigned_abs, Some, FitsSigned, to_z, w64}
use Rattle.std.specs.Int.{w128}
use Rattle.std.proofs.lemmas.Int.{ints, to_z-of_z}
use Rattle.kql_ticks.specs.Moves.{in_month}
use Rattle.kql_ticks.proofs.DayLaws.{to_month-low, to_month-high, to_month-is}
use Rattle.kql_ticks.proofs.moves.to_month.Goals as goal

pub returns-then-month-lt12 : goal.returns-then-month-lt12
returns-then-month-lt12 c = record { range = tt; value = sym (to_month-low c.args.month c.args.ticks (omega (arith, ints))) }

pub returns-then-month-ge120000 : goal.returns-then-month-ge120000
returns-then-month-ge120000 c = record { range = tt; value = sym (to_month-high c.args.month c.args.ticks (omega (arith, ints))) }

pub returns : goal.returns
returns c =
    let z = c.args.month in
    let fits : FitsSigned w128 z = c.ranges.month in
    let low : pos 12 ≤ℤ z = omega (arith, ints) in
    let high : z <ℤ pos 120000 = omega (arith, ints) in
    let h = simp to_z-of_z at c.in_month.ensures.value in
    let same : to_z w64 c.in_month.result ≡ pos (in_month (unsigned_abs z) c.args.ticks) = omega (arith, ints, h) in
    record { range = (omega (arith, ints, c.in_month.ensures.bound), omega (arith, ints, c.in_month.ensures.bound)); value = ap Some same ∙ sym (to_month-is z c.args.ticks low high) }

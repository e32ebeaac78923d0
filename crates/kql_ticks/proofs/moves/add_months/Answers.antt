use Rattle.std.proofs.Common.{ap, ◌∙◌, arith, ℤ}
use Rattle.std.proofs.lemmas.Int.{ints}
use Rattle.kql_ticks.specs.Moves.{to_month}
use Rattle.kql_ticks.proofs.moves.add_months.Goals as goal

pub returns : goal.returns
returns c =
    let m = c.month_number.ensures.value in
    let d = rw c.day_of.ensures.value at m in
    record { range = c.to_month.ensures.range; value = c.to_month.ensures.value ∙ ap (λ (z : ℤ). to_month z c.args.ticks) (omega (arith, ints, d)) }

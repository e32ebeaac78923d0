use Rattle.std.proofs.Common.{◌≡◌, ◌<◌, drop}
use Rattle.kql_ticks.proofs.NumberLaws.{number_from}
use Rattle.kql_ticks.proofs.numbers.number.Given as goal

abbrev pub invariant-loop-b : goal.invariant-loop-b
invariant-loop-b l =
    (number_from l.n (drop l.b-index l.t) ≡ number_from 0 l.t) × (l.n < 10000000000000000000)

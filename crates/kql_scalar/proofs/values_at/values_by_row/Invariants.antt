use Rattle.std.proofs.Common.{◌≡◌, map}
use Rattle.std.specs.Prelude.{[]}
use Rattle.kql_meaning.specs.Expressions.{val}
use Rattle.kql_scalar.specs.Means.{means}
use Rattle.kql_scalar.specs.Rows.{rows}
use Rattle.kql_scalar.proofs.values_at.values_by_row.Given as goal

abbrev pub invariant-rows : goal.invariant-rows
invariant-rows l = l.values ≡ map (λ i. val (means l.node) l.t i []) (rows l.from l.i)

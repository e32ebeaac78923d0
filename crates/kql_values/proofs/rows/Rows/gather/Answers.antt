use Rattle.std.proofs.Common.{◌<◌, ℕ, length, rules}
use Rattle.std.specs.Prelude.{All}
use Rattle.kql_values.specs.Grids.{rows_of}
use Rattle.kql_values.proofs.GridLaws.{HaveLength-gathered, rows_of-gathered, rows_of-length}
use Rattle.kql_values.proofs.rows.Rows.gather.Goals as goal

pub invariant_of-result : goal.invariant_of-result
invariant_of-result c =
    (rw c.in_ok-columns.ensures (HaveLength-gathered c.self.inside.count c.self.inside.columns.items c.args.places.now c.self.invariant.0), search rules)

pub returns : goal.returns
returns c =
    let n = c.self.inside.count in
    let cs = c.self.inside.columns.items in
    let within : All (λ (i : ℕ). i < length (rows_of n cs)) c.args.places.now = rw (← c.self.view_is) at c.requires in
    let all : All (λ (i : ℕ). i < n) c.args.places.now = rw (rows_of-length n cs) at within in
    record { rows = rw (← c.self.view_is, c.in_ok-columns.ensures) (rows_of-gathered n cs c.args.places.now all) }

use Rattle.std.proofs.Common.{length}
use Rattle.std.specs.Prelude.{All}
use Rattle.kql_fit_laws.specs.LawsOfRows.{IsTable}
use Rattle.live_query.proofs.view.know_batches.Given as goal

-- where those that are left are tables, all are
abbrev pub invariant-batches : goal.invariant-batches
invariant-batches l = All IsTable l.left → All IsTable l.fn.batches

abbrev pub decreases-batches : goal.decreases-batches
decreases-batches l = length l.left

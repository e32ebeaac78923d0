use Rattle.std.proofs.Common.{◌≡◌}
use Rattle.csv_io.specs.RecordsLeft.{IsPlain, records_left}
use Rattle.kql_proposal.proofs.rows.have_same_rest.Given as goal

abbrev pub invariant-loop : goal.invariant-loop
invariant-loop l = record {
  left : IsPlain l.left;
  right : IsPlain l.right;
  same : records_left l.left ≡ records_left l.right → records_left l.initial.left ≡ records_left l.initial.right;
}

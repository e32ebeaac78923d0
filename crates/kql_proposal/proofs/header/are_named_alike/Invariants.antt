use Rattle.std.proofs.Common.{◌≡◌, length}
use Rattle.std.specs.Prelude.{◌↔◌}
use Rattle.csv_io.specs.Text.{names_of}
use Rattle.kql_proposal.proofs.header.are_named_alike.Given as goal

abbrev pub invariant-columns : goal.invariant-columns
invariant-columns l = record {
  alike : (names_of l.left ≡ names_of l.right) ↔ (names_of l.a ≡ names_of l.b);
}

abbrev pub decreases-columns : goal.decreases-columns
decreases-columns l = length l.left

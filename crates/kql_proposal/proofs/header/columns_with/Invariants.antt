use Rattle.std.proofs.Common.{◌≡◌, ◌++◌, length}
use Rattle.kql_proposal.specs.Headed.{kinds_given}
use Rattle.kql_proposal.proofs.header.columns_with.Given as goal

abbrev pub invariant-columns : goal.invariant-columns
invariant-columns l = record {
  made : l.made ++ kinds_given l.left l.kinds_left ≡ kinds_given l.columns l.kinds;
}

abbrev pub decreases-columns : goal.decreases-columns
decreases-columns l = length l.left

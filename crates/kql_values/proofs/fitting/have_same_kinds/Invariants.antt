use Rattle.std.proofs.Common.{◌≡◌, ◌↔◌, length}
use Rattle.kql_values.specs.Moves.{kinds_of}
use Rattle.kql_values.proofs.fitting.have_same_kinds.Given as goal

abbrev pub invariant-columns : goal.invariant-columns
invariant-columns l = (kinds_of l.left ≡ kinds_of l.others_left) ↔ (kinds_of l.fn.columns ≡ kinds_of l.fn.others)

abbrev pub decreases-columns : goal.decreases-columns
decreases-columns l = length l.left

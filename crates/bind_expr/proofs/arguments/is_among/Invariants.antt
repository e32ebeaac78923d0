use Rattle.std.proofs.Common.{◌≡◌, length}
use Rattle.bind_expr.specs.Arguments.{is_among}
use Rattle.bind_expr.proofs.arguments.is_among.Given as goal

abbrev pub invariant-names : goal.invariant-names
invariant-names l = is_among l.left l.name ≡ is_among l.fn.names l.fn.name

abbrev pub decreases-names : goal.decreases-names
decreases-names l = length l.left

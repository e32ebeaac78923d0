use Rattle.std.proofs.Common.{◌≡◌, length}
use Rattle.bind_expr.specs.Names.{const_named}
use Rattle.bind_expr.proofs.names.bind_const.Given as goal

abbrev pub invariant-consts : goal.invariant-consts
invariant-consts l = const_named l.name l.left ≡ const_named l.fn.name l.fn.consts

abbrev pub decreases-consts : goal.decreases-consts
decreases-consts l = length l.left

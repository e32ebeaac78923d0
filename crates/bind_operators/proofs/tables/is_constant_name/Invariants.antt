use Rattle.std.proofs.Common.{◌≡◌, length}
use Rattle.bind_operators.specs.Known.{is_constant_name}
use Rattle.bind_operators.proofs.tables.is_constant_name.Given as goal

abbrev pub invariant-each : goal.invariant-each
invariant-each l = is_constant_name l.left l.name ≡ is_constant_name l.fn.consts l.fn.name

abbrev pub decreases-each : goal.decreases-each
decreases-each l = length l.left

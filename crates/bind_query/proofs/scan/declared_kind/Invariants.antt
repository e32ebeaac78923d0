use Rattle.std.proofs.Common.{◌≡◌, length}
use Rattle.bind_query.specs.Scan.{declared_kind}
use Rattle.bind_query.proofs.scan.declared_kind.Given as goal

abbrev pub invariant-each : goal.invariant-each
invariant-each l = declared_kind l.left l.name ≡ declared_kind l.fn.declared l.fn.name

abbrev pub decreases-each : goal.decreases-each
decreases-each l = length l.left

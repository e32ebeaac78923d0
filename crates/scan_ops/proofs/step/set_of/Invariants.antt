use Rattle.std.proofs.Common.{◌≡◌, length}
use Rattle.std.specs.Prelude.{find}
use Rattle.kql_bound.specs.declared.parts.BItem.{BItem}
use Rattle.kql_meaning.specs.Tables.{is_name_among}
use Rattle.scan_ops.proofs.step.set_of.Given as goal

-- the assignment is among those that are left
abbrev pub invariant-each : goal.invariant-each
invariant-each l = find (λ (b : BItem). is_name_among b.names l.name) l.left ≡ find (λ (b : BItem). is_name_among b.names l.name) l.fn.sets

abbrev pub decreases-each : goal.decreases-each
decreases-each l = length l.left

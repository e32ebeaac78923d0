use Rattle.std.proofs.Common.{◌≡◌, length}
use Rattle.std.specs.List.{list_any}
use Rattle.kql_bound.specs.declared.parts.BItem.{BItem}
use Rattle.bind_expr.specs.GroupForms.{has_bad_count}
use Rattle.bind_groups.proofs.summarize.any_bad_count.Given as goal

abbrev pub invariant-each : goal.invariant-each
invariant-each l = list_any (λ (b : BItem). has_bad_count b.expr) l.left ≡ list_any (λ (b : BItem). has_bad_count b.expr) l.fn.items

abbrev pub decreases-each : goal.decreases-each
decreases-each l = length l.left

use Rattle.std.proofs.Common.{take}
use Rattle.bind_expr.specs.Outcome.{Answers}
use Rattle.bind_operators.specs.Sources.{print_items}
use Rattle.bind_operators.proofs.print.bind_print_items.Given as goal

abbrev pub invariant-each : goal.invariant-each
invariant-each l = Answers l.done (print_items l.scope (take l.item-index l.items))

use Rattle.std.proofs.Common.{◌≡◌, map, take}
use Rattle.bind_operators.specs.Items.{column_item}
use Rattle.bind_operators.proofs.project.column_items.Given as goal

abbrev pub invariant-loop-c : goal.invariant-loop-c
invariant-loop-c l = l.items ≡ map column_item (take l.c-index l.columns)

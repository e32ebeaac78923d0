use Rattle.std.proofs.Common.{◌≡◌, length}
use Rattle.item_names.specs.ItemNames.{name_behind}
use Rattle.item_names.proofs.paths.name_behind.Given as goal

abbrev pub invariant-steps : goal.invariant-steps
invariant-steps l = name_behind l.name l.left ≡ name_behind l.fn.name l.fn.steps

abbrev pub decreases-steps : goal.decreases-steps
decreases-steps l = length l.left

use Rattle.std.proofs.Common.{◌≡◌, length}
use Rattle.plan_rules.specs.Rules.{chosen_items}
use Rattle.plan_neighbours.proofs.ChosenSteps.{in_front}
use Rattle.plan_neighbours.proofs.inner.chosen_items.Given as goal

abbrev pub invariant-items : goal.invariant-items
invariant-items l = chosen_items l.fn.first l.fn.second ≡ in_front l.chosen (chosen_items l.first l.left)

abbrev pub decreases-items : goal.decreases-items
decreases-items l = length l.left

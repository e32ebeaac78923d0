use Rattle.std.proofs.Common.{◌∙◌}
use Rattle.csv_workers.proofs.SlotFacts.{kept-parts}
use Rattle.csv_workers.proofs.joining.settled.Goals as goal

pub returns : goal.returns
returns g c =
    let all = c.in_ok-whole.ensures in
    record { same = all.parts ∙ (kept-parts _ _ c.settle_each.ensures.count c.settle_each.ensures.kept all.whole ∙ c.in_ok-slots.ensures.parts) }

use Rattle.std.proofs.Common.{ap, refl, sym, true, ◌∙◌}
use Rattle.view_ops.specs.Views.{Viewed}
use Rattle.view_ops.proofs.ViewSteps.{all-groups, made-after}
use Rattle.view_ops.proofs.view.View.table.Goals as goal

pub finish_groups-requires-clause-groups : goal.finish_groups-requires-clause-groups
finish_groups-requires-clause-groups c =
    let v : Viewed = record { plan = c.self.inside.plan; columns = c.self.inside.schema; groups = c.self.inside.groups; fed = c.self.inside.fed; stored = true } in
    all-groups v c.in_ok-lent.lent c.self.invariant c.in_ok-lent.ensures.same

pub returns-clause-grown : goal.returns-clause-grown
returns-clause-grown c v t batches same h takes is =
    let w : Viewed = record { plan = c.self.inside.plan; columns = c.self.inside.schema; groups = c.self.inside.groups; fed = c.self.inside.fed; stored = true } in
    made-after w v t batches c.in_ok-lent.lent c.in_ok-made.made refl c.in_ok-lent.ensures.same c.in_ok-made.ensures.rows same h takes (c.self.view_is ∙ is)

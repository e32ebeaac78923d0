use Rattle.std.proofs.Common.{◌<◌, ◌+◌, ◌^◌, length, subst, sym, true}
use Rattle.view_ops.specs.Views.{Viewed, can_take}
use Rattle.view_ops.proofs.ViewSteps.{are-neighbours, few-together, own-groups}
use Rattle.view_ops.proofs.view.View.joined_with.Goals as goal

pub join_groups-requires-clause-neighbours : goal.join_groups-requires-clause-neighbours
join_groups-requires-clause-neighbours c =
    let v : Viewed = record { plan = c.self.inside.plan; columns = c.self.inside.schema; groups = c.self.inside.groups; fed = c.self.inside.fed; stored = true } in
    let takes = subst (λ (w : Viewed). can_take w c.args._t.now) (sym c.self.view_is) c.requires.takes in
    are-neighbours v c.args._t.now c.in_ok-kept.kept c.in_ok-more.more c.self.invariant takes c.in_ok-kept.ensures.same
    (own-groups c.args.self.now v c.args._t.now c.args.read.now c.in_ok-more.more c.self.view_is c.requires.read c.in_ok-more.ensures.groups)

pub join_groups-requires-clause-few : goal.join_groups-requires-clause-few
join_groups-requires-clause-few c =
    let t = c.args._t.now in
    let v : Viewed = record { plan = c.self.inside.plan; columns = c.self.inside.schema; groups = c.self.inside.groups; fed = c.self.inside.fed; stored = true } in
    let few = subst (λ (w : Viewed). w.fed + length t.lines < 2 ^ 63) (sym c.self.view_is) c.requires.rows in
    few-together v t c.in_ok-kept.kept c.in_ok-more.more c.self.invariant c.in_ok-kept.ensures.same
    (own-groups c.args.self.now v t c.args.read.now c.in_ok-more.more c.self.view_is c.requires.read c.in_ok-more.ensures.groups) few

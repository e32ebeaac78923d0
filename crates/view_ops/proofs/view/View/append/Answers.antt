use Rattle.std.proofs.Common.{ap, refl, subst, sym, true, ◌∙◌}
use Rattle.view_ops.specs.Views.{StandsFor, Viewed, grown}
use Rattle.view_ops.proofs.ViewSteps.{Takes, is-grown, is-view, stands-with}
use Rattle.view_ops.proofs.view.View.append.Goals as goal

pub invariant_of-self : goal.invariant_of-self
invariant_of-self c =
    let t = c.args.t.now in
    let x = c.in_ok-groups.groups in
    let v : Viewed = record { plan = c.self.inside.plan; columns = c.self.inside.schema; groups = c.self.inside.groups; fed = c.self.inside.fed; stored = true } in
    let all : Takes c.args.self.now t x = record { takes = c.joined.ensures.takes; joined = c.in_ok-groups.ensures.joined; stored = c.in_ok-groups.ensures.stored; few = c.requires.rows } in
    is-view v t x c.len.result c.self.invariant refl (subst (λ (w : Viewed). Takes w t x) (sym c.self.view_is) all) c.len.ensures.count

pub returns-clause-grown : goal.returns-clause-grown
returns-clause-grown c =
    let t = c.args.t.now in
    let x = c.in_ok-groups.groups in
    let v : Viewed = record { plan = c.self.inside.plan; columns = c.self.inside.schema; groups = c.self.inside.groups; fed = c.self.inside.fed; stored = true } in
    let all : Takes c.args.self.now t x = record { takes = c.joined.ensures.takes; joined = c.in_ok-groups.ensures.joined; stored = c.in_ok-groups.ensures.stored; few = c.requires.rows } in
    is-grown v t x c.len.result refl (subst (λ (w : Viewed). Takes w t x) (sym c.self.view_is) all) c.len.ensures.count ∙ ap (λ (w : Viewed). grown w t) c.self.view_is

pub returns-clause-stands : goal.returns-clause-stands
returns-clause-stands c lines h =
    let t = c.args.t.now in
    let x = c.in_ok-groups.groups in
    let v : Viewed = record { plan = c.self.inside.plan; columns = c.self.inside.schema; groups = c.self.inside.groups; fed = c.self.inside.fed; stored = true } in
    let all : Takes c.args.self.now t x = record { takes = c.joined.ensures.takes; joined = c.in_ok-groups.ensures.joined; stored = c.in_ok-groups.ensures.stored; few = c.requires.rows } in
    stands-with v t x c.len.result lines refl (subst (λ (w : Viewed). Takes w t x) (sym c.self.view_is) all) c.len.ensures.count (subst (λ (w : Viewed). StandsFor w lines) (sym c.self.view_is) h)

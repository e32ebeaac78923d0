use Rattle.std.proofs.Common.{◌<◌, ◌∙◌, ap, refl, subst, sym}
use Rattle.phase_groups.specs.Works.{ReadSeen, run_over, seen_at}
use Rattle.phase_groups.proofs.ReadSteps.{groups-are, read-found, read-there, seen-is}
use Rattle.phase_groups.proofs.works.GroupRunWorkRangeGroups.run.Goals as goal

pub bounds-self-inside-piece : goal.bounds-self-inside-piece
bounds-self-inside-piece c =
    let r = run_over c.self.inside.plan.now c.self.inside.table.now c.self.inside.cut in
    read-there (record { run = r; read = c.self.inside.read.now }) c.args.piece c.self.invariant (subst (λ (v : ReadSeen). c.args.piece < v.run.cut.pieces) (sym c.self.view_is) c.requires)

pub invariant_of-result : goal.invariant_of-result
invariant_of-result c =
    let r = run_over c.self.inside.plan.now c.self.inside.table.now c.self.inside.cut in
    let lt = subst (λ (v : ReadSeen). c.args.piece < v.run.cut.pieces) (sym c.self.view_is) c.requires in
    let found = read-found (record { run = r; read = c.self.inside.read.now }) c.args.piece _ c.self.invariant lt in
    groups-are r c.args.piece c.bounds_of-bounds.result.from c.bounds_of-bounds.result.to c.len.result c.in_ok-groups.groups c.len.ensures.count c.bounds_of-bounds.ensures.from c.bounds_of-bounds.ensures.to
    (c.in_ok-groups.ensures.groups r.plan r.table _ _ found)

pub returns : goal.returns
returns c =
    let r = run_over c.self.inside.plan.now c.self.inside.table.now c.self.inside.cut in
    let lt = subst (λ (v : ReadSeen). c.args.piece < v.run.cut.pieces) (sym c.self.view_is) c.requires in
    let found = read-found (record { run = r; read = c.self.inside.read.now }) c.args.piece _ c.self.invariant lt in
    record {
      answer = seen-is r c.args.piece c.bounds_of-bounds.result.from c.bounds_of-bounds.result.to c.len.result c.in_ok-groups.groups _ c.len.ensures.count c.bounds_of-bounds.ensures.from c.bounds_of-bounds.ensures.to
          (c.in_ok-groups.ensures.groups r.plan r.table _ _ found) refl
          ∙ ap (λ (v : ReadSeen). seen_at v.run c.args.piece) c.self.view_is;
    }

use Rattle.phase_groups.specs.Works.{run_over}
use Rattle.phase_groups.proofs.JoinSteps.{next-is, next-rest, next-there, piece-groups}
use Rattle.phase_groups.proofs.joined.next_groups.Goals as goal

pub unreachable-requires : goal.unreachable-requires
unreachable-requires c = next-there (run_over c.args.plan.now c.args.table.now c.args.cut) c.args.left.now c.args.from c.requires.within c.in-None.ensures.last.0 c.requires.left

pub returns : goal.returns
returns c =
    let r = run_over c.args.plan.now c.args.table.now c.args.cut in
    let is = next-is r c.args.left.now c.pop.new.self c.in-Some.next c.args.from c.in-Some.ensures.last c.requires.left in
    record {
      groups = piece-groups r c.args.from c.in-Some.next c.into_groups.result c.requires.run c.requires.within is c.into_groups.ensures.groups;
      left = next-rest r c.args.left.now c.pop.new.self c.in-Some.next c.args.from c.in-Some.ensures.last c.requires.left;
    }

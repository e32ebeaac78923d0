use Rattle.std.proofs.Common.{◌≡◌, ◌+◌, ◌-◌, ◌/◌, arith}
use Rattle.phase_groups.specs.Works.{run_over}
use Rattle.phase_groups.proofs.JoinSteps.{both-between, few, neighbours, rest-here, to-here}
use Rattle.phase_groups.proofs.joined.+joined.Goals as goal

pub returns-then-count-eq1 : goal.returns-then-count-eq1
returns-then-count-eq1 t c =
    let r = run_over c.args.plan.now c.args.table.now c.args.cut in
    let same : c.args.from + 1 ≡ c.args.from + c.args.count = omega (arith, c.if-count-eq1.true) in
    record {
      groups = to-here r c.args.from (c.args.from + 1) (c.args.from + c.args.count) c.in_ok-one.one same c.in_ok-one.ensures.groups;
      left = rest-here r c.next_groups.new.left (c.args.from + 1) (c.args.from + c.args.count) same c.in_ok-one.ensures.left;
    }

pub join_groups-requires : goal.join_groups-requires
join_groups-requires t c =
    let r = run_over c.args.plan.now c.args.table.now c.args.cut in
    let half = c.args.count / 2 in
    let same : c.args.from + half + (c.args.count - half) ≡ c.args.from + c.args.count = omega arith in
    let second = to-here r (c.args.from + half) _ (c.args.from + c.args.count) c.in_ok-second.second same c.in_ok-second.ensures.groups in
    record {
      neighbours = neighbours r c.args.from (c.args.from + half) (c.args.from + c.args.count) c.in_ok-first.first c.in_ok-second.second c.requires.run (omega arith) (omega arith) c.in_ok-first.ensures.groups second;
      few = few r c.args.from (c.args.from + half) (c.args.from + c.args.count) c.in_ok-first.first c.in_ok-second.second c.requires.run (omega arith) (omega arith) c.in_ok-first.ensures.groups second;
    }

pub returns : goal.returns
returns t c =
    let r = run_over c.args.plan.now c.args.table.now c.args.cut in
    let half = c.args.count / 2 in
    let same : c.args.from + half + (c.args.count - half) ≡ c.args.from + c.args.count = omega arith in
    let second = to-here r (c.args.from + half) _ (c.args.from + c.args.count) c.in_ok-second.second same c.in_ok-second.ensures.groups in
    record {
      groups = both-between r c.args.from (c.args.from + half) (c.args.from + c.args.count) c.in_ok-first.first c.in_ok-second.second c.in_ok-both.both c.requires.run (omega arith) (omega arith) c.in_ok-first.ensures.groups second c.in_ok-both.ensures.range;
      left = rest-here r c.joined-2.new.left (c.args.from + half + (c.args.count - half)) (c.args.from + c.args.count) same c.in_ok-second.ensures.left;
    }

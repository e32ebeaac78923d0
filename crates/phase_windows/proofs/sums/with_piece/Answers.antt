use Rattle.std.proofs.Common.{◌≡◌, ◌<◌, arith, length}
use Rattle.phase_windows.proofs.SumSteps.{both-end, both-few, both-long, both-step}
use Rattle.phase_windows.proofs.sums.with_piece.Goals as goal

pub calls-init : goal.calls-init
calls-init c = c.in_ok-joined.ensures.empty

pub bounds-sums-i : goal.bounds-sums-i
bounds-sums-i c = both-long c.args._items.now c.args.table.now c.args._rows c.args._piece c.calls.i c.args.before.now c.args.sums.now c.requires.before c.requires.sums (omega (arith, c.calls-test.true))

pub carry-requires : goal.carry-requires
carry-requires c = record {
  few = both-few c.args._items.now c.args.table.now c.args._rows c.args._piece c.len-count.result c.calls.i c.args.before.now c.args.sums.now c.index-before-i.result c.index-sums-i.result
      c.requires.before c.requires.sums c.requires.begins c.len-count.ensures.count c.len-count.ensures.small (omega (arith, c.calls-test.true)) c.index-before-i.is c.index-sums-i.is;
}

pub calls-preserved : goal.calls-preserved
calls-preserved c =
    both-step c.args._items.now c.args.table.now c.args._rows c.args._piece c.calls.i c.args.before.now c.args.sums.now c.calls.joined c.push.new.self c.index-before-i.result c.index-sums-i.result c.carry.result
    c.requires.before c.requires.sums c.requires.begins (omega (arith, c.calls-test.true)) c.index-before-i.is c.index-sums-i.is c.carry.ensures.both c.calls.invariant c.in_ok-push.ensures.added

pub returns : goal.returns
returns c =
    let all : c.calls.i ≡ length c.args.before.now = omega (arith, c.calls.auto.i-end, c.calls-test.false) in
    record { joined = both-end c.args._items.now c.args.table.now c.args._rows c.args._piece c.calls.i c.args.before.now c.calls.joined c.requires.before all c.calls.invariant }

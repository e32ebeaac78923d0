use Rattle.std.proofs.Common.{◌≡◌, length, arith}
use Rattle.scan_ops.specs.Runs.{turn_of}
use Rattle.scan_ops.proofs.ScanFacts.{rows-all, rows-more, rows-start}
use Rattle.scan_ops.proofs.scans.emitted_rows.Goals as goal

pub each-init : goal.each-init
each-init c = record {
  run = c.in_ok-run.ensures.run;
  turn = rows-start c.args.s.now c.args.t.now (turn_of c.in_ok-run.run') c.args.out c.requires.none c.in_ok-run.ensures.turn;
}

pub each-preserved : goal.each-preserved
each-preserved c = record {
  run = c.take_row.ensures.run;
  turn = rows-more c.args.s.now c.args.t.now c.each.i _ (turn_of c.each.run) (turn_of c.take_row.new.run) c.each.invariant.turn c.in_ok-take_row.ensures.turn;
}

pub returns : goal.returns
returns c =
    let all : c.each.i ≡ length c.args.t.now.lines = omega arith in
    record { rows = rows-all c.args.s.now c.args.t.now c.each.i (turn_of c.each.run) c.in_ok-rows.rows all c.each.invariant.turn c.in_ok-rows.ensures.rows }

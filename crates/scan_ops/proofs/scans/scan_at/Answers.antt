use Rattle.std.proofs.Common.{◌≤◌, length, arith, rules}
use Rattle.scan_ops.specs.Runs.{turn_of}
use Rattle.scan_ops.proofs.ScanFacts.{turns-all, turns-next, turns-start}
use Rattle.scan_ops.proofs.scans.scan_at.Goals as goal

pub each-init : goal.each-init
each-init c = record {
  run = c.in_ok-run.ensures.run;
  turn = turns-start c.args.s.now c.args.t.now c.args.places.now c.args.out (turn_of c.in_ok-run.run') c.in_ok-run.ensures.turn;
}

pub each-preserved : goal.each-preserved
each-preserved c = record {
  run = c.take_row.ensures.run;
  turn = turns-next c.args.s.now c.args.t.now c.args.places.now c.each.place-index _ c.args.out (turn_of c.each.run) (turn_of c.take_row.new.run) (search rules) c.each.invariant.turn c.in_ok-take_row.ensures.turn;
}

pub returns : goal.returns
returns c =
    let all : length c.args.places.now ≤ c.each.place-index = omega arith in
    record {
      rows = turns-all c.args.s.now c.args.t.now c.args.places.now c.each.place-index c.args.out c.in_ok-rows.rows (turn_of c.each.run) all c.each.invariant.turn c.in_ok-rows.ensures.rows;
      width = c.in_ok-rows.ensures.width;
    }

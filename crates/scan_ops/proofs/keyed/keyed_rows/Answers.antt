use Rattle.std.proofs.Common.{◌≡◌, ◌≤◌, length, arith}
use Rattle.scan_ops.specs.Runs.{width_of}
use Rattle.scan_ops.proofs.KeyedFacts.{scans-end, scans-more, scans-start}
use Rattle.scan_ops.proofs.RunFacts.{width-start}
use Rattle.scan_ops.proofs.keyed.keyed_rows.Goals as goal

pub each-init : goal.each-init
each-init c = record {
  rows = scans-start c.args.s.now c.args.t.now c.args.lists.now c.args.from c.args.out c.requires.none;
  width = width-start (width_of c.args.s.now (length c.args.t.now.columns)) c.args.out c.requires.none;
}

pub each-preserved : goal.each-preserved
each-preserved c =
    let order : c.args.from ≤ c.each.number = omega (arith, c.each.auto.number) in
    record {
      rows = scans-more c.args.s.now c.args.t.now c.args.lists.now c.args.from c.each.number c.get-places.result.now c.each.rows c.in_ok-more.more order (omega (arith, c.each-test.true, c.requires.range)) c.get-places.ensures.same c.each.invariant.rows c.in_ok-more.ensures.rows;
      width = c.in_ok-more.ensures.width;
    }

pub returns : goal.returns
returns c =
    let all : c.each.number ≡ c.args.to = omega (arith, c.each.auto.number, c.each-test.false, c.requires.order) in
    record { rows = scans-end c.args.s.now c.args.t.now c.args.lists.now c.args.from c.args.to c.each.number c.each.rows all c.each.invariant.rows }

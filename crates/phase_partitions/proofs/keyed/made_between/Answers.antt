use Rattle.std.proofs.Common.{◌≡◌, ◌≤◌, length, arith}
use Rattle.kql_plain.specs.AtHand.{world_of}
use Rattle.scan_ops.proofs.KeyedFacts.{list-within}
use Rattle.phase_partitions.proofs.OpSteps.{list-kinds, made-columns, made-end, made-more, made-start}
use Rattle.phase_partitions.proofs.keyed.made_between.Goals as goal

pub keys-init : goal.keys-init
keys-init c =
    let start = made-start c.args.ops.now (world_of c.args.catalogue.now c.args.lets.now) c.args.table.now c.args.none.now c.in_ok-made.made c.args.lists.now c.args.from c.in_ok-made.ensures.rows in
    record { columns = start.0; lines = start.1 }

pub append-requires : goal.append-requires
append-requires c =
    let within = list-within (length c.args.table.now.lines) c.keys.number c.args.lists.now c.get.result.now c.requires.within (omega (arith, c.keys-test.true, c.requires.range)) c.get.ensures.same in
    list-kinds c.args.ops.now (world_of c.args.catalogue.now c.args.lets.now) c.args.table.now c.args.none.now c.in_ok-rows.rows c.in_ok-part.part c.keys.made c.get.result.now
    c.requires.fits c.in_ok-rows.ensures.rows c.in_ok-part.ensures.table within c.requires.none c.keys.invariant.columns

pub keys-preserved : goal.keys-preserved
keys-preserved c =
    let order : c.args.from ≤ c.keys.number = omega (arith, c.keys.auto.number) in
    record {
      columns = made-columns c.args.none.now c.keys.made c.append.new.self _ c.keys.invariant.columns c.in_ok-append.ensures.added;
      lines = made-more c.args.ops.now (world_of c.args.catalogue.now c.args.lets.now) c.args.table.now c.in_ok-rows.rows c.in_ok-part.part c.keys.made c.append.new.self c.args.lists.now c.args.from c.keys.number c.get.result.now
          order (omega (arith, c.keys-test.true, c.requires.range)) c.get.ensures.same c.in_ok-rows.ensures.rows c.in_ok-part.ensures.table c.keys.invariant.lines c.in_ok-append.ensures.added;
    }

pub returns : goal.returns
returns c =
    let all : c.keys.number ≡ c.args.to = omega (arith, c.keys.auto.number-end, c.keys-test.false, c.requires.order) in
    record {
      columns = c.keys.invariant.columns;
      lines = made-end c.args.ops.now (world_of c.args.catalogue.now c.args.lets.now) c.args.table.now c.args.lists.now c.args.from c.args.to c.keys.number c.keys.made.lines all c.keys.invariant.lines;
    }

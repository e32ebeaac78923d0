use Rattle.std.proofs.Common.{◌-◌, arith}
use Rattle.kql_keys.proofs.TextKeyFacts.{bytes-from, number-small}
use Rattle.kql_keys.proofs.text_key.number_of.Goals as goal

pub overflow_mul-number : goal.overflow_mul-number
overflow_mul-number c =
    let small = number-small c.args.bytes.now c.loop-left.left (bytes-from c.args.bytes.now (λ i. (c.type_inv.bytes i).fits)) c.requires.count c.loop-left-test.true in
    omega (arith, small, c.loop-left.invariant.1)

pub overflow_add-number-in-loop-left : goal.overflow_add-number-in-loop-left
overflow_add-number-in-loop-left c =
    let small = number-small c.args.bytes.now c.loop-left.left (bytes-from c.args.bytes.now (λ i. (c.type_inv.bytes i).fits)) c.requires.count c.loop-left-test.true in
    omega (arith, small, c.loop-left.invariant.1, (c.type_inv.bytes (c.loop-left.left - 1)).fits)

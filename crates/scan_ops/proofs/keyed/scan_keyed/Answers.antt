use Rattle.scan_ops.proofs.KeyedFacts.{keyed-made, keyed-named, keyed-plain}
use Rattle.scan_ops.proofs.keyed.scan_keyed.Goals as goal

pub returns-then-is_empty-clause-named : goal.returns-then-is_empty-clause-named
returns-then-is_empty-clause-named c =
    keyed-named c.args.s.now c.args.t.now c.in_ok-plain.plain c.args.key
    (keyed-plain c.args.s.now c.args.t.now c.in_ok-plain.plain c.args.key c.in_ok-keyed.keyed c.is_empty.result c.requires.fits c.in_ok-keyed.ensures.rows c.is_empty.ensures.empty c.if-is_empty.true c.in_ok-plain.ensures.table)

pub returns-clause-named : goal.returns-clause-named
returns-clause-named c =
    keyed-named c.args.s.now c.args.t.now c.in_ok-made.made c.args.key
    (keyed-made c.args.s.now c.args.t.now c.in_ok-extended.extended c.in_ok-made.made c.args.key c.in_ok-keyed.keyed c.requires.fits c.in_ok-keyed.ensures.rows c.in_ok-extended.ensures.rows c.in_ok-made.ensures.table)

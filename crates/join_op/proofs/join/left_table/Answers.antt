use Rattle.join_op.proofs.PairedSteps.{gathered-columns, left-both, left-one, names-kept}
use Rattle.join_op.proofs.join.left_table.Goals as goal

pub with_right-requires-clause-names : goal.with_right-requires-clause-names
with_right-requires-clause-names c =
    names-kept c.args.j.now c.args.left.now c.args.right.now c.in_ok-kept.kept (gathered-columns c.args.left.now c.in_ok-kept.kept c.args.leads.now c.in_ok-kept.ensures.rows) (c.requires.names c.if-both.true)

pub returns-in_ok-made : goal.returns-in_ok-made
returns-in_ok-made c = record {
  table = left-both c.args.j.now c.args.left.now c.args.right.now c.in_ok-kept.kept c.in_ok-made.made c.args.both c.args.leads.now c.args.others.now c.if-both.true c.in_ok-kept.ensures.rows c.in_ok-made.ensures.rows;
}

pub returns-else-both : goal.returns-else-both
returns-else-both c = record {
  table = left-one c.args.j.now c.args.left.now c.args.right.now c.in_ok-kept.kept c.args.both c.args.leads.now c.args.others.now c.if-both.false c.in_ok-kept.ensures.rows;
}

use Rattle.std.proofs.Common.{◌∙◌, length}
use Rattle.join_op.proofs.PairedSteps.{absent-columns, names-kept, right-both, right-one, somes-within}
use Rattle.join_op.proofs.join.right_table.Goals as goal

pub with_right-requires-clause-names : goal.with_right-requires-clause-names
with_right-requires-clause-names c =
    names-kept c.args.j.now c.args.left.now c.args.right.now c.in_ok-kept.kept (absent-columns c.args.left.now c.in_ok-kept.kept c.args.others.now c.in_ok-kept.ensures.rows) (c.requires.names c.if-both.true)

pub with_right-requires-clause-within : goal.with_right-requires-clause-within
with_right-requires-clause-within c =
    somes-within (length c.args.right.now.lines) c.args.leads.now c.as_slice.result.now (c.as_slice.ensures.items ∙ c.in_ok-rights.ensures.places) c.requires.leads

pub returns-in_ok-made : goal.returns-in_ok-made
returns-in_ok-made c = record {
  table = right-both c.args.j.now c.args.left.now c.args.right.now c.in_ok-kept.kept c.in_ok-made.made c.args.both c.args.leads.now c.args.others.now c.as_slice.result.now c.if-both.true
      (c.as_slice.ensures.items ∙ c.in_ok-rights.ensures.places) c.in_ok-kept.ensures.rows c.in_ok-made.ensures.rows;
}

pub returns-in_ok-alone : goal.returns-in_ok-alone
returns-in_ok-alone c = record {
  table = right-one c.args.j.now c.args.left.now c.args.right.now c.in_ok-alone.alone c.args.both c.args.leads.now c.args.others.now c.if-both.false c.in_ok-alone.ensures.rows;
}

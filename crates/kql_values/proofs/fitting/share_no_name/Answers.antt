use Rattle.std.proofs.Common.{rules}
use Rattle.kql_values.proofs.FittingLaws.{apart-more, are-apart, are-not-apart}
use Rattle.kql_values.proofs.fitting.share_no_name.Goals as goal

pub returns-then-not-lacks : goal.returns-then-not-lacks
returns-then-not-lacks c =
    are-not-apart c.args.columns.now c.args.others.now c.loop-other.other-index c.other-item.result c.as_str.result.now c.lacks.result (search rules) (search rules) (search rules) c.lacks.ensures (search rules)

pub loop-other-preserved : goal.loop-other-preserved
loop-other-preserved c =
    apart-more c.args.columns.now c.args.others.now c.loop-other.other-index c.other-item.result c.as_str.result.now c.lacks.result (search rules) (search rules) (search rules) c.lacks.ensures (search rules) c.loop-other.invariant

pub returns : goal.returns
returns c = are-apart c.args.columns.now c.args.others.now c.loop-other.other-index c.requires.columns c.requires.others (search rules) c.loop-other.invariant

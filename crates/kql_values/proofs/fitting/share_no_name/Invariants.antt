use Rattle.std.proofs.Common.{take}
use Rattle.kql_values.proofs.FittingLaws.{AreApart}
use Rattle.kql_values.proofs.fitting.share_no_name.Given as goal

abbrev pub invariant-loop-other : goal.invariant-loop-other
invariant-loop-other l = AreApart l.columns (take l.other-index l.others)

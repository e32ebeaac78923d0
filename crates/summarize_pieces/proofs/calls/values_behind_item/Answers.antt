use Rattle.std.proofs.Common.{length, refl}
use Rattle.summarize_pieces.proofs.FirstSteps.{behind-firsts}
use Rattle.summarize_pieces.proofs.calls.values_behind_item.Goals as goal

pub returns-in-Some : goal.returns-in-Some
returns-in-Some c = behind-firsts c.args.e.now c.in-Some.columns.now (length c.in-Some.columns.now) c.args.values.now c.behind_firsts.result.now c.in-Some.ensures.some refl c.behind_firsts.ensures

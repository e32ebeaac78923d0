use Rattle.agg_folds.proofs.KeyFacts.{same-answer}
use Rattle.agg_folds.proofs.held.HeldPartialEq.eq.Goals as goal

pub returns : goal.returns
returns c = same-answer c.args.self.now c.args.other.now c.same_value.result c.same_value.ensures

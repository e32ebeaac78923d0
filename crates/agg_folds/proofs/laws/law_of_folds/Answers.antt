use Rattle.agg_folds.proofs.FoldLaws.{chosen-is-greatest, chosen-is-least, fold-is-aggregate}
use Rattle.agg_folds.proofs.laws.law_of_folds.Goals as goal

pub returns-clause-value : goal.returns-clause-value
returns-clause-value c = fold-is-aggregate

pub returns-clause-greatest : goal.returns-clause-greatest
returns-clause-greatest c = chosen-is-greatest

pub returns-clause-least : goal.returns-clause-least
returns-clause-least c = chosen-is-least

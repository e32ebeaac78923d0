use Rattle.std.proofs.Common.{refl}
use Rattle.agg_folds.specs.States.{fold_of}
use Rattle.agg_folds.proofs.PieceLaws.{fold-joins}
use Rattle.agg_folds.proofs.RowLaws.{count-of-fold, fold-steps, value-of-fold}
use Rattle.agg_folds.proofs.pieces.FoldCallPieceFold.law_of_pieces.Goals as goal

pub returns-clause-steps : goal.returns-clause-steps
returns-clause-steps c = fold-steps c.args.self.now

pub returns-clause-joins : goal.returns-clause-joins
returns-clause-joins c = fold-joins c.args.self.now

pub returns-clause-finishes : goal.returns-clause-finishes
returns-clause-finishes c = λ rows. value-of-fold c.args.self.now rows (fold_of c.args.self.now rows) refl

pub returns-clause-counts : goal.returns-clause-counts
returns-clause-counts c = count-of-fold c.args.self.now

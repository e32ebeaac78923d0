use Rattle.agg_folds.proofs.JoinStates.{rows-joined}
use Rattle.agg_folds.proofs.RowLaws.{ok-along}
use Rattle.agg_folds.proofs.fold.Fold.join.Goals as goal

pub returns : goal.returns
returns c = record { joined = c.take_all.ensures.taken; rows = λ call rows more h e f. ok-along c.take_all.result _ _ (λ n. rows-joined call rows more h c.args.self.now c.args.other.now c.take_all.new.self e f n) c.take_all.ensures.taken }

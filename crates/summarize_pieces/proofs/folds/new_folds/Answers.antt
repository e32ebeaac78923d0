use Rattle.summarize_pieces.proofs.PassSteps.{news-more}
use Rattle.summarize_pieces.proofs.folds.new_folds.Goals as goal

pub loop-g-preserved : goal.loop-g-preserved
loop-g-preserved c = news-more c.args.call c.loop-g.g c.loop-g.folds.items c.push.new.self.items c.new-fold.result c.loop-g.invariant c.new-fold.ensures.none c.in_ok-push.ensures.items

use Rattle.std.proofs.Common.{◌∙◌}
use Rattle.agg_folds.proofs.RowLaws.{place-of-fold}
use Rattle.agg_folds.proofs.fold.Fold.chosen.Goals as goal

pub returns : goal.returns
returns c = record { place = c.place.ensures; row = λ call rows e. c.place.ensures ∙ place-of-fold call rows c.args.self.now e }

use Rattle.live_catalogue.proofs.Steps.{enters}
use Rattle.live_catalogue.proofs.reader.look.Goals as goal

pub enter_as-requires : goal.enter_as-requires
enter_as-requires g c x = enters g.V.Grows.grown g.K.Promise.promised _ _ x

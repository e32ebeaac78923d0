use Rattle.live_catalogue.proofs.Lawful.{lawful}
use Rattle.live_catalogue.proofs.laws.every_live_value_is_lawful.Goals as goal

pub returns : goal.returns
returns g c = record { lawful = lawful g.V.Grows.grown g.K.Promise.promised }

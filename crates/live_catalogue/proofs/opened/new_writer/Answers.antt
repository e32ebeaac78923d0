use Rattle.std.proofs.Common.{refl}
use Rattle.live_catalogue.proofs.Steps.{opens}
use Rattle.live_catalogue.proofs.opened.new_writer.Goals as goal

pub new-requires-clause-rule : goal.new-requires-clause-rule
new-requires-clause-rule g c = opens g.V.Grows.grown g.K.Promise.promised _ refl c.requires.promise

use Rattle.std.proofs.Common.{ap}
use Rattle.live_catalogue.specs.declared.known.Known.{Known}
use Rattle.live_catalogue.proofs.Steps.{admits, forks_note, merges_at}
use Rattle.live_catalogue.proofs.appender.Appender.note.Goals as goal

pub reader-requires : goal.reader-requires
reader-requires g c = admits g.V.Grows.grown g.K.Promise.promised

pub tell-requires : goal.tell-requires
tell-requires g c = forks_note g.V.Grows.grown g.K.Promise.promised _ _

pub learn-requires-clause-rule : goal.learn-requires-clause-rule
learn-requires-clause-rule g c = merges_at g.V.Grows.grown g.K.Promise.promised _ _ _ _ c.in_ok-reader.ensures.view (ap (λ (k : Known g.row.V.Denot). k.appends) c.tell.ensures.given.1)

use Rattle.std.proofs.Common.{subst}
use Rattle.worker_board.specs.Views.{WholeClaims, Replays}
use Rattle.worker_board.proofs.board.gathered.Gathered.claims.Goals as goal

pub returns-clause-core : goal.returns-clause-core
returns-clause-core c = subst (λ (g : WholeClaims). Replays g.size g.claims) c.self.view_is (c.claims_are_replayed.ensures.replayed _ _ _ c.self.invariant.0)

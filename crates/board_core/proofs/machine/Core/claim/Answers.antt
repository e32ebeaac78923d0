use Rattle.std.proofs.Common.{◌≡◌, ap, sym, ◌∙◌, rules, true}
use Rattle.board_core.specs.State.{may_claim}
use Rattle.board_core.specs.Storage.{state_of}
use Rattle.board_core.proofs.Stored.{reached_claimed, reached_done, room_for_one, stored_from}
use Rattle.board_core.proofs.machine.Core.claim.Goals as goal

pub invariant_of-self : goal.invariant_of-self
invariant_of-self c =
    let may : may_claim (state_of c.self.inside) c.args.worker ≡ true = ap (λ s. may_claim s c.args.worker) c.self.view_is ∙ (sym c.may_claim.ensures.test ∙ c.if-not-may_claim.false) in
    stored_from _ (reached_done (state_of c.self.inside) c.args.worker c.self.invariant.reached may (search rules)) c.self.invariant.room c.self.invariant.small

pub add_to_list-requires-clause-room : goal.add_to_list-requires-clause-room
add_to_list-requires-clause-room c =
    let may : may_claim (state_of c.self.inside) c.args.worker ≡ true = ap (λ s. may_claim s c.args.worker) c.self.view_is ∙ (sym c.may_claim.ensures.test ∙ c.if-not-may_claim.false) in
    room_for_one c.self.inside c.args.worker c.self.invariant may (search rules)

pub invariant_of-self-2 : goal.invariant_of-self-2
invariant_of-self-2 c =
    let may : may_claim (state_of c.self.inside) c.args.worker ≡ true = ap (λ s. may_claim s c.args.worker) c.self.view_is ∙ (sym c.may_claim.ensures.test ∙ c.if-not-may_claim.false) in
    let reached = reached_claimed (state_of c.self.inside) c.args.worker c.self.invariant.reached may (search rules) in
    stored_from _ (rw c.add_to_list.ensures.added reached) (c.add_to_list.ensures.roomy _ c.self.invariant.room) c.self.invariant.small

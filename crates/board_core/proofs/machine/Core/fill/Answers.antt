use Rattle.std.proofs.Common.{◌≡◌, sym, ◌∙◌, arith, rules, None, Some, subst}
use Rattle.std.proofs.lemmas.List.{get_or_read, length-set}
use Rattle.board_core.specs.State.{open_claim_of}
use Rattle.board_core.specs.Lists.{HaveRoom}
use Rattle.board_core.specs.Storage.{state_of}
use Rattle.board_core.proofs.Stored.{reached_filled, open_in_slots, stored_from}
use Rattle.board_core.proofs.machine.Core.fill.Goals as goal

pub index_mut-requires-2 : goal.index_mut-requires-2
index_mut-requires-2 c =
    let its_own : open_claim_of (state_of c.self.inside) c.args.worker ≡ Some c.in-Some.piece =
    sym (get_or_read c.self.inside.open_claims.items c.args.worker c.index.result.now (search rules) c.index.ensures None) ∙ c.in-Some.is in
    omega (arith, open_in_slots c.self.inside c.args.worker c.in-Some.piece c.self.invariant its_own, c.self.inside.slots.ok.0)

pub invariant_of-self : goal.invariant_of-self
invariant_of-self c =
    let its_own : open_claim_of (state_of c.self.inside) c.args.worker ≡ Some c.in-Some.piece =
    sym (get_or_read c.self.inside.open_claims.items c.args.worker c.index.result.now (search rules) c.index.ensures None) ∙ c.in-Some.is in
    stored_from _ (reached_filled (state_of c.self.inside) c.args.worker c.in-Some.piece c.self.invariant.reached its_own)
    (subst (λ n. HaveRoom n c.self.inside.claims.items) (sym (length-set c.self.inside.slots.items c.in-Some.piece (Some c.in-Some.piece))) c.self.invariant.room)
    (omega (arith, length-set c.self.inside.slots.items c.in-Some.piece (Some c.in-Some.piece), c.self.invariant.small))

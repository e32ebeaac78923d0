use Rattle.std.proofs.Common.{◌≡◌, ◌↔◌, sym, subst}
use Rattle.board_core.specs.declared.events.Event.{Event}
use Rattle.board_core.specs.declared.events.Event.TheVariants.{Claim}
use Rattle.board_core.specs.declared.events.Stepped.{Stepped}
use Rattle.board_core.specs.declared.events.Stepped.TheVariants.{Done}
use Rattle.board_core.specs.Laws.{IsClaimAtTheEnd}
use Rattle.board_core.proofs.AnswerLemmas.{done_at_the_end}
use Rattle.board_core.proofs.machine.Core.step.Goals as goal

pub returns-in-Claim-clause-done : goal.returns-in-Claim-clause-done
returns-in-Claim-clause-done c =
    subst (λ (e : Event). (c.claim.result ≡ Done) ↔ IsClaimAtTheEnd c.args.self.now e) (sym c.in-Claim.is)
    (subst (λ (a : Stepped). (a ≡ Done) ↔ IsClaimAtTheEnd c.args.self.now (Claim c.in-Claim.worker)) (sym c.claim.ensures.answer)
    (done_at_the_end c.args.self.now c.in-Claim.worker c.claim.ensures.within))

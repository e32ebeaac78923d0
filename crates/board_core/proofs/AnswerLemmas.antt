use Rattle.std.proofs.Common.{◌≡◌, ℕ, ◌<◌, ◌≤◌, ◌↔◌, true, false, cond, not, ◌&&◌, ltb, is_none, None, refl, sym, ap, ◌∙◌, subst, arith, ⊎_elim}
use Rattle.std.proofs.lemmas.Bool.{cases_Bool, cond-false, and_from, not_from_false, lt-ltb, ltb-true, ltb-false}
use Rattle.board_core.specs.declared.events.Event.TheVariants.{Claim}
use Rattle.board_core.specs.declared.events.Stepped.TheVariants.{Claimed, Done, Ignored}
use Rattle.board_core.specs.State.{State, worker_count, piece_count, open_claim_of, is_told, may_claim, answer_to_claim}
use Rattle.board_core.specs.Laws.{IsClaimAtTheEnd}
use Rattle.board_core.proofs.Lawful.{in_turn}
use Rattle.board_core.proofs.Stored.{answer_claimed, answer_done}

pub may_from : (s : State) (worker : ℕ) → worker < worker_count s → open_claim_of s worker ≡ None → is_told s worker ≡ false → may_claim s worker ≡ true
may_from s worker known closed going =
    and_from (ltb worker (worker_count s)) (is_none (open_claim_of s worker) && not (is_told s worker))
    (lt-ltb worker (worker_count s) known)
    (and_from (is_none (open_claim_of s worker)) (not (is_told s worker)) (ap is_none closed) (not_from_false (is_told s worker) going))

end_from_answer : (s : State) (worker : ℕ) → s.next ≤ piece_count s → answer_to_claim s worker ≡ Done → IsClaimAtTheEnd s (Claim worker)
end_from_answer s worker within h =
    ⊎_elim
    (λ may. let t = in_turn s worker may in
    ⊎_elim
    (λ left. let e : Claimed s.next ≡ Done = sym (answer_claimed s worker may (ltb-true s.next (piece_count s) left)) ∙ h in cc)
    (λ none_left. record {
      worker = worker;
      claims = refl;
      known = t.known;
      closed = t.closed;
      going = t.going;
      none_left = omega (arith, ltb-false s.next (piece_count s) none_left);
    })
    (cases_Bool (ltb s.next (piece_count s))))
    (λ may_not. let e : Ignored ≡ Done = sym (cond-false (may_claim s worker) (cond (ltb s.next (piece_count s)) (Claimed s.next) Done) Ignored may_not) ∙ h in cc)
    (cases_Bool (may_claim s worker))

-- a claim is answered by `Done` exactly where it is in turn and all pieces are claimed
pub done_at_the_end : (s : State) (worker : ℕ) → s.next ≤ piece_count s → (answer_to_claim s worker ≡ Done) ↔ IsClaimAtTheEnd s (Claim worker)
done_at_the_end s worker within = (
  end_from_answer s worker within,
  λ end. let same : worker ≡ end.worker = (let e = end.claims in cc) in
      subst (λ w. answer_to_claim s w ≡ Done) (sym same)
      (answer_done s end.worker (may_from s end.worker end.known end.closed end.going) (omega (arith, end.none_left))),
)

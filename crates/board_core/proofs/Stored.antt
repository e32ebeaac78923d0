use Rattle.std.proofs.Common.{◌≡◌, ℕ, ◌^◌, ◌<◌, ◌≤◌, true, Option, Some, None, [], length, get_or, sym, ap, ◌∙◌, subst, arith, Vec, vec_len, vec_capacity}
use Rattle.std.specs.declared.alloc.Global.{Global}
use Rattle.std.specs.List.{HoldsAt}
use Rattle.std.proofs.lemmas.List.{get_or-map, length-map, length-replicate}
use Rattle.std.proofs.lemmas.List.Sums.{get_or-le-sum_by}
use Rattle.std.proofs.lemmas.Bool.{cond-true, cond-false, lt-ltb, le-ltb}
use Rattle.board_core.specs.declared.events.Event.TheVariants.{Claim, Fill}
use Rattle.board_core.specs.declared.events.Stepped.{Stepped}
use Rattle.board_core.specs.declared.events.Stepped.TheVariants.{Claimed, Filled, Done, Ignored}
use Rattle.board_core.specs.declared.machine.Core.TheInside.{Inside}
use Rattle.board_core.specs.Lists.{contents, HaveRoom}
use Rattle.board_core.specs.State.{State, first, effect, piece_count, open_claim_of, may_claim, answer_to_claim, answer_to_fill, IsReached}
use Rattle.board_core.specs.Storage.{state_of, IsStored}
use Rattle.board_core.proofs.Lawful.{kept_reached, reached_first, reached_after, in_turn}

pub answer_claimed : (s : State) (worker : ℕ) → may_claim s worker ≡ true → s.next < piece_count s → answer_to_claim s worker ≡ Claimed s.next
answer_claimed s worker may left = cond-true (may_claim s worker) _ Ignored may ∙ cond-true _ (Claimed s.next) Done (lt-ltb s.next (piece_count s) left)

pub answer_done : (s : State) (worker : ℕ) → may_claim s worker ≡ true → piece_count s ≤ s.next → answer_to_claim s worker ≡ Done
answer_done s worker may none_left = cond-true (may_claim s worker) _ Ignored may ∙ cond-false _ (Claimed s.next) Done (le-ltb s.next (piece_count s) none_left)

pub reached_claimed : (s : State) (worker : ℕ) → IsReached s → may_claim s worker ≡ true → s.next < piece_count s → IsReached (effect s worker (Claimed s.next))
reached_claimed s worker r may left = subst (λ (a : Stepped). IsReached (effect s worker a)) (answer_claimed s worker may left) (reached_after s (Claim worker) r)

pub reached_done : (s : State) (worker : ℕ) → IsReached s → may_claim s worker ≡ true → piece_count s ≤ s.next → IsReached (effect s worker Done)
reached_done s worker r may none_left = subst (λ (a : Stepped). IsReached (effect s worker a)) (answer_done s worker may none_left) (reached_after s (Claim worker) r)

pub reached_filled : (s : State) (worker piece : ℕ) → IsReached s → open_claim_of s worker ≡ Some piece → IsReached (effect s worker (Filled piece))
reached_filled s worker piece r its_own = subst (λ (held : Option ℕ). IsReached (effect s worker (answer_to_fill held))) its_own (reached_after s (Fill worker) r)

-- what a core keeps, from the state that was reached and the room
pub stored_from : (a : Inside) → IsReached (state_of a) → HaveRoom (length a.slots.items) a.claims.items → length a.slots.items < 2 ^ 32 → IsStored a
stored_from a reached room small =
    let k = kept_reached (state_of a) reached in
    let workers = length-map a.claims.items (λ (v : Vec ℕ Global). v.items) in
    record {
      reached = reached;
      open_list = k.open_list ∙ workers;
      ended_list = k.ended_list ∙ workers;
      room = room;
      small = small;
    }

-- a worker that may claim a piece has room for one more
pub room_for_one : (a : Inside) (worker : ℕ) → IsStored a → may_claim (state_of a) worker ≡ true → a.next < length a.slots.items → HoldsAt (λ (v : Vec ℕ Global). vec_len v < vec_capacity v) a.claims.items worker
room_for_one a worker stored may left d =
    let v = get_or a.claims.items worker d in
    let k = kept_reached (state_of a) stored.reached in
    let known : worker < length a.claims.items = omega (arith, (in_turn (state_of a) worker may).known, length-map a.claims.items (λ (w : Vec ℕ Global). w.items)) in
    let few = get_or-le-sum_by length (contents a.claims.items) worker [] (omega (arith, length-map a.claims.items (λ (w : Vec ℕ Global). w.items))) in
    let same = ap length (get_or-map (λ (w : Vec ℕ Global). w.items) a.claims.items worker d [] known) in
    omega (arith, stored.room worker d known, k.counted, few, same, v.ok.0)

-- an open claim is of a piece that has a slot
pub open_in_slots : (a : Inside) (worker piece : ℕ) → IsStored a → open_claim_of (state_of a) worker ≡ Some piece → piece < length a.slots.items
open_in_slots a worker piece stored its_own =
    let k = kept_reached (state_of a) stored.reached in
    omega (arith, (k.opened worker piece its_own).1, k.within)

-- a core that is just made
pub stored_first : (a : Inside) (pieces workers : ℕ) → state_of a ≡ first pieces workers → HaveRoom pieces a.claims.items → pieces < 2 ^ 32 → IsStored a
stored_first a pieces workers new room small =
    let slots = ap piece_count new ∙ length-replicate pieces None in
    stored_from a (subst IsReached (sym new) (reached_first pieces workers)) (subst (λ n. HaveRoom n a.claims.items) (sym slots) room) (omega (arith, slots))

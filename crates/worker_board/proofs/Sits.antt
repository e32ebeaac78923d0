-- What a call on a seat of a board begins from and ends with.
use Rattle.std.proofs.Common.{◌≡◌, ◌↔◌, ℕ, ◌+◌, ◌<◌, ◌≤◌, min, Bool, true, false, ◌||◌, IsTrue, List, [], ◌++◌, length, get_or, vec_capacity, eqb, ne_eqb, refl, sym, ap, subst, ◌∙◌, length-append, arith}
use Rattle.std.proofs.lemmas.List.Sums.{get_or-le-sum_by}
use mathlib.Core.Logic.{dite}
use native.Mathlib.Decide.{dec_le}
use Rattle.atomic_table.specs.Table.{Final, Seen, Me}
use Rattle.board_core.specs.declared.events.Claim.{Claim}
use Rattle.worker_board.specs.declared.known.Size.{Size}
use Rattle.worker_board.specs.declared.known.Known.{Known}
use Rattle.worker_board.specs.Counts.{least, times, once_below, times_claimed, claims_by}
use Rattle.worker_board.specs.Moves.{only, together}
use Rattle.worker_board.specs.Rule.{Keeps}
use Rattle.worker_board.specs.Views.{BoardView, SeatView, IsOf, IsDone, IsWhole, HoldsEach, NamesEach}
use Rattle.worker_board.specs.declared.seat.WorkerSeat.TheInside.{Inside}
use Rattle.worker_board.specs.Inside.{IsSeated}
use Rattle.worker_board.proofs.Sums.{least-append, has_each, has_count, once_below-in, once_below-out, same, same_itself, same-le-once}
use Rattle.worker_board.proofs.RuleKept.{closes}

-- claims of which each piece has one, and which only workers have, name each piece once
pub names_each : (size : Size) (claims : List Claim) → ((p : ℕ) → times_claimed p claims ≡ once_below p size.pieces) → ((w : ℕ) → 0 < claims_by w claims → w < size.workers) → NamesEach size claims
names_each size claims pieces workers =
    record {
      once = λ p lt. pieces p ∙ once_below-in p size.pieces lt;
      known = λ k d lt.
          let c = get_or claims k d in
          let here = get_or-le-sum_by (λ (z : Claim). same c.piece z.piece) claims k d lt in
          let there = get_or-le-sum_by (λ (z : Claim). same c.worker z.worker) claims k d lt in (
            dite (dec_le size.pieces c.piece)
                (λ le. absurd (omega (arith, here, same_itself c.piece, pieces c.piece, once_below-out c.piece size.pieces le)))
                (λ gt. omega arith),
            workers c.worker (omega (arith, there, same_itself c.worker)),
          );
    }

or_marks : (x y : Bool) (p q n : ℕ) → n ≡ p + q → (IsTrue x ↔ (0 < p)) → (IsTrue y ↔ (0 < q)) → IsTrue (x || y) ↔ (0 < n)
or_marks true y p q n e a b = ((λ _. omega (arith, a.0 refl)), (λ _. refl))
or_marks false y p q n e a b = ((λ t. omega (arith, b.0 t)), (λ lt. let none : 0 < p → ⊥ = λ h. (let f : false ≡ true = a.1 h in cc) in b.1 (omega (arith, none))))

-- the fields of a seat that has taken another over
pub taken_over : (a b r : Inside) → IsSeated a → IsSeated b → r.place.me ≡ (together a.place.me.0 b.place.me.0, a.place.me.1) → r.claims.items ≡ a.claims.items ++ b.claims.items
    → r.pieces ≡ a.pieces → r.workers ≡ a.workers → ((w : ℕ) → times w r.place.me.0.numbers ≤ once_below w r.place.me.0.size.workers) → a.pieces ≤ vec_capacity r.claims → r.first ≡ min a.first b.first → r.held ≡ a.held + b.held → r.done ≡ (a.done || b.done) → r.stopped ≡ (a.stopped || b.stopped)
    → IsSeated r
taken_over a b r ka kb me items pieces workers numbers room first held done stopped = record {
  empty_handed = ap (λ (m : Me (Unit {0}) Known). m.1) me ∙ ka.empty_handed;
  claims = items ∙ ap (λ (l : List Claim). l ++ b.claims.items) ka.claims ∙ ap (λ (l : List Claim). a.place.me.0.claims ++ l) kb.claims ∙ sym (known (λ v. v.claims));
  room = omega (arith, pieces, room);
  pieces = pieces ∙ ka.pieces ∙ sym (known (λ v. v.size.pieces));
  first = let least_of : least (a.place.me.0.numbers ++ b.place.me.0.numbers) ≡ min (least a.place.me.0.numbers) (least b.place.me.0.numbers) = least-append a.place.me.0.numbers b.place.me.0.numbers (omega (arith, ka.held, ka.some_held)) (omega (arith, kb.held, kb.some_held)) in
      let there : least r.place.me.0.numbers ≡ least (a.place.me.0.numbers ++ b.place.me.0.numbers) = known (λ v. least v.numbers) in omega (arith, first, ka.first, kb.first, least_of, there);
  held = let there : length r.place.me.0.numbers ≡ length (a.place.me.0.numbers ++ b.place.me.0.numbers) = known (λ v. length v.numbers) in omega (arith, held, ka.held, kb.held, there, length-append a.place.me.0.numbers b.place.me.0.numbers);
  some_held = omega (arith, held, ka.some_held);
  workers = there;
  numbers = λ w. subst (λ (z : ℕ). times w r.place.me.0.numbers ≤ once_below w z) (sym there) (numbers w);
  done = subst (λ (z : Bool). IsTrue z ↔ (0 < length r.place.me.0.ended)) (sym done)
      (or_marks _ _ _ _ _ (known (λ v. length v.ended) ∙ length-append a.place.me.0.ended b.place.me.0.ended) ka.done kb.done);
  stopped = subst (λ (z : Bool). IsTrue z ↔ (0 < r.place.me.0.stops)) (sym stopped) (or_marks _ _ _ _ _ (known (λ v. v.stops)) ka.stopped kb.stopped);
}
  where
    known : {X : Type 0} (f : Known → X) → f r.place.me.0 ≡ f (together a.place.me.0 b.place.me.0)
    known f = ap (λ (m : Me (Unit {0}) Known). f m.0) me

    there : r.workers ≡ r.place.me.0.size.workers
    there = workers ∙ ka.workers ∙ sym (known (λ v. v.size.workers))

module _ (board b : BoardView) (seat s : SeatView) (same_board : b ≡ board) (same_seat : s ≡ seat) where
  pub at_hand : IsOf board seat → IsOf b s
  at_hand of = subst (λ (z : BoardView × SeatView). IsOf z.0 z.1) (λ i. (sym same_board i, sym same_seat i)) of

  pub not_done : ¬ IsDone seat → length s.known.ended ≡ 0
  not_done none = let n : 0 < length s.known.ended → ⊥ = λ p. none (subst IsDone same_seat p) in omega (arith, n)

  -- what `close` finds in the last seat
  pub gathers : {S : Type 0} (k : Size) (id : ℕ) (ws : List ℕ) (xs : List S) (claims : List Claim) → k ≡ b.size → claims ≡ s.known.claims → IsWhole board seat
      → Final (Seen (Keeps k) id s.known) ws xs → NamesEach b.size claims × (length claims ≡ b.size.pieces)
  gathers k id ws xs claims key items whole final =
      let here : IsWhole b s = subst (λ (z : BoardView × SeatView). IsWhole z.0 z.1) (λ i. (sym same_board i, sym same_seat i)) whole in
      let told = closes k id s.known ws xs (here.0 ∙ ap (λ (z : Size). z.workers) (sym key)) here.1 final in
      subst (λ (z : Size × List Claim). NamesEach z.0 z.1 × (length z.1 ≡ z.0.pieces)) (λ i. (key i, sym items i)) (names_each k s.known.claims told.0 told.3, told.1)

  -- as many numbers as there are workers are each worker's number
  pub whole_is : (s.known.size.workers ≡ board.size.workers) → ((w : ℕ) → times w s.known.numbers ≤ once_below w s.known.size.workers) → (length seat.known.numbers ≡ board.size.workers) ↔ HoldsEach board seat
  whole_is workers once =
      let here : (w : ℕ) → times w seat.known.numbers ≤ once_below w board.size.workers = λ w. subst (λ (z : SeatView × ℕ). times w z.0.known.numbers ≤ once_below w z.1) (λ i. (same_seat i, workers i)) (once w) in
      (has_each board.size.workers seat.known.numbers here, has_count board.size.workers seat.known.numbers here)

-- what `is_whole` finds
module _ (board b : BoardView) (seat : SeatView) (a : Inside) (kept : IsSeated a) (same_board : b ≡ board) (same_seat : record { board = a.place.table_id; known = a.place.me.0 } ≡ seat) (of : IsOf board seat) where
  count : (length seat.known.numbers ≡ board.size.workers) ↔ HoldsEach board seat
  count = whole_is board b seat _ same_board same_seat (ap (λ (h : SeatView). h.known.size.workers) same_seat ∙ of.workers) (λ w. subst (λ (z : ℕ). times w a.place.me.0.numbers ≤ once_below w z) kept.workers (kept.numbers w))

  counted : length seat.known.numbers ≡ a.held
  counted = sym (ap (λ (h : SeatView). length h.known.numbers) same_seat) ∙ sym kept.held

  workers_here : b.size.workers ≡ board.size.workers
  workers_here = ap (λ (r : BoardView). r.size.workers) same_board

  pub whole_then : a.held ≡ b.size.workers → IsTrue a.done ↔ (HoldsEach board seat × IsDone seat)
  whole_then e = (
    (λ t. (count.0 (counted ∙ e ∙ workers_here), subst IsDone same_seat (kept.done.0 t))),
    (λ h. kept.done.1 (subst IsDone (sym same_seat) h.1)),
  )

  pub whole_else : ¬ (a.held ≡ b.size.workers) → IsTrue (eqb a.held b.size.workers) ↔ (HoldsEach board seat × IsDone seat)
  whole_else ne = (
    (λ t. absurd (let f : false ≡ true = sym (ne_eqb a.held b.size.workers ne) ∙ t in cc)),
    (λ h. absurd (ne (sym counted ∙ count.1 h.0 ∙ sym workers_here))),
  )

-- the one number of a seat that was dealt
pub one_number : (v : Known) (size : Size) (x : ℕ) → v ≡ only v.size x → size ≡ v.size → x < size.workers → (w : ℕ) → times w v.numbers ≤ once_below w size.workers
one_number v size x is same_size lt w = omega (arith, ap (λ (u : Known). times w u.numbers) is, same-le-once w x size.workers lt)

-- a seat begins with one number, no claim and no mark
pub seat_begins : (a : Inside) (size : Size) (worker : ℕ) → a.place.me.1 ≡ [] → a.place.me.0 ≡ only a.place.me.0.size worker → size ≡ a.place.me.0.size → worker < size.workers
    → a.claims.items ≡ [] → size.pieces ≤ vec_capacity a.claims → a.pieces ≡ size.pieces → a.workers ≡ size.workers → a.first ≡ worker → a.held ≡ 1 → a.done ≡ false → a.stopped ≡ false → IsSeated a
seat_begins a size worker hands is same_size lt items room pieces workers first held done stopped = record {
  empty_handed = hands;
  claims = items ∙ sym (ap (λ (v : Known). v.claims) is);
  room = omega (arith, pieces, room);
  pieces = pieces ∙ ap (λ (z : Size). z.pieces) same_size;
  first = first ∙ sym (ap (λ (v : Known). least v.numbers) is);
  held = held ∙ sym (ap (λ (v : Known). length v.numbers) is);
  some_held = omega (arith, held);
  workers = workers ∙ ap (λ (z : Size). z.workers) same_size;
  numbers = λ w. subst (λ (z : ℕ). times w a.place.me.0.numbers ≤ once_below w z) (sym workers) (one_number a.place.me.0 size worker is same_size lt w);
  done = ((λ t. absurd (let f : false ≡ true = sym done ∙ t in cc)), (λ p. absurd (omega (arith, ap (λ (v : Known). length v.ended) is))));
  stopped = ((λ t. absurd (let f : false ≡ true = sym stopped ∙ t in cc)), (λ p. absurd (omega (arith, ap (λ (v : Known). v.stops) is))));
}

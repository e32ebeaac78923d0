-- Each kind of step keeps the rule, over plain numbers and lists of views.
use Rattle.std.proofs.Common.{◌≡◌, ◌≢◌, ℕ, zero, suc, ◌+◌, ◌<◌, ◌≤◌, ◌^◌, min, List, [], ◌∷◌, ◌++◌, length, set, sum_by, sym, refl, ap, subst, ◌∙◌, ⊎_elim, length-append, arith}
use Rattle.std.proofs.lemmas.List.Sums.{sum_by-append}
use mathlib.Core.Option.{some}
use mathlib.Core.Logic.{dite}
use native.Mathlib.Decide.{ℕ_discrete, dec_le}
use lib.ListN.{get_elem?}
use Rattle.atomic_table.proofs.Lists.{at_set, at_snoc, set_else}
use Rattle.board_core.specs.declared.events.Claim.{Claim}
use Rattle.worker_board.specs.declared.known.Size.{Size}
use Rattle.worker_board.specs.declared.known.Known.{Known}
use Rattle.worker_board.specs.Counts.{times, times_claimed, claims_by, once_below, least, times_held, times_taken, number_count, claim_count, mark_count, stop_count}
use Rattle.worker_board.specs.Moves.{everyone, IsFresh, first_of, others_of, all_but_first, first_alone, with_claim, told_end, together, spent, with_stop}
use Rattle.worker_board.specs.Rule.{IsSound, IsKept}
use Rattle.worker_board.proofs.Sums.{same, sum_push, sum-set, sum-at, sum-le, sum-alone, sum-empty, times-cons, once_below-suc, same_itself, same_else, times-range, length-range, least_there, once_below-out, nowhere}

same-le-times : (w : ℕ) (xs : List ℕ) → 0 < length xs → same w (least xs) ≤ times w xs
same-le-times w xs h = dite (ℕ_discrete w (least xs))
    (λ e. subst (λ (z : ℕ). same z (least xs) ≤ times z xs) (sym e) (omega (arith, same_itself (least xs), least_there xs h)))
    (λ n. omega (arith, same_else w (least xs) n))

shown : (a b t : ℕ) → (0 < a → 0 < t) → (0 < b → 0 < t) → 0 < a + b → 0 < t
shown zero b t f g p = g (omega arith)
shown (suc a) b t f g p = f (omega arith)

-- the piece n is claimed
pub claims : (k : Size) (n b id : ℕ) (views : List Known) (v : Known) → IsKept k n b views → get_elem? views id ≡ some v → length v.ended ≡ 0 → 0 < length v.numbers
    → n < k.pieces → IsKept k (n + 1) b (set views id (with_claim v n))
claims k n b id views v h at undone some_number lt = record {
  sizes = h.sizes;
  numbers = λ w. omega (arith, h.numbers w, changes (times_held w));
  numbers_counted = omega (arith, h.numbers_counted, changes number_count);
  pieces = λ x. let now : once_below x (min (n + 1) k.pieces) ≡ once_below x (suc n) = ap (once_below x) (omega arith) in
      let was : once_below x (min n k.pieces) ≡ once_below x n = ap (once_below x) (omega arith) in
      let more : times_taken x (with_claim v n) ≡ times_taken x v + same x n = sum_push (λ (c : Claim). same x c.piece) v.claims (record { piece = n; worker = least v.numbers }) in
      omega (arith, h.pieces x, changes (times_taken x), more, once_below-suc x n);
  pieces_counted = let more : claim_count (with_claim v n) ≡ claim_count v + 1 = length-append v.claims (record { piece = n; worker = least v.numbers } ∷ []) in omega (arith, h.pieces_counted, changes claim_count, more);
  bounded = omega (arith, h.bounded, changes mark_count);
  past = λ p. omega (arith, h.past, changes mark_count);
  unstopped = λ z. h.unstopped (omega (arith, changes stop_count));
  stopped = λ p. h.stopped (omega (arith, changes stop_count));
  each = λ j u e. ⊎_elim
      (λ (t : (j ≡ id) × (with_claim v n ≡ u)). subst (IsSound k) t.1 (record {
        same_size = old.same_size;
        claims_held = λ w p. let more : claims_by w (with_claim v n).claims ≡ claims_by w v.claims + same w (least v.numbers) = sum_push (λ (c : Claim). same w c.worker) v.claims (record { piece = n; worker = least v.numbers }) in
            shown (claims_by w v.claims) (same w (least v.numbers)) (times w v.numbers) (old.claims_held w) (λ q. omega (arith, same-le-times w v.numbers some_number)) (omega (arith, more));
        marks_held = old.marks_held;
        marks_few = old.marks_few;
        spent = λ z. absurd (omega arith);
      }))
      (λ (t : (j ≢ id) × (get_elem? views j ≡ some u)). h.each j u t.1)
      (at_set views id j (with_claim v n) u e);
}
  where
    changes : (f : Known → ℕ) → sum_by f (set views id (with_claim v n)) + f v ≡ sum_by f views + f (with_claim v n)
    changes f = sum-set f views id v (with_claim v n) at

    old : IsSound k v
    old = h.each id v at

-- no piece is left, and the seat is told so
pub ends : (k : Size) (n b id : ℕ) (views : List Known) (v : Known) → IsKept k n b views → get_elem? views id ≡ some v → length v.ended ≡ 0 → 0 < length v.numbers
    → k.pieces ≤ n → IsKept k (n + 1) b (set views id (told_end v))
ends k n b id views v h at undone some_number le = record {
  sizes = h.sizes;
  numbers = λ w. omega (arith, h.numbers w, changes (times_held w));
  numbers_counted = omega (arith, h.numbers_counted, changes number_count);
  pieces = λ x. let same_min : once_below x (min (n + 1) k.pieces) ≡ once_below x (min n k.pieces) = ap (once_below x) (omega arith) in omega (arith, h.pieces x, changes (times_taken x), same_min);
  pieces_counted = omega (arith, h.pieces_counted, changes claim_count);
  bounded = omega (arith, h.bounded, changes mark_count, more);
  past = λ p. omega arith;
  unstopped = λ z. h.unstopped (omega (arith, changes stop_count));
  stopped = λ p. h.stopped (omega (arith, changes stop_count));
  each = λ j u e. ⊎_elim
      (λ (t : (j ≡ id) × (told_end v ≡ u)). subst (IsSound k) t.1 (record {
        same_size = old.same_size;
        claims_held = old.claims_held;
        marks_held = λ w. omega (arith, sum_push (same w) v.ended (least v.numbers), sum-empty (same w) v.ended undone, same-le-times w v.numbers some_number);
        marks_few = omega (arith, more, undone);
        spent = λ z. absurd (omega arith);
      }))
      (λ (t : (j ≢ id) × (get_elem? views j ≡ some u)). h.each j u t.1)
      (at_set views id j (told_end v) u e);
}
  where
    changes : (f : Known → ℕ) → sum_by f (set views id (told_end v)) + f v ≡ sum_by f views + f (told_end v)
    changes f = sum-set f views id v (told_end v) at

    old : IsSound k v
    old = h.each id v at

    more : mark_count (told_end v) ≡ mark_count v + 1
    more = length-append v.ended (least v.numbers ∷ [])

-- the stop word is set, and the seat gets the stop mark
pub stop_set : (k : Size) (n b id : ℕ) (views : List Known) (v : Known) → IsKept k n b views → get_elem? views id ≡ some v → 0 < length v.numbers
    → IsKept k n 1 (set views id (with_stop v))
stop_set k n b id views v h at some_number = record {
  sizes = h.sizes;
  numbers = λ w. omega (arith, h.numbers w, changes (times_held w));
  numbers_counted = omega (arith, h.numbers_counted, changes number_count);
  pieces = λ x. omega (arith, h.pieces x, changes (times_taken x));
  pieces_counted = omega (arith, h.pieces_counted, changes claim_count);
  bounded = omega (arith, h.bounded, changes mark_count);
  past = λ p. h.past (omega (arith, changes mark_count));
  unstopped = λ z. absurd (omega (arith, changes stop_count, sum-at stop_count views id v at));
  stopped = λ p. refl;
  each = λ j u e. ⊎_elim
      (λ (t : (j ≡ id) × (with_stop v ≡ u)). subst (IsSound k) t.1 (record {
        same_size = old.same_size;
        claims_held = old.claims_held;
        marks_held = old.marks_held;
        marks_few = old.marks_few;
        spent = λ z. absurd (omega arith);
      }))
      (λ (t : (j ≢ id) × (get_elem? views j ≡ some u)). h.each j u t.1)
      (at_set views id j (with_stop v) u e);
}
  where
    changes : (f : Known → ℕ) → sum_by f (set views id (with_stop v)) + f v ≡ sum_by f views + f (with_stop v)
    changes f = sum-set f views id v (with_stop v) at

    old : IsSound k v
    old = h.each id v at

first_and_others : (w : ℕ) (xs : List ℕ) → times w (others_of xs) + times w (first_of xs) ≡ times w xs
first_and_others w [] = refl
first_and_others w (x ∷ xs) = omega (arith, times-cons w x xs)

length_of_others : (xs : List ℕ) → length (others_of xs) + length (first_of xs) ≡ length xs
length_of_others [] = refl
length_of_others (x ∷ xs) = omega arith

-- a view without a claim and a mark is sound, whatever numbers it holds
fresh_sound : (k : Size) (v : Known) → IsFresh v → (0 < length v.numbers → (v.size.pieces ≡ k.pieces) × (v.size.workers ≡ k.workers)) → IsSound k v
fresh_sound k v f sized = record {
  same_size = sized;
  claims_held = λ w p. absurd (omega (arith, sum-empty (λ (c : Claim). same w c.worker) v.claims f.0));
  marks_held = λ w. omega (arith, sum-empty (same w) v.ended f.1);
  marks_few = omega (arith, f.1);
  spent = λ _. f;
}

-- a seat is split
pub splits : (k : Size) (n b id : ℕ) (views : List Known) (v : Known) → IsKept k n b views → get_elem? views id ≡ some v → IsFresh v
    → IsKept k n b (set views id (all_but_first v) ++ first_alone v ∷ [])
splits k n b id views v h at fresh = record {
  sizes = h.sizes;
  numbers = λ w. omega (arith, h.numbers w, changes (times_held w), first_and_others w v.numbers);
  numbers_counted = omega (arith, h.numbers_counted, changes number_count, length_of_others v.numbers);
  pieces = λ x. omega (arith, h.pieces x, changes (times_taken x));
  pieces_counted = omega (arith, h.pieces_counted, changes claim_count);
  bounded = omega (arith, h.bounded, changes mark_count);
  past = λ p. h.past (omega (arith, changes mark_count));
  unstopped = λ z. h.unstopped (omega (arith, changes stop_count));
  stopped = λ p. h.stopped (omega (arith, changes stop_count));
  each = λ j u e. ⊎_elim
      (λ (was : get_elem? (set views id (all_but_first v)) j ≡ some u). ⊎_elim
      (λ (t : (j ≡ id) × (all_but_first v ≡ u)). subst (IsSound k) t.1 (fresh_sound k (all_but_first v) fresh (λ p. old.same_size (omega (arith, length_of_others v.numbers)))))
      (λ (t : (j ≢ id) × (get_elem? views j ≡ some u)). h.each j u t.1)
      (at_set views id j (all_but_first v) u was))
      (λ (new : first_alone v ≡ u). subst (IsSound k) new (fresh_sound k (first_alone v) (refl, refl, refl) (λ p. old.same_size (omega (arith, length_of_others v.numbers)))))
      (at_snoc (set views id (all_but_first v)) (first_alone v) u j e);
}
  where
    changes : (f : Known → ℕ) → sum_by f (set views id (all_but_first v) ++ first_alone v ∷ []) + f v ≡ sum_by f views + f (all_but_first v) + f (first_alone v)
    changes f = omega (arith, sum-set f views id v (all_but_first v) at, sum_push f (set views id (all_but_first v)) (first_alone v))

    old : IsSound k v
    old = h.each id v at

-- a seat is joined into another
pub joins : (k : Size) (n b id other : ℕ) (views : List Known) (v w : Known) → IsKept k n b views → get_elem? views id ≡ some v → ¬ (other ≡ id)
    → get_elem? (set views id (together v w)) other ≡ some w → 0 < length v.numbers
    → IsKept k n b (set (set views id (together v w)) other spent)
joins k n b id other views v w h at apart there some_number = record {
  sizes = h.sizes;
  numbers = λ x. omega (arith, h.numbers x, changes (times_held x), sum_by-append (same x) v.numbers w.numbers);
  numbers_counted = omega (arith, h.numbers_counted, changes number_count, length-append v.numbers w.numbers);
  pieces = λ x. omega (arith, h.pieces x, changes (times_taken x), sum_by-append (λ (c : Claim). same x c.piece) v.claims w.claims);
  pieces_counted = omega (arith, h.pieces_counted, changes claim_count, length-append v.claims w.claims);
  bounded = omega (arith, h.bounded, changes mark_count, length-append v.ended w.ended);
  past = λ p. h.past (omega (arith, changes mark_count, length-append v.ended w.ended));
  unstopped = λ z. h.unstopped (omega (arith, changes stop_count));
  stopped = λ p. h.stopped (omega (arith, changes stop_count));
  each = λ j u e. ⊎_elim
      (λ (t : (j ≡ other) × (spent ≡ u)). subst (IsSound k) t.1 (fresh_sound k spent (refl, refl, refl) (λ p. absurd (omega arith))))
      (λ (t : (j ≢ other) × (get_elem? (set views id (together v w)) j ≡ some u)). ⊎_elim
      (λ (s : (j ≡ id) × (together v w ≡ u)). subst (IsSound k) s.1 (record {
        same_size = λ _. mine.same_size some_number;
        claims_held = λ x p. let more : times x (together v w).numbers ≡ times x v.numbers + times x w.numbers = sum_by-append (same x) v.numbers w.numbers in
            shown (claims_by x v.claims) (claims_by x w.claims) (times x (together v w).numbers) (λ q. omega (arith, more, mine.claims_held x q)) (λ q. omega (arith, more, theirs.claims_held x q))
            (omega (arith, sum_by-append (λ (c : Claim). same x c.worker) v.claims w.claims));
        marks_held = λ x. omega (arith, sum_by-append (same x) v.ended w.ended, sum_by-append (same x) v.numbers w.numbers, mine.marks_held x, theirs.marks_held x);
        marks_few = omega (arith, length-append v.ended w.ended, length-append v.numbers w.numbers, mine.marks_few, theirs.marks_few);
        spent = λ z. absurd (omega (arith, length-append v.numbers w.numbers));
      }))
      (λ (s : (j ≢ id) × (get_elem? views j ≡ some u)). h.each j u s.1)
      (at_set views id j (together v w) u t.1))
      (at_set (set views id (together v w)) other j spent u e);
}
  where
    changes : (f : Known → ℕ) → sum_by f (set (set views id (together v w)) other spent) + f v + f w ≡ sum_by f views + f (together v w) + f spent
    changes f = omega (arith, sum-set f views id v (together v w) at, sum-set f (set views id (together v w)) other w spent there)

    mine : IsSound k v
    mine = h.each id v at

    theirs : IsSound k w
    theirs = h.each other w (sym (set_else views id other (together v w) apart) ∙ there)

-- at the start
pub begins : (k : Size) → k.pieces < 2 ^ 32 → k.workers < 2 ^ 32 → IsKept k 0 0 (everyone k ∷ [])
begins k p w = record {
  sizes = (p, w);
  numbers = λ x. let none : once_below x 0 ≡ 0 = once_below-out x 0 (omega arith) in let whole : once_below x (0 + k.workers) ≡ once_below x k.workers = ap (once_below x) (omega arith) in
      omega (arith, times-range x 0 k.workers, none, whole);
  numbers_counted = omega (arith, length-range 0 k.workers);
  pieces = λ x. let none : once_below x (min 0 k.pieces) ≡ 0 = once_below-out x (min 0 k.pieces) (omega arith) in omega (arith, none);
  pieces_counted = omega arith;
  bounded = omega arith;
  past = λ q. absurd (omega arith);
  unstopped = λ _. refl;
  stopped = λ q. absurd (omega arith);
  each = λ j u e. ⊎_elim (λ (was : get_elem? [] j ≡ some u). absurd (nowhere j u was)) (λ (new : everyone k ≡ u). subst (IsSound k) new (fresh_sound k (everyone k) (refl, refl, refl) (λ _. (refl, refl)))) (at_snoc [] (everyone k) u j e);
}

-- What a look tells
pub looks : (k : Size) (n b id : ℕ) (views : List Known) (v : Known) → IsKept k n b views → get_elem? views id ≡ some v → (length v.claims ≤ k.pieces) × (length v.numbers ≤ k.workers) × ((w : ℕ) → times w v.numbers ≤ once_below w k.workers)
looks k n b id views v h at = (omega (arith, h.pieces_counted, sum-at claim_count views id v at), omega (arith, h.numbers_counted, sum-at number_count views id v at), λ w. omega (arith, h.numbers w, sum-at (times_held w) views id v at))

-- The last seat has every claim
pub all_claimed : (k : Size) (n b id : ℕ) (views : List Known) (v : Known) → IsKept k n b views → get_elem? views id ≡ some v → length v.numbers ≡ k.workers → 0 < length v.ended
    → ((x : ℕ) → times_claimed x v.claims ≡ once_below x k.pieces) × (length v.claims ≡ k.pieces) × ((w : ℕ) → times w v.numbers ≡ once_below w k.workers) × ((w : ℕ) → 0 < claims_by w v.claims → w < k.workers)
all_claimed k n b id views v h at whole done = (
  (λ x. let e : once_below x (min n k.pieces) ≡ once_below x k.pieces = ap (once_below x) last in
      sym (only (times_taken x) (λ u z. sum-empty (λ (c : Claim). same x c.piece) u.claims z.0)) ∙ h.pieces x ∙ e),
  omega (arith, only claim_count (λ u z. z.0), h.pieces_counted, last),
  (λ w. sym (sum-alone (times_held w) number_count views id v at here (λ j u e z. sum-empty (same w) u.numbers z)) ∙ h.numbers w),
  (λ w p. dite (dec_le k.workers w)
      (λ le. absurd (omega (arith, mine.claims_held w p, h.numbers w, sum-at (times_held w) views id v at, once_below-out w k.workers le)))
      (λ gt. omega arith)),
)
  where
    mine : IsSound k v
    mine = h.each id v at

    here : sum_by number_count views ≡ number_count v
    here = omega (arith, h.numbers_counted)

    only : (f : Known → ℕ) → ((u : Known) → (length u.claims ≡ 0) × (length u.ended ≡ 0) × (u.stops ≡ 0) → f u ≡ 0) → sum_by f views ≡ f v
    only f none = sum-alone f number_count views id v at here (λ j u e z. none u ((h.each j u e).spent z))

    last : min n k.pieces ≡ k.pieces
    last = let p : k.pieces < n = h.past (omega (arith, sum-at mark_count views id v at)) in omega arith

-- On the last seat the stop word says what the seat's own mark says
pub stop_seen : (k : Size) (n b id : ℕ) (views : List Known) (v : Known) → IsKept k n b views → get_elem? views id ≡ some v
    → (b ≡ 0 → v.stops ≡ 0) × (0 < b → (b ≡ 1) × (length v.numbers ≡ k.workers → 0 < v.stops))
stop_seen k n b id views v h at = (
  (λ z. dite (ℕ_discrete (sum_by stop_count views) 0) (λ e. omega (arith, sum-at stop_count views id v at)) (λ ne. absurd (omega (arith, h.stopped (omega arith))))),
  (λ p. dite (ℕ_discrete (sum_by stop_count views) 0) (λ e. absurd (omega (arith, h.unstopped e)))
      (λ ne. (h.stopped (omega arith), λ whole. let here : sum_by number_count views ≡ number_count v = omega (arith, h.numbers_counted) in omega (arith, sum-alone stop_count number_count views id v at here (λ j u e z. ((h.each j u e).spent z).2))))),
)

-- word 0 does not come near its range's end
pub next_small : (k : Size) (n b : ℕ) (views : List Known) → IsKept k n b views → n ≤ k.pieces + k.workers
next_small k n b views h = omega (arith, h.bounded, h.numbers_counted, sum-le mark_count number_count views (λ i v e. (h.each i v e).marks_few))

-- a view has at most as many claims as numbers were drawn
pub claims_drawn : (k : Size) (n b id : ℕ) (views : List Known) (v : Known) → IsKept k n b views → get_elem? views id ≡ some v → length v.claims ≤ n
claims_drawn k n b id views v h at = omega (arith, h.pieces_counted, sum-at claim_count views id v at)

use Rattle.std.proofs.Common.{◌≡◌, ◌≢◌, ℕ, ◌+◌, ◌<◌, ◌≤◌, true, false, cond, eqb, Option, Some, None, List, [], ◌∷◌, ◌++◌, length, replicate, get_or, count_by, refl, sym, ap, ◌∙◌, subst, inl, inr, ◌⊎◌, arith, ⊎_elim, suc, not, ◌&&◌, ltb, Contains, is_none, IsSome}
use Rattle.std.proofs.lemmas.List.{length-set, length-replicate, get_or-replicate, get_or-set_same, get_or-set_other, get_or_past, length_push}
use Rattle.std.proofs.lemmas.List.Sums.{sum_by-set, sum_by_push, sum_by-cons}
use Rattle.std.proofs.lemmas.List.Folds.{sum_by-replicate}
use Rattle.std.proofs.lemmas.Bool.{cases_eq, cases_lt, eq-eqb, ne_eqb, and_parts, ltb-true, ltb-false, not-true, cond_both}
use Rattle.board_core.specs.declared.events.Event.{Event}
use Rattle.board_core.specs.declared.events.Event.TheVariants.{Claim, Fill}
use Rattle.board_core.specs.declared.events.Stepped.{Stepped}
use Rattle.board_core.specs.declared.events.Stepped.TheVariants.{Claimed, Filled, Done, Ignored}
use Rattle.board_core.specs.State.{State, first, after, run, effect, worker_count, piece_count, claims_of, open_claim_of, is_told, slot_of, may_claim, answer_to_fill, IsReached}
use Rattle.board_core.specs.Laws.{times_claimed, claim_count, IsClaimedOnce, IsClaimed, IsOpen, IsOver, IsLawful}

-- what every event keeps
pub record Keeps (pieces workers : ℕ) (s : State) : Type 0 where
  pub claim_lists : length s.claims ≡ workers
  pub open_list : length s.open_claims ≡ workers
  pub ended_list : length s.ended ≡ workers
  pub slot_list : length s.slots ≡ pieces
  pub once : (piece : ℕ) → piece < s.next → IsClaimedOnce s piece
  pub later : (piece worker : ℕ) → s.next ≤ piece → times_claimed s worker piece ≡ 0
  pub counted : s.next ≡ claim_count s
  pub within : s.next ≤ pieces
  pub own : (piece held : ℕ) → slot_of s piece ≡ Some held → (held ≡ piece) × (piece < s.next)
  pub opened : (worker piece : ℕ) → open_claim_of s worker ≡ Some piece → (worker < workers) × (piece < s.next)
  pub pending : (piece : ℕ) → piece < s.next → (slot_of s piece ≡ Some piece) ⊎ IsOpen s piece
  pub last : (worker : ℕ) → is_told s worker ≡ true → s.next ≡ pieces

-- an entry of a list of n times the same, or what stands for one past its end
pub get_or-replicate_all : {X : Type 0} (n i : ℕ) (x : X) → get_or (replicate n x) i x ≡ x
get_or-replicate_all n i x =
    ⊎_elim (λ h. get_or-replicate n i x x h) (λ h. get_or_past (replicate n x) i x (omega (arith, length-replicate n x))) (cases_lt i n)

-- how often a piece stands in a list after one more
times_push : (xs : List ℕ) (x piece : ℕ) → count_by (λ p. eqb p piece) (xs ++ x ∷ []) ≡ count_by (λ p. eqb p piece) xs + cond (eqb x piece) 1 0
times_push xs x piece = sum_by_push (λ p. cond (eqb p piece) 1 0) xs x

pub kept_first : (pieces workers : ℕ) → Keeps pieces workers (first pieces workers)
kept_first pieces workers =
    record {
      claim_lists = length-replicate workers [];
      open_list = length-replicate workers None;
      ended_list = length-replicate workers false;
      slot_list = length-replicate pieces None;
      once = λ piece h. absurd (omega arith);
      later = λ piece worker h. ap (count_by (λ p. eqb p piece)) (get_or-replicate_all workers worker []);
      counted = sym (sum_by-replicate length workers [] ∙ omega arith);
      within = omega arith;
      own = λ piece held h. let e = sym (get_or-replicate_all pieces piece None) ∙ h in cc;
      opened = λ worker piece h. let e = sym (get_or-replicate_all workers worker None) ∙ h in cc;
      pending = λ piece h. absurd (omega arith);
      last = λ worker h. let e = sym (get_or-replicate_all workers worker false) ∙ h in cc;
    }

-- a worker that has nothing open claims the next piece
module _ (pieces workers : ℕ) (s : State) (worker : ℕ) (k : Keeps pieces workers s) (known : worker < workers) (left : s.next < pieces) (closed : open_claim_of s worker ≡ None) where
  abbrev claimed : State
  claimed = effect s worker (Claimed s.next)

  its_claims : claims_of claimed worker ≡ claims_of s worker ++ s.next ∷ []
  its_claims = get_or-set_same s.claims worker _ [] (omega (arith, k.claim_lists))

  other_claims : (other : ℕ) → other ≢ worker → claims_of claimed other ≡ claims_of s other
  other_claims other h = get_or-set_other s.claims worker other _ [] h

  -- pieces before the new one stand where they stood
  times_kept : (other piece : ℕ) → piece ≢ s.next → times_claimed claimed other piece ≡ times_claimed s other piece
  times_kept other piece h =
      ⊎_elim
      (λ e. subst (λ o. times_claimed claimed o piece ≡ times_claimed s o piece) (sym e)
      (ap (count_by (λ p. eqb p piece)) its_claims ∙ times_push (claims_of s worker) s.next piece
      ∙ (ap (λ b. times_claimed s worker piece + cond b 1 0) (ne_eqb s.next piece (λ q. h (sym q))) ∙ omega arith)))
      (λ ne. ap (count_by (λ p. eqb p piece)) (other_claims other ne))
      (cases_eq other worker)

  -- the new piece stands at the end of the worker's claims alone
  new_once : IsClaimedOnce claimed s.next
  new_once =
      record {
        worker = worker;
        known = omega (arith, length-set s.claims worker (claims_of s worker ++ s.next ∷ []), k.claim_lists);
        once =
            ap (count_by (λ p. eqb p s.next)) its_claims ∙ times_push (claims_of s worker) s.next s.next
            ∙ (ap (λ b. times_claimed s worker s.next + cond b 1 0) (eq-eqb s.next s.next refl) ∙ omega (arith, k.later s.next worker (omega arith)));
        alone = λ other ne. ap (count_by (λ p. eqb p s.next)) (other_claims other ne) ∙ k.later s.next other (omega arith);
      }

  old_once : (piece : ℕ) → piece ≢ s.next → IsClaimedOnce s piece → IsClaimedOnce claimed piece
  old_once piece ne o =
      record {
        worker = o.worker;
        known = omega (arith, length-set s.claims worker (claims_of s worker ++ s.next ∷ []), o.known);
        once = times_kept o.worker piece ne ∙ o.once;
        alone = λ other h. times_kept other piece ne ∙ o.alone other h;
      }

  its_open : open_claim_of claimed worker ≡ Some s.next
  its_open = get_or-set_same s.open_claims worker _ None (omega (arith, k.open_list))

  other_open : (other : ℕ) → other ≢ worker → open_claim_of claimed other ≡ open_claim_of s other
  other_open other h = get_or-set_other s.open_claims worker other _ None h

  known_now : worker < worker_count claimed
  known_now = omega (arith, length-set s.claims worker (claims_of s worker ++ s.next ∷ []), k.claim_lists)

  now_opened : (other piece : ℕ) → open_claim_of claimed other ≡ Some piece → (other < workers) × (piece < s.next + 1)
  now_opened other piece h =
      ⊎_elim
      (λ e. let same : Some s.next ≡ Some piece = sym (subst (λ o. open_claim_of claimed o ≡ Some s.next) (sym e) its_open) ∙ h in
      let q : s.next ≡ piece = cc in (omega arith, omega arith))
      (λ ne. let old = k.opened other piece (sym (other_open other ne) ∙ h) in (old.0, omega (arith, old.1)))
      (cases_eq other worker)

  -- a piece that a worker has open is still open, since this one had none
  still_open : (piece : ℕ) → IsOpen s piece → IsOpen claimed piece
  still_open piece o = (
    o.0,
    omega (arith, length-set s.claims worker (claims_of s worker ++ s.next ∷ []), o.1),
    ⊎_elim
        (λ e. let q : Some piece ≡ None = sym (subst (λ v. open_claim_of s v ≡ Some piece) e o.2) ∙ closed in cc)
        (λ ne. other_open o.0 ne ∙ o.2)
        (cases_eq o.0 worker),
  )

  pub kept_claimed : Keeps pieces workers claimed
  kept_claimed =
      record {
        claim_lists = length-set s.claims worker _ ∙ k.claim_lists;
        open_list = length-set s.open_claims worker _ ∙ k.open_list;
        ended_list = k.ended_list;
        slot_list = k.slot_list;
        once = λ piece h.
            ⊎_elim
            (λ e. subst (IsClaimedOnce claimed) (sym e) new_once)
            (λ ne. old_once piece ne (k.once piece (omega arith)))
            (cases_eq piece s.next);
        later = λ piece other h.
            let ne : piece ≢ s.next = omega arith in times_kept other piece ne ∙ k.later piece other (omega arith);
        counted =
            omega (arith, k.counted, sum_by-set length s.claims worker (claims_of s worker ++ s.next ∷ []) [] (omega (arith, k.claim_lists)), length_push (claims_of s worker) s.next);
        within = omega arith;
        own = λ piece held h. let old = k.own piece held h in (old.0, omega (arith, old.1));
        opened = now_opened;
        pending = λ piece h.
            ⊎_elim
            (λ e. inr (worker, known_now, its_open ∙ ap Some (sym e)))
            (λ ne. ⊎_elim (λ f. inl f) (λ o. inr (still_open piece o)) (k.pending piece (omega arith)))
            (cases_eq piece s.next);
        last = λ other h. absurd (omega (arith, k.last other h));
      }

-- a worker is told the end when all pieces are claimed
pub kept_done : (pieces workers : ℕ) (s : State) (worker : ℕ) → Keeps pieces workers s → pieces ≤ s.next → Keeps pieces workers (effect s worker Done)
kept_done pieces workers s worker k none_left =
    record {
      claim_lists = k.claim_lists;
      open_list = k.open_list;
      ended_list = length-set s.ended worker _ ∙ k.ended_list;
      slot_list = k.slot_list;
      once = λ piece h. let o = k.once piece h in record { worker = o.worker; known = o.known; once = o.once; alone = o.alone };
      later = k.later;
      counted = k.counted;
      within = k.within;
      own = k.own;
      opened = k.opened;
      pending = k.pending;
      last = λ other h. omega (arith, k.within);
    }

-- a worker fills the slot of the piece that it has open
module _ (pieces workers : ℕ) (s : State) (worker piece : ℕ) (k : Keeps pieces workers s) (its_own : open_claim_of s worker ≡ Some piece) where
  abbrev filled : State
  filled = effect s worker (Filled piece)

  in_slots : piece < length s.slots
  in_slots = omega (arith, (k.opened worker piece its_own).1, k.within, k.slot_list)

  its_slot : slot_of filled piece ≡ Some piece
  its_slot = get_or-set_same s.slots piece _ None in_slots

  other_slot : (other : ℕ) → other ≢ piece → slot_of filled other ≡ slot_of s other
  other_slot other h = get_or-set_other s.slots piece other _ None h

  now_closed : open_claim_of filled worker ≡ None
  now_closed = get_or-set_same s.open_claims worker _ None (omega (arith, (k.opened worker piece its_own).0, k.open_list))

  others_open : (other : ℕ) → other ≢ worker → open_claim_of filled other ≡ open_claim_of s other
  others_open other h = get_or-set_other s.open_claims worker other _ None h

  pub kept_filled : Keeps pieces workers filled
  kept_filled =
      record {
        claim_lists = k.claim_lists;
        open_list = length-set s.open_claims worker _ ∙ k.open_list;
        ended_list = k.ended_list;
        slot_list = length-set s.slots piece _ ∙ k.slot_list;
        once = λ p h. let o = k.once p h in record { worker = o.worker; known = o.known; once = o.once; alone = o.alone };
        later = k.later;
        counted = k.counted;
        within = k.within;
        own = λ p held h.
            ⊎_elim
            (λ e. let same : Some piece ≡ Some held = sym (subst (λ q. slot_of filled q ≡ Some piece) (sym e) its_slot) ∙ h in
            let q : piece ≡ held = cc in (omega arith, omega (arith, (k.opened worker piece its_own).1)))
            (λ ne. k.own p held (sym (other_slot p ne) ∙ h))
            (cases_eq p piece);
        opened = λ other p h.
            ⊎_elim
            (λ e. let q : Some p ≡ None = sym h ∙ subst (λ v. open_claim_of filled v ≡ None) (sym e) now_closed in cc)
            (λ ne. k.opened other p (sym (others_open other ne) ∙ h))
            (cases_eq other worker);
        pending = λ p h.
            ⊎_elim
            (λ e. inl (subst (λ q. slot_of filled q ≡ Some q) (sym e) its_slot))
            (λ ne. ⊎_elim
            (λ f. inl (other_slot p ne ∙ f))
            (λ o. inr (
              o.0,
              o.1,
              ⊎_elim
                  (λ e. let q : Some p ≡ Some piece = sym (subst (λ v. open_claim_of s v ≡ Some p) e o.2) ∙ its_own in
                  let r : p ≡ piece = cc in absurd (ne r))
                  (λ other. others_open o.0 other ∙ o.2)
                  (cases_eq o.0 worker),
            ))
            (k.pending p h))
            (cases_eq p piece);
        last = k.last;
      }

none_from_test : {X : Type 0} (o : Option X) → is_none o ≡ true → o ≡ None
none_from_test None h = refl
none_from_test (Some x) h = let e : false ≡ true = h in cc

-- what a claim in turn rests on
pub record IsInTurn (s : State) (worker : ℕ) : Type 0 where
  pub known : worker < worker_count s
  pub closed : open_claim_of s worker ≡ None
  pub going : is_told s worker ≡ false

pub in_turn : (s : State) (worker : ℕ) → may_claim s worker ≡ true → IsInTurn s worker
in_turn s worker h =
    let p = and_parts (ltb worker (worker_count s)) (is_none (open_claim_of s worker) && not (is_told s worker)) h in
    let q = and_parts (is_none (open_claim_of s worker)) (not (is_told s worker)) p.1 in
    record {
      known = ltb-true worker (worker_count s) p.0;
      closed = none_from_test (open_claim_of s worker) q.0;
      going = not-true (is_told s worker) q.1;
    }

kept_fill : (pieces workers : ℕ) (s : State) (worker : ℕ) (held : Option ℕ) → open_claim_of s worker ≡ held → Keeps pieces workers s → Keeps pieces workers (effect s worker (answer_to_fill held))
kept_fill pieces workers s worker None h k = k
kept_fill pieces workers s worker (Some piece) h k = kept_filled pieces workers s worker piece k h

pub kept_after : (pieces workers : ℕ) (s : State) (event : Event) → Keeps pieces workers s → Keeps pieces workers (after s event)
kept_after pieces workers s (Claim worker) k =
    let P : Stepped → Type 0 = λ a. Keeps pieces workers (effect s worker a) in
    cond_both (may_claim s worker) (cond (ltb s.next (piece_count s)) (Claimed s.next) Done) Ignored P
    (λ may. let t = in_turn s worker may in
    cond_both (ltb s.next (piece_count s)) (Claimed s.next) Done P
    (λ left. kept_claimed pieces workers s worker k (omega (arith, t.known, k.claim_lists)) (omega (arith, ltb-true s.next (piece_count s) left, k.slot_list)) t.closed)
    (λ none_left. kept_done pieces workers s worker k (omega (arith, ltb-false s.next (piece_count s) none_left, k.slot_list))))
    (λ _. k)
kept_after pieces workers s (Fill worker) k = kept_fill pieces workers s worker (open_claim_of s worker) refl k

pub kept_run : (pieces workers : ℕ) (events : List Event) (s : State) → Keeps pieces workers s → Keeps pieces workers (run events s)
kept_run pieces workers [] s k = k
kept_run pieces workers (event ∷ events) s k = kept_run pieces workers events (after s event) (kept_after pieces workers s event k)

-- what stands once in a list is in it
pub contained : (xs : List ℕ) (x : ℕ) → count_by (λ p. eqb p x) xs ≡ 1 → Contains xs x
contained [] x h = absurd (omega (arith, h))
contained (y ∷ ys) x h =
    ⊎_elim
    (λ e. (0, omega arith, e))
    (λ ne. let c = contained ys x (omega (arith, sum_by-cons (λ p. cond (eqb p x) 1 0) y ys, h, ap {B = ℕ} (λ b. cond b 1 0) (ne_eqb y x ne))) in (suc c.0, omega (arith, c.1), c.2))
    (cases_eq y x)

some_from_test : {X : Type 0} (o : Option X) → IsSome o → (x : X) × (o ≡ Some x)
some_from_test None h = let e : false ≡ true = h in cc
some_from_test (Some x) h = (x, refl)

module _ (pieces workers : ℕ) (s : State) (k : Keeps pieces workers s) where
  claimed_below : (piece : ℕ) → piece < s.next → IsClaimed s piece
  claimed_below piece h = let o = k.once piece h in (o.worker, o.known, contained (claims_of s o.worker) piece o.once)

  all_filled : IsOver s → (piece : ℕ) → piece < piece_count s → slot_of s piece ≡ Some piece
  all_filled over piece h =
      let last = k.last 0 (over.told 0 over.workers) in
      ⊎_elim
      (λ f. f)
      (λ o. let q : Some piece ≡ None = sym o.2 ∙ over.closed o.0 o.1 in cc)
      (k.pending piece (omega (arith, last, k.slot_list)))

  pub lawful : IsLawful s
  lawful =
      record {
        once = k.once;
        later = k.later;
        counted = k.counted;
        within = omega (arith, k.within, k.slot_list);
        own = λ piece held h. (k.own piece held h).0;
        filled = λ piece h. let o = some_from_test (slot_of s piece) h in claimed_below piece (k.own piece o.0 o.1).1;
        pending = λ piece h. ⊎_elim (λ f. inl (subst IsSome (sym f) refl)) (λ o. inr o) (k.pending piece h);
        opened = λ piece o. claimed_below piece (k.opened o.0 piece o.2).1;
        last = λ worker h. k.last worker h ∙ sym k.slot_list;
        whole = all_filled;
      }

pub run-append : (events more : List Event) (s : State) → run (events ++ more) s ≡ run more (run events s)
run-append [] more s = refl
run-append (event ∷ events) more s = run-append events more (after s event)

-- a state that was reached has what every event keeps
pub kept_reached : (s : State) → IsReached s → Keeps (piece_count s) (worker_count s) s
kept_reached s r = subst (Keeps (piece_count s) (worker_count s)) r.1 (kept_run _ _ r.0 _ (kept_first (piece_count s) (worker_count s)))

pub lawful_reached : (s : State) → IsReached s → IsLawful s
lawful_reached s r = lawful (piece_count s) (worker_count s) s (kept_reached s r)

pub reached_first : (pieces workers : ℕ) → IsReached (first pieces workers)
reached_first pieces workers = ([], ap (λ n. first n (length (replicate {A = List ℕ} workers []))) (length-replicate {A = Option ℕ} pieces None) ∙ ap (first pieces) (length-replicate {A = List ℕ} workers []))

pub reached_after : (s : State) (event : Event) → IsReached s → IsReached (after s event)
reached_after s event r =
    let k = kept_after _ _ s event (kept_reached s r) in (
      r.0 ++ event ∷ [],
      ap (λ n. run (r.0 ++ event ∷ []) (first n (worker_count (after s event)))) k.slot_list
          ∙ ap (λ n. run (r.0 ++ event ∷ []) (first (piece_count s) n)) k.claim_lists
          ∙ run-append r.0 (event ∷ []) _
          ∙ ap (λ t. after t event) r.1,
    )

pub reached_run : (events : List Event) (s : State) → IsReached s → IsReached (run events s)
reached_run [] s r = r
reached_run (event ∷ events) s r = reached_run events (after s event) (reached_after s event r)

use Rattle.std.proofs.Common.{◌≡◌, ◌≢◌, ◌↔◌, ℕ, ◌+◌, ◌<◌, ◌≤◌, Bool, true, false, cond, eqb, Option, Some, None, List, [], ◌∷◌, ◌++◌, map, refl, sym, ap, ◌∙◌, subst, arith, ⊎_elim, suc, zero, Contains}
use Rattle.std.specs.List.{filter, flat_map, range_with_len}
use Rattle.std.specs.List.Sorted.{IsStrictlyIncreasing}
use Rattle.std.proofs.lemmas.List.{get_or-set_same, get_or-set_other, length-set, append-nil, map-append}
use Rattle.std.proofs.lemmas.List.Elements.{filter-append, filter_passes, All-filter, All-contains}
use Rattle.std.proofs.lemmas.List.Kept.{IsStrictlyIncreasing-filter}
use Rattle.std.proofs.lemmas.Grind.{flat_map-append}
use Rattle.std.proofs.lemmas.Bool.{cases_eq, eq-eqb, ne_eqb, eqb-true}
use Rattle.board_core.specs.declared.events.Claim.{Claim}
use Rattle.board_core.specs.declared.events.Event.{Event}
use Rattle.board_core.specs.declared.events.Event.TheVariants.{Claim as Asks, Fill}
use Rattle.board_core.specs.declared.events.Stepped.{Stepped}
use Rattle.board_core.specs.declared.events.Stepped.TheVariants.{Claimed, Filled, Done}
use Rattle.board_core.specs.State.{State, first, after, run, effect, claims_of, open_claim_of, is_told, slot_of, answer_to_fill}
use Rattle.board_core.specs.Replay.{NamesEachOnce, IsBegunWith, IsFinishedWith, named_worker, turn_of, turns_of, events_of}
use Rattle.board_core.proofs.Lawful.{Keeps, kept_first, kept_after, run-append, get_or-replicate_all}
use Rattle.board_core.proofs.Stored.{answer_claimed, answer_done}
use Rattle.board_core.proofs.AnswerLemmas.{may_from}
use Rattle.board_core.proofs.Named.{named, named_alone, Contains-filter, Contains-range, range_below, range_rises}

-- the numbers below n, one more
pub range_more : (a n : ℕ) → range_with_len a (suc n) ≡ range_with_len a n ++ (a + n) ∷ []
range_more a zero = ap {B = List ℕ} (λ x. x ∷ []) (omega arith)
range_more a (suc n) = ap {B = List ℕ} (λ xs. a ∷ xs) (range_more (a + 1) n ∙ ap {B = List ℕ} (λ x. range_with_len (a + 1) n ++ x ∷ []) (omega arith))

pub range_next : (n : ℕ) → range_with_len 0 (suc n) ≡ range_with_len 0 n ++ n ∷ []
range_next n = range_more 0 n ∙ ap {B = List ℕ} (λ x. range_with_len 0 n ++ x ∷ []) (omega arith)

-- the pieces below n that belong to a worker
pub owned : (ℕ → ℕ) → ℕ → ℕ → List ℕ
owned owner n worker = filter (λ piece. eqb (owner piece) worker) (range_with_len 0 n)

owned-zero : (owner : ℕ → ℕ) (worker : ℕ) → owned owner 0 worker ≡ []
unfolding owned
owned-zero owner worker = refl

owned_more : (owner : ℕ → ℕ) (n worker : ℕ) → owned owner (suc n) worker ≡ owned owner n worker ++ cond (eqb (owner n) worker) (n ∷ []) []
unfolding owned
owned_more owner n worker = ap (filter (λ piece. eqb (owner piece) worker)) (range_next n) ∙ filter-append (λ piece. eqb (owner piece) worker) (range_with_len 0 n) (n ∷ [])

owned_mine : (owner : ℕ → ℕ) (n worker : ℕ) → owner n ≡ worker → owned owner (suc n) worker ≡ owned owner n worker ++ n ∷ []
owned_mine owner n worker h = owned_more owner n worker ∙ ap {B = List ℕ} (λ b. owned owner n worker ++ cond b (n ∷ []) []) (eq-eqb (owner n) worker h)

owned_other : (owner : ℕ → ℕ) (n worker : ℕ) → owner n ≢ worker → owned owner (suc n) worker ≡ owned owner n worker
owned_other owner n worker h = owned_more owner n worker ∙ (ap {B = List ℕ} (λ b. owned owner n worker ++ cond b (n ∷ []) []) (ne_eqb (owner n) worker h) ∙ append-nil (owned owner n worker))

-- the first k pieces are claimed and filled, each by its owner, and the first j workers were told the end
pub record Stage (owner : ℕ → ℕ) (pieces workers k j : ℕ) (s : State) : Type 0 where
  pub keeps : Keeps pieces workers s
  pub next_is : s.next ≡ k
  pub claims_are : (worker : ℕ) → claims_of s worker ≡ owned owner k worker
  pub closed : (worker : ℕ) → open_claim_of s worker ≡ None
  pub filled : (piece : ℕ) → piece < k → slot_of s piece ≡ Some piece
  pub told : (worker : ℕ) → worker < j → is_told s worker ≡ true
  pub going : (worker : ℕ) → j ≤ worker → is_told s worker ≡ false

stage_first : (owner : ℕ → ℕ) (pieces workers : ℕ) → Stage owner pieces workers 0 0 (first pieces workers)
stage_first owner pieces workers =
    record {
      keeps = kept_first pieces workers;
      next_is = refl;
      claims_are = λ worker. get_or-replicate_all workers worker [] ∙ sym (owned-zero owner worker);
      closed = λ worker. get_or-replicate_all workers worker None;
      filled = λ piece h. absurd (omega arith);
      told = λ worker h. absurd (omega arith);
      going = λ worker h. get_or-replicate_all workers worker false;
    }

-- one more piece: its owner claims it, and fills its slot
module _ (owner : ℕ → ℕ) (pieces workers k : ℕ) (s : State) (stage : Stage owner pieces workers k 0 s) (left : k < pieces) (known : owner k < workers) where
  abbrev claimed : State
  claimed = effect s (owner k) (Claimed s.next)

  abbrev done : State
  done = effect claimed (owner k) (Filled s.next)

  claims_it : after s (Asks (owner k)) ≡ claimed
  claims_it =
      ap (λ (a : Stepped). effect s (owner k) a)
      (answer_claimed s (owner k)
      (may_from s (owner k) (omega (arith, stage.keeps.claim_lists)) (stage.closed (owner k)) (stage.going (owner k) (omega arith)))
      (omega (arith, stage.next_is, stage.keeps.slot_list)))

  fills_it : after claimed (Fill (owner k)) ≡ done
  fills_it =
      ap (λ (held : Option ℕ). effect claimed (owner k) (answer_to_fill held))
      (get_or-set_same s.open_claims (owner k) (Some s.next) None (omega (arith, stage.keeps.open_list)))

  takes_turn : run (Asks (owner k) ∷ Fill (owner k) ∷ []) s ≡ done
  takes_turn = ap (λ t. after t (Fill (owner k))) claims_it ∙ fills_it

  keeps_done : Keeps pieces workers done
  keeps_done = subst (Keeps pieces workers) takes_turn (kept_after pieces workers _ (Fill (owner k)) (kept_after pieces workers s (Asks (owner k)) stage.keeps))

  claims_done : (worker : ℕ) → claims_of done worker ≡ owned owner (suc k) worker
  claims_done worker =
      ⊎_elim
      (λ e. subst (λ w. claims_of done w ≡ owned owner (suc k) w) (sym e)
      (get_or-set_same s.claims (owner k) _ [] (omega (arith, stage.keeps.claim_lists))
      ∙ (ap {B = List ℕ} (λ xs. xs ++ s.next ∷ []) (stage.claims_are (owner k))
      ∙ (ap {B = List ℕ} (λ n. owned owner k (owner k) ++ n ∷ []) stage.next_is
      ∙ sym (owned_mine owner k (owner k) refl)))))
      (λ ne. get_or-set_other s.claims (owner k) worker _ [] ne
      ∙ (stage.claims_are worker ∙ sym (owned_other owner k worker (λ e. ne (sym e)))))
      (cases_eq worker (owner k))

  closed_done : (worker : ℕ) → open_claim_of done worker ≡ None
  closed_done worker =
      ⊎_elim
      (λ e. subst (λ w. open_claim_of done w ≡ None) (sym e)
      (get_or-set_same claimed.open_claims (owner k) None None (omega (arith, stage.keeps.open_list, length-set s.open_claims (owner k) (Some s.next)))))
      (λ ne. get_or-set_other claimed.open_claims (owner k) worker None None ne
      ∙ (get_or-set_other s.open_claims (owner k) worker (Some s.next) None ne ∙ stage.closed worker))
      (cases_eq worker (owner k))

  filled_done : (piece : ℕ) → piece < suc k → slot_of done piece ≡ Some piece
  filled_done piece h =
      ⊎_elim
      (λ e. subst (λ p. slot_of done p ≡ Some p) (sym e) (get_or-set_same s.slots s.next (Some s.next) None (omega (arith, stage.next_is, stage.keeps.slot_list))))
      (λ ne. get_or-set_other s.slots s.next piece (Some s.next) None ne ∙ stage.filled piece (omega (arith, stage.next_is, ne)))
      (cases_eq piece s.next)

  turn_taken : Stage owner pieces workers (suc k) 0 (run (Asks (owner k) ∷ Fill (owner k) ∷ []) s)
  turn_taken =
      subst (Stage owner pieces workers (suc k) 0) (sym takes_turn)
      record {
        keeps = keeps_done;
        next_is = omega (arith, stage.next_is);
        claims_are = claims_done;
        closed = closed_done;
        filled = filled_done;
        told = λ worker h. absurd (omega arith);
        going = stage.going;
      }

-- one more worker is told the end
module _ (owner : ℕ → ℕ) (pieces workers j : ℕ) (s : State) (stage : Stage owner pieces workers pieces j s) (known : j < workers) where
  abbrev told_one : State
  told_one = effect s j Done

  tells_it : after s (Asks j) ≡ told_one
  tells_it =
      ap (λ (a : Stepped). effect s j a)
      (answer_done s j
      (may_from s j (omega (arith, stage.keeps.claim_lists)) (stage.closed j) (stage.going j (omega arith)))
      (omega (arith, stage.next_is, stage.keeps.slot_list)))

  told_now : (worker : ℕ) → worker < suc j → is_told told_one worker ≡ true
  told_now worker h =
      ⊎_elim
      (λ e. subst (λ w. is_told told_one w ≡ true) (sym e) (get_or-set_same s.ended j true false (omega (arith, stage.keeps.ended_list))))
      (λ ne. get_or-set_other s.ended j worker true false ne ∙ stage.told worker (omega (arith, ne)))
      (cases_eq worker j)

  one_told : Stage owner pieces workers pieces (suc j) (after s (Asks j))
  one_told =
      subst (Stage owner pieces workers pieces (suc j)) (sym tells_it)
      record {
        keeps = subst (Keeps pieces workers) tells_it (kept_after pieces workers s (Asks j) stage.keeps);
        next_is = stage.next_is;
        claims_are = stage.claims_are;
        closed = stage.closed;
        filled = stage.filled;
        told = told_now;
        going = λ worker h. let ne : worker ≢ j = omega arith in get_or-set_other s.ended j worker true false ne ∙ stage.going worker (omega arith);
      }

-- all pieces below k, in turn
turns_taken : (claims : List Claim) (drawn pieces workers : ℕ) → drawn ≤ pieces → ((piece : ℕ) → piece < drawn → named_worker claims piece < workers) → (k : ℕ) → k ≤ drawn → Stage (named_worker claims) pieces workers k 0 (run (turns_of claims k) (first pieces workers))
turns_taken claims drawn pieces workers within known zero h = stage_first (named_worker claims) pieces workers
turns_taken claims drawn pieces workers within known (suc k) h =
    let before = turns_taken claims drawn pieces workers within known k (omega arith) in
    let s = run (turns_of claims k) (first pieces workers) in
    subst (Stage (named_worker claims) pieces workers (suc k) 0)
    (sym (ap (λ (ns : List ℕ). run (flat_map (turn_of claims) ns) (first pieces workers)) (range_next k)
    ∙ (ap (λ (es : List Event). run es (first pieces workers)) (flat_map-append (turn_of claims) (range_with_len 0 k) (k ∷ []))
    ∙ run-append (turns_of claims k) (turn_of claims k) (first pieces workers))))
    (turn_taken (named_worker claims) pieces workers k s before (omega arith) (known k (omega arith)))

-- all workers below j, in turn
all_told : (owner : ℕ → ℕ) (pieces workers : ℕ) (s : State) → Stage owner pieces workers pieces 0 s → (j : ℕ) → j ≤ workers → Stage owner pieces workers pieces j (run (map Asks (range_with_len 0 j)) s)
all_told owner pieces workers s stage zero h = stage
all_told owner pieces workers s stage (suc j) h =
    let before = all_told owner pieces workers s stage j (omega arith) in
    subst (Stage owner pieces workers pieces (suc j))
    (sym (ap (λ (ns : List ℕ). run (map Asks ns) s) (range_next j)
    ∙ (ap (λ (es : List Event). run es s) (map-append Asks (range_with_len 0 j) (j ∷ []))
    ∙ run-append (map Asks (range_with_len 0 j)) (Asks j ∷ []) s)))
    (one_told owner pieces workers j (run (map Asks (range_with_len 0 j)) s) before (omega arith))

-- of the pieces below n, those that belong to a worker
owned_contains : (owner : ℕ → ℕ) (n worker piece : ℕ) → Contains (owned owner n worker) piece → (piece < n) × (owner piece ≡ worker)
unfolding owned
owned_contains owner n worker piece h =
    let p : ℕ → Bool = λ x. eqb (owner x) worker in (
      All-contains (λ x. x < n) (filter p (range_with_len 0 n)) piece (All-filter p (λ x. x < n) (range_with_len 0 n) (range_below n)) h,
      eqb-true (owner piece) worker (All-contains (λ x. p x ≡ true) (filter p (range_with_len 0 n)) piece (filter_passes p (range_with_len 0 n)) h),
    )

contains_owned : (owner : ℕ → ℕ) (n worker piece : ℕ) → piece < n → owner piece ≡ worker → Contains (owned owner n worker) piece
unfolding owned
contains_owned owner n worker piece h e =
    Contains-filter (λ x. eqb (owner x) worker) (range_with_len 0 n) piece (Contains-range n piece h) (eq-eqb (owner piece) worker e)

owned_rises : (owner : ℕ → ℕ) (n worker : ℕ) → IsStrictlyIncreasing (owned owner n worker)
unfolding owned
owned_rises owner n worker = IsStrictlyIncreasing-filter (λ x. eqb (owner x) worker) (range_with_len 0 n) (range_rises n)

-- the first so many pieces are named
module _ (claims : List Claim) (drawn workers : ℕ) (each : NamesEachOnce claims drawn workers) where
  is_named : (piece : ℕ) → piece < drawn → Contains claims (record { piece = piece; worker = named_worker claims piece })
  is_named piece h = named claims piece (omega (arith, each.once piece h))

  owner_known : (piece : ℕ) → piece < drawn → named_worker claims piece < workers
  owner_known piece h = (All-contains (λ (c : Claim). (c.piece < drawn) × (c.worker < workers)) claims _ each.known (is_named piece h)).1

  -- those that belong to a worker are those that are named with it
  same_pieces : (worker : ℕ) (mine : List ℕ) → mine ≡ owned (named_worker claims) drawn worker → (piece : ℕ) → Contains mine piece ↔ Contains claims (record { piece = piece; worker = worker })
  same_pieces worker mine is piece = (
    λ h.
        let o = owned_contains (named_worker claims) drawn worker piece (subst (λ xs. Contains xs piece) is h) in
        subst (λ w. Contains claims (record { piece = piece; worker = w })) o.1 (is_named piece o.0),
    λ h.
        let small = (All-contains (λ (c : Claim). (c.piece < drawn) × (c.worker < workers)) claims _ each.known h).0 in
        subst (λ xs. Contains xs piece) (sym is)
        (contains_owned (named_worker claims) drawn worker piece small (named_alone claims (record { piece = piece; worker = worker }) h (each.once piece small))),
  )

  rising_pieces : (worker : ℕ) (mine : List ℕ) → mine ≡ owned (named_worker claims) drawn worker → IsStrictlyIncreasing mine
  rising_pieces worker mine is = subst IsStrictlyIncreasing (sym is) (owned_rises (named_worker claims) drawn worker)

  module _ (pieces : ℕ) (within : drawn ≤ pieces) where
    stage_drawn : Stage (named_worker claims) pieces workers drawn 0 (run (turns_of claims drawn) (first pieces workers))
    stage_drawn = turns_taken claims drawn pieces workers within owner_known drawn (omega arith)

    pub begun : IsBegunWith claims drawn pieces workers (run (turns_of claims drawn) (first pieces workers))
    begun =
        record {
          pieces_kept = stage_drawn.keeps.slot_list;
          workers_kept = stage_drawn.keeps.claim_lists;
          claimed = stage_drawn.next_is;
          same = λ piece worker. same_pieces worker _ (stage_drawn.claims_are worker) piece;
          rising = λ worker. rising_pieces worker _ (stage_drawn.claims_are worker);
          filled = stage_drawn.filled;
        }

module _ (claims : List Claim) (pieces workers : ℕ) (each : NamesEachOnce claims pieces workers) where
  last_stage : Stage (named_worker claims) pieces workers pieces workers (run (events_of claims pieces workers) (first pieces workers))
  last_stage =
      subst (Stage (named_worker claims) pieces workers pieces workers)
      (sym (run-append (turns_of claims pieces) (map Asks (range_with_len 0 workers)) (first pieces workers)))
      (all_told (named_worker claims) pieces workers _ (stage_drawn claims pieces workers each pieces (omega arith)) workers (omega arith))

  pub replayed : IsFinishedWith claims pieces workers (run (events_of claims pieces workers) (first pieces workers))
  replayed =
      record {
        pieces_kept = last_stage.keeps.slot_list;
        workers_kept = last_stage.keeps.claim_lists;
        all_claimed = last_stage.next_is;
        same = λ piece worker. same_pieces claims pieces workers each worker _ (last_stage.claims_are worker) piece;
        rising = λ worker. rising_pieces claims pieces workers each worker _ (last_stage.claims_are worker);
        filled = last_stage.filled;
        told = last_stage.told;
        closed = λ worker h. last_stage.closed worker;
      }

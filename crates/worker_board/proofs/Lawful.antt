-- What the rule's sums say of single views.
use Rattle.std.proofs.Common.{◌≡◌, ◌≢◌, ℕ, zero, suc, ◌<◌, min, List, [], ◌∷◌, length, sum_by, sym, refl, ap, subst, ◌∙◌, ⊎_elim, arith}
use Rattle.std.proofs.lemmas.List.Sums.{sum_by-cons, sum_by-append}
use mathlib.Core.Option.{some, some-injective}
use mathlib.Core.Logic.{dite}
use native.Mathlib.Decide.{ℕ_discrete, dec_le}
use lib.ListN.{get_elem?}
use Rattle.board_core.specs.declared.events.Claim.{Claim}
use Rattle.board_core.specs.Replay.{NamesEachOnce}
use Rattle.worker_board.specs.declared.known.Size.{Size}
use Rattle.worker_board.specs.declared.known.Known.{Known}
use Rattle.worker_board.specs.Counts.{times, claims_by, times_held, times_taken, mark_count, stop_count}
use Rattle.worker_board.specs.Views.{claims_in}
use Rattle.worker_board.specs.Rule.{IsKept}
use Rattle.worker_board.specs.Laws.{IsInOne, IsInNone, IsLawful}
use Rattle.worker_board.proofs.Sums.{same, sum-at, once_below-in, once_below-out, once_below-le}
use Rattle.worker_board.proofs.Filled.{nothing_left}
use Rattle.worker_board.proofs.Sits.{names_each}

module _ (f : Known → ℕ) where
  in_none : (views : List Known) → sum_by f views ≡ 0 → IsInNone f views
  in_none views none place v at = omega (arith, none, sum-at f views place v at)

  in_one : (views : List Known) → sum_by f views ≡ 1 → IsInOne f views
  in_one [] one = absurd (omega (arith, one))
  in_one (x ∷ xs) one =
      dite (ℕ_discrete (f x) 0)
      (λ z.
      let below = in_one xs (omega (arith, one, z, sum_by-cons f x xs)) in
      record {
        place = suc below.place;
        view = below.view;
        there = below.there;
        once = below.once;
        alone = λ other v ne at. others_none x xs z below other v ne at;
      })
      (λ nz.
      let none : sum_by f xs ≡ 0 = omega (arith, one, nz, sum_by-cons f x xs) in
      record {
        place = 0;
        view = x;
        there = refl;
        once = omega (arith, one, nz, none, sum_by-cons f x xs);
        alone = λ other v ne at. tail_none x xs none other v ne at;
      })
    where
      tail_none : (x : Known) (xs : List Known) → sum_by f xs ≡ 0 → (other : ℕ) (v : Known) → other ≢ 0 → get_elem? (x ∷ xs) other ≡ some v → f v ≡ 0
      tail_none x xs none zero v ne at = absurd (ne refl)
      tail_none x xs none (suc other) v ne at = in_none xs none other v at

      others_none : (x : Known) (xs : List Known) → f x ≡ 0 → (b : IsInOne f xs) → (other : ℕ) (v : Known) → other ≢ suc b.place → get_elem? (x ∷ xs) other ≡ some v → f v ≡ 0
      others_none x xs z b zero v ne at = ap f (sym (some-injective x v at)) ∙ z
      others_none x xs z b (suc other) v ne at = b.alone other v (λ e. ne (ap suc e)) at

  -- where the sum is not nothing, one view has something
  some_view : (views : List Known) → 0 < sum_by f views → (place : ℕ) × (v : Known) × (get_elem? views place ≡ some v) × (0 < f v)
  some_view [] h = absurd (omega (arith, h))
  some_view (x ∷ xs) h =
      dite (ℕ_discrete (f x) 0)
      (λ z. let below = some_view xs (omega (arith, h, z, sum_by-cons f x xs)) in (suc below.0, below.1, below.2, below.3))
      (λ nz. (0, x, refl, omega (arith, nz)))

-- a sum over all claims, view by view
sum-claims : (g : Claim → ℕ) (views : List Known) → sum_by g (claims_in views) ≡ sum_by (λ (v : Known). sum_by g v.claims) views
sum-claims g [] = refl
sum-claims g (v ∷ vs) = omega (arith, sum_by-append g v.claims (claims_in vs), sum_by-cons (λ (v : Known). sum_by g v.claims) v vs, sum-claims g vs)

module _ (size : Size) (next stop : ℕ) (views : List Known) (kept : IsKept size next stop views) where
  held_once : (place worker : ℕ) (v : Known) → get_elem? views place ≡ some v → 0 < times worker v.numbers → times worker v.numbers ≡ 1
  held_once place worker v at some_number = omega (arith, some_number, sum-at (times_held worker) views place v at, kept.numbers worker, once_below-le worker size.workers)

  pub lawful : IsLawful size next stop views
  lawful =
      record {
        drawn = λ p lt small. in_one (times_taken p) views (kept.pieces p ∙ once_below-in p (min next size.pieces) (omega (arith, lt, small)));
        later = λ p h. in_none (times_taken p) views (kept.pieces p ∙ once_below-out p (min next size.pieces) (⊎_elim (λ le. omega (arith, le)) (λ le. omega (arith, le)) h));
        seated = λ w lt. in_one (times_held w) views (kept.numbers w ∙ once_below-in w size.workers lt);
        unknown = λ w le. in_none (times_held w) views (kept.numbers w ∙ once_below-out w size.workers le);
        claims = λ j w v at some_claim. held_once j w v at ((kept.each j v at).claims_held w some_claim);
        marks = λ j w v at some_mark.
            let one = held_once j w v at (omega (arith, some_mark, (kept.each j v at).marks_held w)) in
            (omega (arith, some_mark, one, (kept.each j v at).marks_held w), one);
        spent = λ j v at none. let nothing = (kept.each j v at).spent (ap length none) in (nothing_left v.claims nothing.0, nothing_left v.ended nothing.1, nothing.2);
        past = λ j v at some_mark. kept.past (omega (arith, some_mark, sum-at mark_count views j v at));
        bounded = kept.bounded;
        stopped = λ h. kept.stopped (omega (arith, h.3, sum-at stop_count views h.0 h.1 h.2));
        unstopped = λ none. dite (ℕ_discrete (sum_by stop_count views) 0) kept.unstopped (λ nz. absurd (none (some_view stop_count views (omega (arith, nz)))));
      }

  -- who has a claim is a worker
  known_worker : (w : ℕ) → 0 < claims_by w (claims_in views) → w < size.workers
  known_worker w some_claim =
      let there = some_view (λ v. claims_by w v.claims) views (subst (λ (n : ℕ). 0 < n) (sum-claims (λ c. same w c.worker) views) some_claim) in
      let number = (kept.each there.0 there.1 there.2).claims_held w there.3 in
      dite (dec_le size.workers w)
      (λ le. absurd (omega (arith, number, sum-at (times_held w) views there.0 there.1 there.2, kept.numbers w, once_below-out w size.workers le)))
      (λ gt. omega arith)

  -- the claims of all views together name each piece that was drawn
  pub names_drawn : NamesEachOnce (claims_in views) (min next size.pieces) size.workers
  names_drawn = names_each (record { pieces = min next size.pieces; workers = size.workers }) (claims_in views) (λ p. sum-claims (λ c. same p c.piece) views ∙ kept.pieces p) known_worker

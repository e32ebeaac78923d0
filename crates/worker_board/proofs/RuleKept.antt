-- What each step on the table asks for.
use Rattle.std.proofs.Common.{◌≡◌, ℕ, zero, suc, ◌+◌, ◌%◌, ◌<◌, ◌≤◌, ◌^◌, List, [], ◌∷◌, length, get_or, set, sym, refl, ap, subst, ◌∙◌, slice_index, bit_or, arith}
use mathlib.Core.Option.{some, none}
use mathlib.Core.Logic.{dite}
use native.Mathlib.Decide.{ℕ_discrete, dec_le}
use lib.ListN.{get_elem?}
use Rattle.atomic_table.proofs.Lists.{set_again}
use Rattle.atomic_table.specs.Table.{State, Me, step, keeps, opening, stepped, Allows, Splits, Joins, Final, Seen}
use Rattle.worker_board.specs.declared.known.Size.{Size}
use Rattle.worker_board.specs.declared.known.Known.{Known}
use Rattle.worker_board.specs.Counts.{times, times_claimed, claims_by, once_below}
use Rattle.worker_board.specs.Moves.{IsFresh, everyone, all_but_first, first_alone, with_claim, told_end, together, spent, with_stop}
use Rattle.worker_board.specs.Rule.{IsKept, Keeps}
use Rattle.worker_board.specs.Plays.{Draws, Weighs, SetsStop, SeesStop}
use Rattle.worker_board.proofs.RuleSteps.{claims, ends, stop_set, splits, joins, begins, looks, all_claimed, stop_seen, next_small, claims_drawn}

-- the words after a write to word 0, and after one to word 1
at_word_0 : (ws : List ℕ) → length ws ≡ 2 → (x : ℕ) (P : ℕ → ℕ → Type 0) → P x (get_or ws 1 0) → P (get_or (set ws 0 x) 0 0) (get_or (set ws 0 x) 1 0)
at_word_0 [] e x P p = absurd (omega arith)
at_word_0 (a ∷ []) e x P p = absurd (omega arith)
at_word_0 (a ∷ (b ∷ ws)) e x P p = p

at_word_1 : (ws : List ℕ) → length ws ≡ 2 → (x : ℕ) (P : ℕ → ℕ → Type 0) → P (get_or ws 0 0) x → P (get_or (set ws 1 x) 0 0) (get_or (set ws 1 x) 1 0)
at_word_1 [] e x P p = absurd (omega arith)
at_word_1 (a ∷ []) e x P p = absurd (omega arith)
at_word_1 (a ∷ (b ∷ ws)) e x P p = p

length-words : (ws : List ℕ) (i x : ℕ) → length (set ws i x) ≡ length ws
length-words [] i x = refl
length-words (w ∷ ws) zero x = refl
length-words (w ∷ ws) (suc i) x = ap suc (length-words ws i x)

word_there : (ws : List ℕ) (i : ℕ) → i < length ws → get_elem? ws i ≡ some (get_or ws i 0)
word_there [] i lt = absurd (omega arith)
word_there (w ∷ ws) zero lt = refl
word_there (w ∷ ws) (suc i) lt = word_there ws i (omega arith)

module _ {S : Type 0} (k : Size) where
  pub opens : (v : Known) → v ≡ everyone k → k.pieces < 2 ^ 32 → k.workers < 2 ^ 32 → Keeps {S = S} k (opening (0 ∷ 0 ∷ []) [] v)
  opens v e p w = record { two_words = refl; kept = subst (λ (u : Known). IsKept k 0 0 (u ∷ [])) (sym e) (begins k p w) }

  pub draws : (slots id : ℕ) (m : Me S Known) → length m.0.ended ≡ 0 → 0 < length m.0.numbers
      → Allows (Keeps k) slots id m 0 (λ n. (n + 1) % 2 ^ 64) (Draws (step slots 0 1 0 none) m)
  draws slots id m undone some_number s h homes at fits = dite (dec_le k.pieces n)
      (λ le. (
        told_end v,
        keeps,
        tt,
        record { two_words = length-words s.words 0 _ ∙ h.two_words; kept = next (told_end v) (ends k n b id s.views v h.kept at undone some_number le) },
        (refl, (λ lt. absurd (omega (arith, sized))), (λ _. refl)),
      ))
      (λ ne. let lt : n < k.pieces = omega arith in (
        with_claim v n,
        keeps,
        tt,
        record { two_words = length-words s.words 0 _ ∙ h.two_words; kept = next (with_claim v n) (claims k n b id s.views v h.kept at undone some_number lt) },
        (refl, (λ _. (refl, omega (arith, sized, looked))), (λ le. absurd (omega (arith, sized)))),
      ))
    where
      v : Known
      v = m.0

      n : ℕ
      n = slice_index s.words 0

      b : ℕ
      b = slice_index s.words 1

      sized : v.size.pieces ≡ k.pieces
      sized = ((h.kept.each id v at).same_size some_number).0

      looked : length v.claims ≤ n
      looked = claims_drawn k n b id s.views v h.kept at

      next : (w : Known) → IsKept k (n + 1) b (set s.views id w) → IsKept k (get_or (set s.words 0 ((n + 1) % 2 ^ 64)) 0 0) (get_or (set s.words 0 ((n + 1) % 2 ^ 64)) 1 0) (set s.views id w)
      next w q = let e : n + 1 ≡ (n + 1) % 2 ^ 64 = omega (arith, next_small k n b s.views h.kept, h.kept.sizes.0, h.kept.sizes.1) in
          at_word_0 s.words h.two_words ((n + 1) % 2 ^ 64) (λ x y. IsKept k x y (set s.views id w)) (subst (λ (z : ℕ). IsKept k z b (set s.views id w)) e q)

  -- a load that changes no view
  same_words : (s : State S Known) (i id : ℕ) (v : Known) → (i < 2) → Keeps k s → get_elem? s.views id ≡ some v → Keeps k (stepped s i (slice_index s.words i) id [] v keeps)
  same_words s i id v lt h at = let w : set s.words i (slice_index s.words i) ≡ s.words = set_again s.words i (slice_index s.words i) (word_there s.words i (omega (arith, h.two_words))) in
      let u : set s.views id v ≡ s.views = set_again s.views id v at in
      record {
        two_words = ap length w ∙ h.two_words;
        kept = subst (λ (z : List ℕ × List Known). IsKept k (slice_index z.0 0) (slice_index z.0 1) z.1) (λ j. (sym w j, sym u j)) h.kept;
      }

  pub bounds : (slots id : ℕ) (m : Me S Known) → 0 < length m.0.numbers → Allows (Keeps k) slots id m 0 (λ n. n) (Weighs (step slots 0 0 0 none) m)
  bounds slots id m some_number s h homes at fits = let sized = (h.kept.each id m.0 at).same_size some_number in let seen = looks k _ _ id s.views m.0 h.kept at in
      (m.0, keeps, tt, same_words s 0 id m.0 (omega arith) h at, (refl, omega (arith, sized.0, seen.0), omega (arith, seen.1, h.kept.sizes.1), λ w. subst (λ (z : ℕ). times w m.0.numbers ≤ once_below w z) (sym sized.1) (seen.2 w)))

  pub sets_stop : (slots id : ℕ) (m : Me S Known) → 0 < length m.0.numbers → Allows (Keeps k) slots id m 1 (λ n. bit_or n 1) (SetsStop (step slots 1 1 0 none) m)
  sets_stop slots id m some_number s h homes at fits = (
    with_stop m.0,
    keeps,
    tt,
    record {
      two_words = length-words s.words 1 _ ∙ h.two_words;
      kept =
          at_word_1 s.words h.two_words (bit_or (slice_index s.words 1) 1) (λ x y. IsKept k x y (set s.views id (with_stop m.0)))
          (subst (λ (z : ℕ). IsKept k (slice_index s.words 0) z (set s.views id (with_stop m.0))) (sym one) (stop_set k _ _ id s.views m.0 h.kept at some_number));
    },
    (refl, refl),
  )
    where
      b : ℕ
      b = slice_index s.words 1

      one : bit_or b 1 ≡ 1
      one = dite (ℕ_discrete b 0) (λ e. ap (λ z. bit_or z 1) e) (λ ne. ap (λ z. bit_or z 1) ((stop_seen k _ b id s.views m.0 h.kept at).1 (omega arith)).0)

  pub looks_for_stop : (slots id : ℕ) (m : Me S Known) → 0 < length m.0.numbers → Allows (Keeps k) slots id m 1 (λ n. n) (SeesStop (step slots 1 0 0 none) m)
  looks_for_stop slots id m some_number s h homes at fits = let seen = stop_seen k (slice_index s.words 0) b id s.views m.0 h.kept at in let sized = (h.kept.each id m.0 at).same_size some_number in
      dite (ℕ_discrete b 0)
      (λ e. (m.0, keeps, tt, same_words s 1 id m.0 (omega arith) h at, (refl, (λ _. (refl, seen.0 e)), (λ p. absurd (omega arith)))))
      (λ ne. let one : b ≡ 1 = (seen.1 (omega arith)).0 in (
        with_stop m.0,
        keeps,
        tt,
        record {
          two_words = length-words s.words 1 _ ∙ h.two_words;
          kept =
              at_word_1 s.words h.two_words b (λ x y. IsKept k x y (set s.views id (with_stop m.0)))
              (subst (λ (z : ℕ). IsKept k (slice_index s.words 0) z (set s.views id (with_stop m.0))) (sym one) (stop_set k _ _ id s.views m.0 h.kept at some_number));
        },
        (refl, (λ z. absurd (omega arith)), (λ p. (one, refl, λ whole. (seen.1 p).1 (omega (arith, whole, sized.1))))),
      ))
    where
      b : ℕ
      b = slice_index s.words 1

  pub cuts : (id : ℕ) (v : Known) → IsFresh v → Splits (Keeps {S = S} k) id v (all_but_first v) (first_alone v)
  cuts id v fresh s h at = record { two_words = h.two_words; kept = splits k _ _ id s.views v h.kept at fresh }

  pub glues : (id other : ℕ) (v w : Known) → 0 < length v.numbers → Joins (Keeps {S = S} k) id v other w (together v w) spent
  glues id other v w some_number s h at apart there = record { two_words = h.two_words; kept = joins k _ _ id other s.views v w h.kept at apart there some_number }

  -- what `close` tells
  pub closes : (id : ℕ) (v : Known) (ws : List ℕ) (xs : List S) → length v.numbers ≡ k.workers → 0 < length v.ended → Final (Seen (Keeps k) id v) ws xs
      → ((x : ℕ) → times_claimed x v.claims ≡ once_below x k.pieces) × (length v.claims ≡ k.pieces) × ((w : ℕ) → times w v.numbers ≡ once_below w k.workers) × ((w : ℕ) → 0 < claims_by w v.claims → w < k.workers)
  closes id v ws xs whole done (s, seen, _, _, _) = all_claimed k _ _ id s.views v seen.0.kept seen.1 whole done

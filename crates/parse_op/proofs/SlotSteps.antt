-- What is remembered of an item.
use Rattle.std.proofs.Common.{◌≡◌, ◌<◌, ◌≤◌, ◌+◌, ◌⊎◌, ℕ, zero, suc, Bool, true, false, List, [], ◌∷◌, length, refl, sym, ap, ◌∙◌, arith, inl, inr, subst, take, take_all}
use Rattle.std.specs.Prelude.{IfOk, None, Option, Result, Some, min, nat_le, slice_index_or, slice_set}
use Rattle.std.specs.Str.{IsUtf8}
use Rattle.std.proofs.lemmas.Str.{IsCharBoundary-start}
use Rattle.std.proofs.lemmas.Bool.{cases_Bool, leb-false, leb-true}
use Rattle.kql_bound.specs.declared.parts.PatItem.{PatItem}
use Rattle.parse_op.specs.declared.slot.Slot.{Slot}
use Rattle.kql_meaning.specs.Cuts.{cut, is_cut}
use Rattle.parse_op.specs.Search.{Answers, AreFresh, AreRemembered, IsFresh, IsOpen, IsRemembered, NoneBefore, NoneBehind, TakesAny, cut_from, is_place}
use Rattle.parse_op.proofs.CutSteps.{boundary-place, later-none, none-at, none-later, place-within}

-- From the lesser of two places on there is none.
pub from-lesser : (relaxed : Bool) (p : PatItem) (ps : List PatItem) (t : List ℕ) (start place : ℕ) (old new : Slot) → NoneBehind relaxed p ps t start 0 → TakesAny relaxed p ps t start place → new.failed.items ≡ old.failed.items → new.fails_from ≡ min old.fails_from place → IsRemembered relaxed p ps t old → IsRemembered relaxed p ps t new
unfolding IsRemembered NoneBehind TakesAny
from-lesser relaxed p ps t start place old new none any same is h = (
  λ i low here. elim (cases_Bool (nat_le old.fails_from i)) [
    | inl le ↦ h.0 i (leb-true old.fails_from i le) here
    | inr gt ↦
        let from : place ≤ i = omega (arith, leb-false old.fails_from i gt, low, is) in
        let within = place-within t i here in
        none-later relaxed p ps t start i (omega (arith, any.0, from)) here (any.1 i from within) (none i (omega arith))
  ],
  λ i marked here. h.1 i (ap (λ (xs : List Bool). slice_index_or xs i false) (sym same) ∙ marked) here,
)

-- A place more.
pub one-more : (relaxed : Bool) (p : PatItem) (ps : List PatItem) (t : List ℕ) (start : ℕ) (old new : Slot) → NoneBehind relaxed p ps t start 0 → new.fails_from ≡ old.fails_from → ((i : ℕ) → slice_index_or new.failed.items i false ≡ true → (i ≡ start) ⊎ (slice_index_or old.failed.items i false ≡ true)) → IsRemembered relaxed p ps t old → IsRemembered relaxed p ps t new
unfolding IsRemembered
one-more relaxed p ps t start old new none same marked h = (
  λ i low here. h.0 i (subst (λ n. n ≤ i) same low) here,
  λ i mark here. elim (marked i mark) [
    | inl is ↦ subst (λ k. cut_from relaxed (p ∷ ps) t k ≡ None) (sym is) (none-at relaxed p ps t start none)
    | inr was ↦ h.1 i was here
  ],
)

-- An open slot.

none-beyond : (relaxed : Bool) (p : PatItem) (ps : List PatItem) (t : List ℕ) (start last beyond : ℕ) (slot : Slot) → IsRemembered relaxed p ps t slot → NoneBehind relaxed p ps t start last → beyond ≡ min last slot.fails_from → NoneBehind relaxed p ps t start beyond
unfolding IsRemembered NoneBehind
none-beyond relaxed p ps t start last beyond slot h behind is = λ i low. elim (cases_Bool (nat_le last i)) [
  | inl far ↦ behind i (leb-true last i far)
  | inr near ↦ later-none relaxed p ps t start i (h.0 i (from i low (leb-false last i near)))
]
  where
    from : (i : ℕ) → beyond ≤ i → i < last → slot.fails_from ≤ i
    from i low near = omega (arith, low, near, is)

none-before-less : (relaxed : Bool) (p : PatItem) (ps : List PatItem) (t : List ℕ) (start first end : ℕ) → end ≤ first → NoneBefore relaxed p ps t start first → NoneBefore relaxed p ps t start end
unfolding NoneBefore
none-before-less relaxed p ps t start first end le h = λ i lt. h i (omega (arith, le, lt))

pub opened : (relaxed : Bool) (p : PatItem) (ps : List PatItem) (t : List ℕ) (start first last end beyond : ℕ) (old : Slot) → is_place t start ≡ true → start ≤ first → NoneBefore relaxed p ps t start first → NoneBehind relaxed p ps t start last → IsRemembered relaxed p ps t old → end ≡ min first (length t + 1) → beyond ≡ min last old.fails_from → IsOpen relaxed p ps t (record old { start = start; end = end; beyond = beyond })
unfolding IsOpen
opened relaxed p ps t start first last end beyond old here order before behind h is most =
    let within = place-within t start here in
    (here, omega (arith, order, within, is), omega (arith, is), none-before-less relaxed p ps t start first end (omega (arith, is)) before, none-beyond relaxed p ps t start last beyond old h behind most)

pub other-piece : (relaxed : Bool) (p : PatItem) (ps : List PatItem) (t : List ℕ) (start end beyond : ℕ) (old : Slot) → IsRemembered relaxed p ps t old → IsRemembered relaxed p ps t (record old { start = start; end = end; beyond = beyond })
unfolding IsRemembered
other-piece relaxed p ps t start end beyond old h = h

-- Nothing is remembered.

fresh-slot : (relaxed : Bool) (p : PatItem) (ps : List PatItem) (t : List ℕ) (size : ℕ) (slot : Slot) → size ≡ length t → IsFresh size slot → IsRemembered relaxed p ps t slot
unfolding IsFresh IsRemembered
fresh-slot relaxed p ps t size slot len h = (
  λ i low here. absurd (omega (arith, place-within t i here, low, len, h.0)),
  λ i marked here. let clash : false ≡ true = sym (ap (λ (xs : List Bool). slice_index_or xs i false) h.1) ∙ marked in cc,
)

pub fresh-slots : (relaxed : Bool) (items : List PatItem) (t : List ℕ) (size : ℕ) (slots : List Slot) → size ≡ length t → AreFresh size slots → AreRemembered relaxed items t slots
unfolding AreFresh AreRemembered
fresh-slots relaxed [] t size slots len h = tt
fresh-slots relaxed (p ∷ ps) t size [] len h = tt
fresh-slots relaxed (p ∷ ps) t size (s ∷ ss) len h = (fresh-slot relaxed p ps t size s len h.0, fresh-slots relaxed ps t size ss len h.1)

pub fresh-at-first : (size : ℕ) (slots : List Slot) → AreFresh size (take 0 slots)
unfolding AreFresh
fresh-at-first size [] = tt
fresh-at-first size (s ∷ ss) = tt

fresh-set : (size : ℕ) (slots : List Slot) (k m : ℕ) (s' : Slot) → m ≡ k + 1 → k < length slots → AreFresh size (take k slots) → IsFresh size s' → AreFresh size (take m (slice_set slots k s'))
unfolding AreFresh
fresh-set size [] k m s' e lt h one = absurd (omega (arith, lt))
fresh-set size (s ∷ ss) k zero s' e lt h one = absurd (omega (arith, e))
fresh-set size (s ∷ []) zero (suc zero) s' e lt h one = (one, tt)
fresh-set size (s ∷ s2 ∷ ss) zero (suc zero) s' e lt h one = (one, tt)
fresh-set size (s ∷ ss) zero (suc (suc m)) s' e lt h one = absurd (omega (arith, e))
fresh-set size (s ∷ ss) (suc k) (suc m) s' e lt h one = (h.0, fresh-set size ss k m s' (omega (arith, e)) (omega (arith, lt)) h.1 one)

pub fresh-more : (size : ℕ) (slots new : List Slot) (k : ℕ) (s' : Slot) → AreFresh size (take k slots) → k < length slots → IsFresh size s' → new ≡ slice_set slots k s' → AreFresh size (take (k + 1) new)
fresh-more size slots new k s' h lt one is = subst (λ xs. AreFresh size (take (k + 1) xs)) (sym is) (fresh-set size slots k (k + 1) s' refl lt h one)

pub fresh-all : (size : ℕ) (slots : List Slot) (k : ℕ) → length slots ≤ k → AreFresh size (take k slots) → AreFresh size slots
fresh-all size slots k le h = subst (AreFresh size) (take_all k slots le) h

-- The cut of a whole text.

pub first-place : (t : List ℕ) → IsUtf8 t → is_place t 0 ≡ true
first-place t h = boundary-place t 0 (IsCharBoundary-start t h)

whole : (relaxed : Bool) (ps : List PatItem) (t : List ℕ) → cut_from relaxed ps t 0 ≡ cut relaxed ps t
unfolding cut_from cut is_cut
whole relaxed ps t = refl

pub of-whole : {E : Type 0} (r : Result Bool E) (relaxed : Bool) (ps : List PatItem) (t es : List ℕ) → IfOk r (λ b. Answers b (cut_from relaxed ps t 0) es) → IfOk r (λ b. Answers b (cut relaxed ps t) es)
of-whole r relaxed ps t es h = subst (λ (o : Option (List ℕ)). IfOk r (λ b. Answers b o es)) (whole relaxed ps t) h

pub no-cut : (b : Bool) (o : Option (List ℕ)) (es : List ℕ) → b ≡ false → Answers b o es → None ≡ o
unfolding Answers
no-cut b o es e h = sym (subst (λ x. Answers x o es) e h)

pub some-cut : (b : Bool) (o : Option (List ℕ)) (es ends : List ℕ) → b ≡ true → Answers b o es → ends ≡ es → Some ends ≡ o
unfolding Answers
some-cut b o es ends e h is = ap Some is ∙ sym (subst (λ x. Answers x o es) e h)

pub ruleset fresh_steps = (fresh-at-first, fresh-more, fresh-all)

pub ruleset cut_steps = (fresh-slots, of-whole, no-cut, some-cut)

pub ruleset slot_steps = (from-lesser, one-more, place-within)

pub ruleset mark_steps = (place-within)

pub ruleset open_steps = (opened, other-piece, place-within)

-- The slots as the stack of the search.
use Rattle.std.proofs.Common.{◌≡◌, ◌<◌, ◌≤◌, ◌+◌, ◌-◌, ◌*◌, ◌++◌, ℕ, zero, suc, Bool, List, [], ◌∷◌, length, take, drop, refl, sym, ap, ◌∙◌, arith, inl, inr, subst}
use Rattle.std.specs.Prelude.{Some, None, nat_le, option_map}
use Rattle.std.proofs.lemmas.Bool.{cases_Bool, leb-false, leb-true}
use Rattle.std.proofs.lemmas.Nat.{mul-le}
use Rattle.std.proofs.Math.Nat.{suc-mul}
use Rattle.kql_bound.specs.declared.parts.PatItem.{PatItem}
use Rattle.parse_op.specs.declared.slot.Slot.{Slot}
use Rattle.parse_op.specs.Search.{AllowsEnd, AreRemembered, Fell, IsOpen, IsRemembered, NoneBefore, Stands, choices, choices_fallen, choices_left, cut_by, cut_from, ends_in, first_end, first_start, passed}
use Rattle.parse_op.proofs.CutSteps.{found-at, place-within}

-- The stack from a slot on.

pub top : (r : Bool) (items : List PatItem) (t : List ℕ) (start : ℕ) (slots : List Slot) (n : ℕ) → Stands r items t start slots n → Stands r (drop n items) t (first_start (drop n slots)) (drop n slots) 0
unfolding Stands first_start
top r [] t start slots n h = absurd h
top r (p ∷ ps) t start [] n h = absurd h
top r (p ∷ ps) t start (s ∷ ss) zero h = (refl, h.1, h.2, h.3)
top r (p ∷ ps) t start (s ∷ ss) (suc n) h = top r ps t s.end ss n h.4

pub put : (r : Bool) (items : List PatItem) (t : List ℕ) (start : ℕ) (slots : List Slot) (n : ℕ) (new : List Slot) (k m : ℕ) → m ≡ n + k → Stands r items t start slots n → Stands r (drop n items) t (first_start (drop n slots)) new k → Stands r items t start (take n slots ++ new) m
unfolding Stands first_start
put r [] t start slots n new k m e h g = absurd h
put r (p ∷ ps) t start [] n new k m e h g = absurd h
put r (p ∷ ps) t start (s ∷ ss) zero new k m e h g =
    let same : k ≡ m = omega (arith, e) in
    subst (λ j. Stands r (p ∷ ps) t start new j) same (subst (λ x. Stands r (p ∷ ps) t x new k) h.0 g)
put r (p ∷ ps) t start (s ∷ ss) (suc n) new k zero e h g = absurd (omega (arith, e))
put r (p ∷ ps) t start (s ∷ ss) (suc n) new k (suc m) e h g = (h.0, h.1, h.2, h.3, put r ps t s.end ss n new k m (omega (arith, e)) h.4 g)

pub within-items : (r : Bool) (items : List PatItem) (t : List ℕ) (start : ℕ) (slots : List Slot) (n : ℕ) → Stands r items t start slots n → n < length items
unfolding Stands
within-items r [] t start slots n h = absurd h
within-items r (p ∷ ps) t start [] n h = absurd h
within-items r (p ∷ ps) t start (s ∷ ss) zero h = omega arith
within-items r (p ∷ ps) t start (s ∷ ss) (suc n) h = let more = within-items r ps t s.end ss n h.4 in omega (arith, more)

pub within-slots : (r : Bool) (items : List PatItem) (t : List ℕ) (start : ℕ) (slots : List Slot) (n : ℕ) → Stands r items t start slots n → n < length slots
unfolding Stands
within-slots r [] t start slots n h = absurd h
within-slots r (p ∷ ps) t start [] n h = absurd h
within-slots r (p ∷ ps) t start (s ∷ ss) zero h = omega arith
within-slots r (p ∷ ps) t start (s ∷ ss) (suc n) h = let more = within-slots r ps t s.end ss n h.4 in omega (arith, more)

-- The next end of a slot.

pub none-before-next : (r : Bool) (p : PatItem) (ps : List PatItem) (t : List ℕ) (start end : ℕ) → NoneBefore r p ps t start end → cut_by r p ps t start end ≡ None → NoneBefore r p ps t start (end + 1)
unfolding NoneBefore
none-before-next r p ps t start end none here = λ i lt. elim (cases_Bool (nat_le end i)) [
  | inl le ↦
      let same : i ≡ end = omega (arith, lt, leb-true end i le) in
      subst (λ k. cut_by r p ps t start k ≡ None) (sym same) here
  | inr gt ↦ none i (leb-false end i gt)
]

open-next : (r : Bool) (p : PatItem) (ps : List PatItem) (t : List ℕ) (s : Slot) → IsOpen r p ps t s → AllowsEnd r p ps t s.start s.end → cut_from r ps t s.end ≡ None → IsOpen r p ps t (record s { end = s.end + 1 })
unfolding IsOpen AllowsEnd
open-next r p ps t s h a none =
    let high = place-within t s.end a.0 in
    (h.0, omega (arith, h.1), omega (arith, high), none-before-next r p ps t s.start s.end h.3 (a.1 ∙ ap (option_map (λ ends. s.end ∷ ends)) none), h.4)

pub other-end : (r : Bool) (p : PatItem) (ps : List PatItem) (t : List ℕ) (s : Slot) (end : ℕ) → IsRemembered r p ps t s → IsRemembered r p ps t (record s { end = end })
unfolding IsRemembered
other-end r p ps t s end h = h

fell-at-first : (r : Bool) (items : List PatItem) (t : List ℕ) (start : ℕ) (slots : List Slot) → Fell r items t start slots 0 → (cut_from r items t start ≡ None) × AreRemembered r items t slots
unfolding Fell
fell-at-first r [] t start [] h = h
fell-at-first r [] t start (s ∷ ss) h = h
fell-at-first r (p ∷ ps) t start [] h = h
fell-at-first r (p ∷ ps) t start (s ∷ ss) h = h

falls-at-first : (r : Bool) (items : List PatItem) (t : List ℕ) (start : ℕ) (slots : List Slot) → cut_from r items t start ≡ None → AreRemembered r items t slots → Fell r items t start slots 0
unfolding Fell
falls-at-first r [] t start [] none are = (none, are)
falls-at-first r [] t start (s ∷ ss) none are = (none, are)
falls-at-first r (p ∷ ps) t start [] none are = (none, are)
falls-at-first r (p ∷ ps) t start (s ∷ ss) none are = (none, are)

pub fell-put : (r : Bool) (items : List PatItem) (t : List ℕ) (start : ℕ) (slots : List Slot) (n : ℕ) (new : List Slot) → Stands r items t start slots n → cut_from r (drop n items) t (first_start (drop n slots)) ≡ None → AreRemembered r (drop n items) t new → Fell r items t start (take n slots ++ new) n
unfolding Stands Fell first_start
fell-put r [] t start slots n new h none are = absurd h
fell-put r (p ∷ ps) t start [] n new h none are = absurd h
fell-put r (p ∷ ps) t start (s ∷ ss) zero new h none are = falls-at-first r (p ∷ ps) t start new (ap (cut_from r (p ∷ ps) t) (sym h.0) ∙ none) are
fell-put r (p ∷ ps) t start (s ∷ ss) (suc n) new h none are = (h.0, h.1, h.2, h.3, fell-put r ps t s.end ss n new h.4 none are)

pub fell-pass : (r : Bool) (items : List PatItem) (t : List ℕ) (start : ℕ) (slots : List Slot) (n : ℕ) → Fell r items t start slots (suc n) → Stands r items t start (take n slots ++ passed (drop n slots)) n
unfolding Stands Fell passed
fell-pass r [] t start slots n h = absurd h
fell-pass r (p ∷ ps) t start [] n h = absurd h
fell-pass r (p ∷ ps) t start (s ∷ ss) zero h =
    let later = fell-at-first r ps t s.end ss h.4 in
    (h.0, open-next r p ps t s h.1 h.3 later.0, other-end r p ps t s (s.end + 1) h.2, later.1)
fell-pass r (p ∷ ps) t start (s ∷ ss) (suc n) h = (h.0, h.1, h.2, h.3, fell-pass r ps t s.end ss n h.4)

pub fell-within : (r : Bool) (items : List PatItem) (t : List ℕ) (start : ℕ) (slots : List Slot) (n : ℕ) → Fell r items t start slots (suc n) → n < length slots
unfolding Fell
fell-within r [] t start slots n h = absurd h
fell-within r (p ∷ ps) t start [] n h = absurd h
fell-within r (p ∷ ps) t start (s ∷ ss) zero h = omega arith
fell-within r (p ∷ ps) t start (s ∷ ss) (suc n) h = let more = fell-within r ps t s.end ss n h.4 in omega (arith, more)

pub fell-end : (r : Bool) (items : List PatItem) (t : List ℕ) (start : ℕ) (slots : List Slot) (n : ℕ) → Fell r items t start slots (suc n) → first_end (drop n slots) ≤ length t
unfolding Fell AllowsEnd first_end
fell-end r [] t start slots n h = absurd h
fell-end r (p ∷ ps) t start [] n h = absurd h
fell-end r (p ∷ ps) t start (s ∷ ss) zero h = place-within t s.end h.3.0
fell-end r (p ∷ ps) t start (s ∷ ss) (suc n) h = fell-end r ps t s.end ss n h.4

-- A cut.

pub all-ends : (r : Bool) (items : List PatItem) (t : List ℕ) (start : ℕ) (slots : List Slot) (n : ℕ) (es : List ℕ) → Stands r items t start slots n → cut_from r (drop n items) t (first_start (drop n slots)) ≡ Some es → cut_from r items t start ≡ Some (ends_in (take n slots) ++ es)
unfolding Stands first_start IsOpen AllowsEnd
all-ends r [] t start slots n es h found = absurd h
all-ends r (p ∷ ps) t start [] n es h found = absurd h
all-ends r (p ∷ ps) t start (s ∷ ss) zero es h found = ap (cut_from r (p ∷ ps) t) (sym h.0) ∙ found
all-ends r (p ∷ ps) t start (s ∷ ss) (suc n) es h found =
    let more = all-ends r ps t s.end ss n es h.4 found in
    let by = h.3.1 ∙ ap (option_map (λ ends. s.end ∷ ends)) more in
    ap (cut_from r (p ∷ ps) t) (sym h.0) ∙ found-at r p ps t s.start s.end (s.end ∷ (ends_in (take n ss) ++ es)) h.1.3 by

ends-append : (xs ys : List Slot) → ends_in (xs ++ ys) ≡ ends_in xs ++ ends_in ys
ends-append [] ys = refl
ends-append (x ∷ xs) ys = ap (λ es. x.end ∷ es) (ends-append xs ys)

pub whole-cut : (r : Bool) (items : List PatItem) (t : List ℕ) (start : ℕ) (slots : List Slot) (n : ℕ) (new : List Slot) → Stands r items t start slots n → cut_from r (drop n items) t (first_start (drop n slots)) ≡ Some (ends_in new) → cut_from r items t start ≡ Some (ends_in (take n slots ++ new))
whole-cut r items t start slots n new h found =
    all-ends r items t start slots n (ends_in new) h found ∙ ap Some (sym (ends-append (take n slots) new))

pub none-at-first : (r : Bool) (items : List PatItem) (t : List ℕ) (start : ℕ) (slots : List Slot) → Fell r items t start slots 0 → cut_from r items t start ≡ None
none-at-first r items t start slots h = (fell-at-first r items t start slots h).0

-- Fewer choices are left.

some-choices : (size n : ℕ) → 1 ≤ choices size n
unfolding choices
some-choices size zero = omega arith
some-choices size (suc n) = mul-le 1 1 (size + 3) (choices size n) (omega arith) (some-choices size n)

plus-below : (a b c : ℕ) → b < c → a + b < a + c
plus-below a b c h = omega (arith, h)

below-plus : (a b c : ℕ) → a ≡ b → 1 ≤ c → a < b + c
below-plus a b c e h = omega (arith, e, h)

length-put : (n : ℕ) (slots new : List Slot) → length new ≡ length (drop n slots) → length (take n slots ++ new) ≡ length slots
length-put zero [] new h = h
length-put (suc n) [] new h = h
length-put zero (s ∷ ss) new h = h
length-put (suc n) (s ∷ ss) new h = let more = length-put n ss new h in omega (arith, more)

length-passed : (slots : List Slot) → length (passed slots) ≡ length slots
unfolding passed
length-passed [] = refl
length-passed (s ∷ ss) = refl

pub fewer-put : (size : ℕ) (slots : List Slot) (n : ℕ) (new : List Slot) (k m : ℕ) → m ≡ n + k → length new ≡ length (drop n slots) → choices_left size new k < choices_left size (drop n slots) 0 → choices_left size (take n slots ++ new) m < choices_left size slots n
unfolding choices_left
fewer-put size [] zero new k m e len h = let low : choices_left size new k < 0 = h in absurd (omega (arith, low))
fewer-put size [] (suc n) new k m e len h = let low : choices_left size new k < 0 = h in absurd (omega (arith, low))
fewer-put size (s ∷ ss) zero new k m e len h = let same : k ≡ m = omega (arith, e) in subst (λ j. choices_left size new j < choices_left size (s ∷ ss) 0) same h
fewer-put size (s ∷ ss) (suc n) new k zero e len h = absurd (omega (arith, e))
fewer-put size (s ∷ ss) (suc n) new k (suc m) e len h =
    let fewer = fewer-put size ss n new k m (omega (arith, e)) len h in
    subst (λ j. (size + 1 - s.end) * choices size j + choices_left size (take n ss ++ new) m < (size + 1 - s.end) * choices size (length ss) + choices_left size ss n) (sym (length-put n ss new len))
    (plus-below ((size + 1 - s.end) * choices size (length ss)) (choices_left size (take n ss ++ new) m) (choices_left size ss n) fewer)

none-fallen : (size : ℕ) (slots : List Slot) → choices_fallen size slots 0 ≡ 0
unfolding choices_fallen
none-fallen size [] = refl
none-fallen size (s ∷ ss) = refl

pub fewer-fell : (size : ℕ) (slots : List Slot) (n : ℕ) (new : List Slot) → length new ≡ length (drop n slots) → 0 < choices_left size (drop n slots) 0 → choices_fallen size (take n slots ++ new) n < choices_left size slots n
unfolding choices_left choices_fallen
fewer-fell size [] zero new len some = let low : 0 < 0 = some in absurd (omega (arith, low))
fewer-fell size [] (suc n) new len some = let low : 0 < 0 = some in absurd (omega (arith, low))
fewer-fell size (s ∷ ss) zero new len some = subst (λ m. m < choices_left size (s ∷ ss) 0) (sym (none-fallen size new)) some
fewer-fell size (s ∷ ss) (suc n) new len some =
    let fewer = fewer-fell size ss n new len some in
    subst (λ m. (size + 1 - s.end) * choices size m + choices_fallen size (take n ss ++ new) n < (size + 1 - s.end) * choices size (length ss) + choices_left size ss n) (sym (length-put n ss new len))
    (plus-below ((size + 1 - s.end) * choices size (length ss)) (choices_fallen size (take n ss ++ new) n) (choices_left size ss n) fewer)

at-most-plus : (a b c : ℕ) → a ≡ b → a ≤ b + c
at-most-plus a b c e = omega (arith, e)

plus-at-most : (a b c : ℕ) → b ≤ c → a + b ≤ a + c
plus-at-most a b c h = omega (arith, h)

pub fewer-pass : (size : ℕ) (slots : List Slot) (n : ℕ) → choices_left size (take n slots ++ passed (drop n slots)) n ≤ choices_fallen size slots (suc n)
unfolding choices_left choices_fallen passed
fewer-pass size [] zero = let none : 0 ≤ 0 = omega arith in none
fewer-pass size [] (suc n) = let none : 0 ≤ 0 = omega arith in none
fewer-pass size (s ∷ ss) zero =
    let left : size + 2 - (s.end + 1) ≡ size + 1 - s.end = omega arith in
    at-most-plus ((size + 2 - (s.end + 1)) * choices size (length ss)) ((size + 1 - s.end) * choices size (length ss)) (choices_fallen size ss 0) (ap (λ (a : ℕ). a * choices size (length ss)) left)
fewer-pass size (s ∷ ss) (suc n) =
    let new = passed (drop n ss) in
    let same : length (take n ss ++ new) ≡ length ss = length-put n ss new (length-passed (drop n ss)) in
    subst (λ m. (size + 1 - s.end) * choices size m + choices_left size (take n ss ++ new) n ≤ (size + 1 - s.end) * choices size (length ss) + choices_fallen size ss (suc n)) (sym same)
    (plus-at-most ((size + 1 - s.end) * choices size (length ss)) (choices_left size (take n ss ++ new) n) (choices_fallen size ss (suc n)) (fewer-pass size ss n))

pub some-left : (r : Bool) (items : List PatItem) (t : List ℕ) (start : ℕ) (slots : List Slot) → Stands r items t start slots 0 → 0 < choices_left (length t) slots 0
unfolding Stands IsOpen choices_left
some-left r [] t start slots h = absurd h
some-left r (p ∷ ps) t start [] h = absurd h
some-left r (p ∷ ps) t start (s ∷ ss) h =
    let one : 1 * 1 ≤ (length t + 2 - s.end) * choices (length t) (length ss) = mul-le 1 1 (length t + 2 - s.end) (choices (length t) (length ss)) (omega (arith, h.1.2)) (some-choices (length t) (length ss)) in omega (arith, one)

one-more : (a w : ℕ) → (a + 1) * w ≡ a * w + w
one-more a w = let next : a + 1 ≡ suc a = omega arith in ap (λ n. n * w) next ∙ suc-mul a w

three : (a w : ℕ) → (a + 3) * w ≡ (a + 2) * w + w
three a w = let next : a + 3 ≡ suc (a + 2) = omega arith in ap (λ n. n * w) next ∙ suc-mul (a + 2) w

fewer-in-all : (av bw cv v hw w : ℕ) → av + v ≤ cv → bw ≤ hw → v ≡ hw + w → 1 ≤ w → av + bw < cv
fewer-in-all av bw cv v hw w a b c d = omega (arith, a, b, c, d)

pub fewer-deeper : (size end end' end2 m : ℕ) → end ≤ end' → end' ≤ size → (size + 1 - end') * choices size (suc m) + (size + 2 - end2) * choices size m < (size + 2 - end) * choices size (suc m)
unfolding choices
fewer-deeper size end end' end2 m low high =
    let w = choices size m in
    let v = (size + 3) * w in
    let a = size + 1 - end' in
    let most : (a + 1) * v ≤ (size + 2 - end) * v = mul-le (a + 1) v (size + 2 - end) v (omega (arith, low, high)) (omega arith) in
    let sum : (a + 1) * v ≡ a * v + v = one-more a v in
    fewer-in-all (a * v) ((size + 2 - end2) * w) ((size + 2 - end) * v) v ((size + 2) * w) w
    (subst (λ x. x ≤ (size + 2 - end) * v) sum most)
    (mul-le (size + 2 - end2) w (size + 2) w (omega arith) (omega arith))
    (three size w)
    (some-choices size m)

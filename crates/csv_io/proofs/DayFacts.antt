-- Datetimes of a day that is known.
use Rattle.std.proofs.Common.{◌≡◌, ◌≤◌, ◌<◌, ◌+◌, ◌-◌, ◌*◌, ◌/◌, ◌%◌, ◌==◌, ◌&&◌, ◌∙◌, ℕ, zero, suc, Bool, true, false, eqb, List, [], ◌∷◌, length, length-drop, length-take, drop, take, get_or, map, refl, sym, ap, subst, arith, inl, inr, of_z, to_z, w64, FitsSigned}
use Rattle.std.specs.Prelude.{◌+ℤ◌, ℤ, pos, Option, Some, None, nat_lt, option_map}
use Rattle.std.specs.List.{range_with_len}
use Rattle.std.proofs.lemmas.Bool.{cases_Bool, eqb-true}
use Rattle.std.proofs.lemmas.Bool.Decides.{nat_tests}
use Rattle.std.proofs.lemmas.Int.{ints, to_z-of_z}
use Rattle.std.proofs.lemmas.List.{drop_all, drop_more, take_all}
use lib.Pointwise.{pointwise}
use Rattle.csv_io.specs.Days.{IsDay, IsPair, IsTicksOf, has_marks}
use Rattle.kql_cells.specs.Values.{IsMoment}
use Rattle.kql_ticks.specs.Forms.{date_in, fraction_in, long_time_in, minutes_in, moment_in, seconds_in, ticks_in_range, time_in, time_of_day_in, zone_in, zoned_in}
use Rattle.kql_ticks.proofs.ZoneLaws.{tick-is, ticks_are}
use Rattle.kql_ticks.specs.Numbers.{number, share, value}

below : (n m : ℕ) → n < m → nat_lt n m ≡ true
below n m e = grind (arith, nat_tests)

-- numbers of two digits, and seven digits of a second
pair-number : (a b n : ℕ) → IsPair a b n → number (a ∷ b ∷ []) ≡ Some n
unfolding number value
pair-number a b n p =
    let v : (a - 48) * 10 + ((b - 48) * 1 + 0) ≡ n = omega (arith, p.2) in
    rw (p.0, p.1, v, below n 10000000000000000000 (omega (arith, p.3))) refl

seven-share : (a b c d e f g p q r s n : ℕ) → IsPair a b p → IsPair c d q → IsPair e f r → IsPair 48 g s → n ≡ 1000 * (100 * p + q) + (10 * r + s) → share 10000000 (a ∷ b ∷ c ∷ d ∷ e ∷ f ∷ g ∷ []) ≡ Some n
unfolding share value
seven-share a b c d e f g p q r s n w x y z is =
    let v : (a - 48) * 1000000 + ((b - 48) * 100000 + ((c - 48) * 10000 + ((d - 48) * 1000 + ((e - 48) * 100 + ((f - 48) * 10 + ((g - 48) * 1 + 0)))))) ≡ n = omega (arith, w.2, x.2, y.2, z.2, is) in
    let whole : (n * 10000000) % 10000000 ≡ 0 = omega arith in
    let part : n * 10000000 / 10000000 ≡ n = omega arith in
    rw (w.0, w.1, x.0, x.1, y.0, y.1, z.1, v, whole, part) refl

-- a time of day as it is printed
time-full : (a b c d e f g h i j k l m hours minutes seconds p q r s : ℕ) → IsPair a b hours → IsPair c d minutes → IsPair e f seconds
    → IsPair g h p → IsPair i j q → IsPair k l r → IsPair 48 m s → hours < 24 → minutes < 60 → seconds < 60
    → time_of_day_in (84 ∷ a ∷ b ∷ 58 ∷ c ∷ d ∷ 58 ∷ e ∷ f ∷ 46 ∷ g ∷ h ∷ i ∷ j ∷ k ∷ l ∷ m ∷ 90 ∷ [])
    ≡ Some (pos (36000000000 * hours + 600000000 * minutes + (10000000 * seconds + (1000 * (100 * p + q) + (10 * r + s)))))
unfolding time_of_day_in zoned_in zone_in long_time_in time_in minutes_in seconds_in fraction_in
time-full a b c d e f g h i j k l m hours minutes seconds p q r s wh wm ws wp wq wr wz lh lm ls =
    rw (
      wh.0,
      wh.1,
      wm.0,
      wm.1,
      ws.0,
      ws.1,
      wp.0,
      wp.1,
      wq.0,
      wq.1,
      wr.0,
      wr.1,
      wz.1,
      pair-number a b hours wh,
      pair-number c d minutes wm,
      pair-number e f seconds ws,
      seven-share g h i j k l m p q r s _ wp wq wr wz refl,
      below hours 24 lh,
      below minutes 60 lm,
      below seconds 60 ls,
    ) (ap Some (omega (arith, ints)))

-- a list by its elements
spelled : (t : List ℕ) (n k : ℕ) → k + n ≡ length t → drop k t ≡ map (λ i. get_or t i 0) (range_with_len k n)
spelled t zero k e = drop_all k t (omega arith)
spelled t (suc n) k e = drop_more t k 0 (omega arith) ∙ ap (λ l. get_or t k 0 ∷ l) (spelled t n (k + 1) (omega arith))

all-five : (a b c d e : Bool) → (a && b && c && d && e) ≡ true → (a ≡ true) × (b ≡ true) × (c ≡ true) × (d ≡ true) × (e ≡ true)
all-five true true true true true h = (refl, refl, refl, refl, refl)
all-five true true true true false h = cc
all-five true true true false e h = cc
all-five true true false d e h = cc
all-five true false c d e h = cc
all-five false b c d e h = cc

pub time-at : (t : List ℕ) (hours minutes seconds p q r s : ℕ) → length t ≡ 18 → has_marks t ≡ true
    → IsPair (get_or t 1 0) (get_or t 2 0) hours → IsPair (get_or t 4 0) (get_or t 5 0) minutes → IsPair (get_or t 7 0) (get_or t 8 0) seconds
    → IsPair (get_or t 10 0) (get_or t 11 0) p → IsPair (get_or t 12 0) (get_or t 13 0) q → IsPair (get_or t 14 0) (get_or t 15 0) r → IsPair 48 (get_or t 16 0) s
    → hours < 24 → minutes < 60 → seconds < 60
    → time_of_day_in t ≡ Some (pos (36000000000 * hours + 600000000 * minutes + (10000000 * seconds + (1000 * (100 * p + q) + (10 * r + s)))))
time-at t hours minutes seconds p q r s size marks wh wm ws wp wq wr wz lh lm ls =
    let m = all-five (get_or t 0 0 == 84) (get_or t 3 0 == 58) (get_or t 6 0 == 58) (get_or t 9 0 == 46) (get_or t 17 0 == 90) marks in
    let e0 = eqb-true (get_or t 0 0) 84 m.0 in
    let e3 = eqb-true (get_or t 3 0) 58 m.1 in
    let e6 = eqb-true (get_or t 6 0) 58 m.2 in
    let e9 = eqb-true (get_or t 9 0) 46 m.3 in
    let e17 = eqb-true (get_or t 17 0) 90 m.4 in
    ap time_of_day_in (spelled t 18 0 (sym size))
    ∙ rw (e0, e3, e6, e9, e17) (time-full (get_or t 1 0) (get_or t 2 0) (get_or t 4 0) (get_or t 5 0) (get_or t 7 0) (get_or t 8 0) (get_or t 10 0) (get_or t 11 0) (get_or t 12 0)
    (get_or t 13 0) (get_or t 14 0) (get_or t 15 0) (get_or t 16 0) hours minutes seconds p q r s wh wm ws wp wq wr wz lh lm ls)

-- the day of a date, and a time of it
day-of : (d : ℕ) (x : ℤ) → option_map pos (ticks_in_range (pos (864000000000 * d) +ℤ pos 0)) ≡ Some x → (x ≡ pos (864000000000 * d)) × (864000000000 * d ≤ 3155378975999999999)
day-of d x e =
    let plain : pos (864000000000 * d) +ℤ pos 0 ≡ pos (864000000000 * d) = omega (arith, ints) in
    tick-is (864000000000 * d) x (rw plain at e)

moment-bound : (d c : ℕ) → 864000000000 * d ≤ 3155378975999999999 → c < 864000000000 → IsMoment (pos (864000000000 * d) +ℤ pos c)
moment-bound d c h lt = (omega (arith, ints), omega (arith, ints))

day-some : (t : List ℕ) (d c : ℕ) → date_in (take 10 t) ≡ Some d → 864000000000 * d ≤ 3155378975999999999 → time_of_day_in (drop 10 t) ≡ Some (pos c) → c < 864000000000
    → IsTicksOf t (pos (864000000000 * d) +ℤ pos c)
unfolding moment_in
day-some t d c e h time lt =
    let sum : pos (864000000000 * d) +ℤ pos c ≡ pos (864000000000 * d + c) = omega (arith, ints) in
    (rw (e, time, ticks_are (pos (864000000000 * d) +ℤ pos c) (864000000000 * d + c) sum (omega arith)) (ap Some (sym sum)), moment-bound d c h lt)

day-by : (t : List ℕ) (x : ℤ) (c : ℕ) (o : Option ℕ) → date_in (take 10 t) ≡ o → length (take 10 t) ≤ 10 → IsTicksOf (take 10 t) x → time_of_day_in (drop 10 t) ≡ Some (pos c) → c < 864000000000 → IsTicksOf t (x +ℤ pos c)
unfolding moment_in time_of_day_in
day-by t x c None e size h time lt =
    let q = rw (take_all 10 (take 10 t) size, e) at h.0 in cc q
day-by t x c (Some d) e size h time lt =
    let q = rw (take_all 10 (take 10 t) size, drop_all 10 (take 10 t) size, e) at h.0 in
    let day = day-of d x q in
    subst (λ z. IsTicksOf t (z +ℤ pos c)) (sym day.0) (day-some t d c e day.1 time lt)

pub day-time : (t : List ℕ) (x : ℤ) (c : ℕ) → length (take 10 t) ≤ 10 → IsTicksOf (take 10 t) x → time_of_day_in (drop 10 t) ≡ Some (pos c) → c < 864000000000 → IsTicksOf t (x +ℤ pos c)
day-time t x c size h time lt = day-by t x c (date_in (take 10 t)) refl size h time lt

-- lists whose elements are equal
same-lists : (xs ys : List ℕ) → pointwise eqb xs ys ≡ true → xs ≡ ys
same-lists [] [] h = refl
same-lists [] (y ∷ ys) h = cc
same-lists (x ∷ xs) [] h = cc
same-lists (x ∷ xs) (y ∷ ys) h = elim (cases_Bool (eqb x y)) [
  | inl t ↦ let more = rw t at h in rw (eqb-true x y t, same-lists xs ys more) refl
  | inr f ↦ let none = rw f at h in cc none
]

day-known : (date : List ℕ) (start : Option ℤ) (x : ℤ) → start ≡ Some x → IsDay date start → IsTicksOf date x
day-known date None x e h = cc e
day-known date (Some y) x e h = let same : y ≡ x = cc e in subst (IsTicksOf date) same h.1

-- the sum as the machine has it
sum-plain : (x : ℤ) (n : ℕ) → IsMoment x → n < 864000000000 → to_z w64 (of_z w64 (to_z w64 (of_z w64 x) +ℤ to_z w64 n)) ≡ x +ℤ pos n
sum-plain x n m lt =
    let fx : FitsSigned w64 x = omega (arith, ints, m.0, m.1) in
    let fs : FitsSigned w64 (x +ℤ pos n) = omega (arith, ints, m.0, m.1) in
    let time : to_z w64 n ≡ pos n = omega (arith, ints) in
    rw (to_z-of_z w64 x fx, time) (to_z-of_z w64 (x +ℤ pos n) fs)

pub ticks-known : (text date : List ℕ) (start : Option ℤ) (x : ℤ) (n : ℕ) (b : Bool) → length text ≡ 28 → start ≡ Some x → IsDay date start → b ≡ pointwise eqb (take 10 text) date → b ≡ true
    → time_of_day_in (take (length text - 10) (drop 10 text)) ≡ Some (pos n) → n < 864000000000 → IsTicksOf text (to_z w64 (of_z w64 (to_z w64 (of_z w64 x) +ℤ to_z w64 n)))
ticks-known text date start x n b size some day same held time lt =
    let equal = same-lists (take 10 text) date (sym same ∙ held) in
    let known = subst (λ l. IsTicksOf l x) (sym equal) (day-known date start x some day) in
    let rest : take (length text - 10) (drop 10 text) ≡ drop 10 text = take_all (length text - 10) (drop 10 text) (omega (arith, length-drop 10 text)) in
    let short : length (take 10 text) ≤ 10 = omega (arith, length-take 10 text) in
    rw (sum-plain x n known.1 lt) (day-time text x n short known (rw rest at time) lt)

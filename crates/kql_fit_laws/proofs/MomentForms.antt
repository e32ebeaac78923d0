-- Datetimes that are read, made and moved are in range.
use Rattle.std.proofs.Common.{◌≡◌, ℕ, zero, suc, ◌+◌, ◌*◌, ◌/◌, ◌%◌, ◌<◌, ◌≤◌, Bool, true, false, ◌&&◌, List, take, drop, refl, arith, inl, inr}
use Rattle.std.specs.Prelude.{ℤ, pos, negsuc, nat_le, nat_lt, Option, None, Some, IfSome, option_and_then, option_map, if◌then◌else◌}
use Rattle.std.proofs.lemmas.Bool.{cases_Bool, and_parts, and_from}
use Rattle.std.proofs.lemmas.Bool.Decides.{nat_tests}
use Rattle.std.proofs.lemmas.Int.{ints}
use Rattle.kql_cells.specs.Values.{IsMoment}
use Rattle.kql_ticks.specs.declared.part.Part.{Part}
use Rattle.kql_ticks.specs.declared.part.Part.TheVariants as part
use Rattle.kql_ticks.specs.Days.{IsDateOn, date_number, day_on, last_begun, month_on, year_on}
use Rattle.kql_ticks.specs.Forms.{date_in, day_of_date, is_date, moment_at, moment_in, moment_of, size_of, ticks_in_range, time_of_day_in}
use Rattle.kql_ticks.specs.Moves.{add_part, day_within, in_month, to_month}
use Rattle.kql_ticks.specs.Periods.{day_at}
use Rattle.kql_ticks.specs.Ranges.{fit_moment}
use Rattle.kql_ticks.proofs.DayLaws.{day_count-first, day_count-low, month_first, month_next_bound}
use Rattle.kql_ticks.proofs.RangeLaws.{fit_moment_gives}

-- What a step gives has a property where what it is made of has one.
after : {A B : Type 0} (P : A → Type 0) (Q : B → Type 0) (o : Option A) (f : A → Option B) → IfSome o P → ((a : A) → P a → IfSome (f a) Q) → IfSome (option_and_then f o) Q
after P Q None f h g = tt
after P Q (Some a) f h g = g a h

-- What asks nothing of it.
anything : {A : Type 0} → A → Type 0
anything a = Unit {0}

any : {A : Type 0} (o : Option A) → IfSome o anything
unfolding anything
any None = tt
any (Some a) = tt

if-some : {A : Type 0} (b : Bool) (a : A) (P : A → Type 0) → (b ≡ true → P a) → IfSome (if b then Some a else None) P
if-some true a P h = h refl
if-some false a P h = tt

-- The numbers of ticks of datetimes.
abbrev IsTick : ℕ → Type 0
IsTick n = n ≤ 3155378975999999999

abbrev IsDay : ℕ → Type 0
IsDay n = n < 3652059

abbrev IsTimeOfDay : ℕ → Type 0
IsTimeOfDay n = n < 864000000000

tick-moment : (n : ℕ) → IsTick n → IsMoment (pos n)
tick-moment n h = (omega (arith, ints), omega (arith, ints))

pub tick-moments : (o : Option ℕ) → IfSome o IsTick → IfSome (option_map pos o) IsMoment
tick-moments None h = tt
tick-moments (Some n) h = tick-moment n h

-- A date of the years 1 to 9999 is a day in range.
le-from : (a b : ℕ) → nat_le a b ≡ true → a ≤ b
le-from a b e = grind (arith, nat_tests)

lt-from : (a b : ℕ) → nat_lt a b ≡ true → a < b
lt-from a b e = grind (arith, nat_tests)

to-le : (a b : ℕ) → a ≤ b → nat_le a b ≡ true
to-le a b h = grind (arith, nat_tests)

is_date-day : (y m d : ℕ) → is_date y m d ≡ true → IsDay (date_number y m d)
is_date-day y m d e =
    let a = and_parts (nat_le 1 y && nat_le y 9999 && nat_le 1 m && nat_le m 12 && nat_le 1 d) _ e in
    let b = and_parts (nat_le 1 y && nat_le y 9999 && nat_le 1 m && nat_le m 12) (nat_le 1 d) a.0 in
    let c = and_parts (nat_le 1 y && nat_le y 9999 && nat_le 1 m) (nat_le m 12) b.0 in
    let f = and_parts (nat_le 1 y && nat_le y 9999) (nat_le 1 m) c.0 in
    let g = and_parts (nat_le 1 y) (nat_le y 9999) f.0 in
    let low : 1 ≤ y = le-from 1 y g.0 in
    let high : y ≤ 9999 = le-from y 9999 g.1 in
    let first : 1 ≤ d = le-from 1 d b.1 in
    let on : IsDateOn (date_number y m d) y m d = record {
      year = low;
      civil = ((omega (arith, ints), omega (arith, ints)), (le-from _ _ f.1, le-from _ _ c.1), (first, le-from _ _ a.1));
      count = omega (arith, day_count-low y m d low first);
    } in
    omega (arith, month_first (date_number y m d) y m d on, month_next_bound (date_number y m d) y m d on)

day-of-date : (y m d : ℕ) → IfSome (day_of_date y m d) IsDay
unfolding day_of_date
day-of-date y m d = if-some (is_date y m d) (date_number y m d) IsDay (is_date-day y m d)

-- A datetime that a text is, and one of its fields.
tick-of : (d c : ℕ) → IsDay d → IsTimeOfDay c → IsTick (864000000000 * d + c)
tick-of d c h k = omega arith

ticks-in : (x : ℤ) → IfSome (ticks_in_range x) IsTick
unfolding ticks_in_range fit_moment
ticks-in (pos n) = elim (cases_Bool (nat_le n 3155378975999999999)) [
  | inl t ↦ rw t (le-from n 3155378975999999999 t)
  | inr e ↦ rw e tt
]
ticks-in (negsuc n) = tt

moment-read : (t : List ℕ) → IfSome (moment_in t) IsTick
unfolding moment_in
moment-read t =
    after anything IsTick (date_in (take 10 t)) _ (any _) (λ d _. after anything IsTick (time_of_day_in (drop 10 t)) _ (any _) (λ c _. ticks-in _))

pub moment_in-range : (t : List ℕ) → IfSome (option_map pos (moment_in t)) IsMoment
moment_in-range t = tick-moments (moment_in t) (moment-read t)

moment-of-fields : (y m d h mi : ℕ) → IfSome (moment_of y m d h mi) IsTick
unfolding moment_of
moment-of-fields y m d h mi =
    after IsDay IsTick (day_of_date y m d) _ (day-of-date y m d)
    (λ n k. if-some (nat_lt h 24 && nat_lt mi 60) (864000000000 * n + (36000000000 * h + 600000000 * mi)) IsTick (λ l.
    let p = and_parts (nat_lt h 24) (nat_lt mi 60) l in
    tick-of n (36000000000 * h + 600000000 * mi) k (omega (arith, lt-from h 24 p.0, lt-from mi 60 p.1))))

moment-at : (y m d h mi : ℤ) → IfSome (moment_at y m d h mi) IsTick
unfolding moment_at
moment-at y m d h mi =
    after anything IsTick (size_of y) _ (any _) (λ y _. after anything IsTick (size_of m) _ (any _) (λ m _. after anything IsTick (size_of d) _ (any _)
    (λ d _. after anything IsTick (size_of h) _ (any _) (λ h _. after anything IsTick (size_of mi) _ (any _) (λ mi _. moment-of-fields y m d h mi)))))

pub moment_at-range : (y m d h mi : ℤ) → IfSome (option_map pos (moment_at y m d h mi)) IsMoment
moment_at-range y m d h mi = tick-moments (moment_at y m d h mi) (moment-at y m d h mi)

-- A datetime that is moved.
begun-by : (f : ℕ → ℕ) (k n : ℕ) → f 1 ≤ n → f (last_begun f (suc k) n) ≤ n
unfolding last_begun
begun-by f zero n h = elim (cases_Bool (nat_le (f 1) n)) [
  | inl t ↦ rw t h
  | inr e ↦ absurd (grind (arith, nat_tests))
]
begun-by f (suc k) n h = elim (cases_Bool (nat_le (f (suc (suc k))) n)) [
  | inl t ↦ rw t (le-from (f (suc (suc k))) n t)
  | inr e ↦ rw e (begun-by f k n h)
]

year-begun : (n : ℕ) → date_number (year_on n) 1 1 ≤ n
unfolding year_on
year-begun n = begun-by (λ y. date_number y 1 1) 9998 n (omega (arith, day_count-first))

month-begun : (n : ℕ) → date_number (year_on n) (month_on n) 1 ≤ n
unfolding month_on
month-begun n = begun-by (λ m. date_number (year_on n) m 1) 11 n (year-begun n)

day-first : (n : ℕ) → 1 ≤ day_on n
unfolding day_on
day-first n = omega (arith, month-begun n)

month-date : (k d : ℕ) → 12 ≤ k → k < 120000 → 1 ≤ d → is_date (k / 12) (k % 12 + 1) (day_within k d) ≡ true
month-date k d low high first =
    let y : 1 ≤ k / 12 = omega arith in
    let z : k / 12 ≤ 9999 = omega arith in
    let one : 1 ≤ k % 12 + 1 = omega arith in
    let m : k % 12 + 1 ≤ 12 = omega arith in
    let e : 1 ≤ day_within k d = grind arith in
    let f : nat_le (day_within k d) _ ≡ true = grind (arith, nat_tests) in
    and_from (nat_le 1 (k / 12) && nat_le (k / 12) 9999 && nat_le 1 (k % 12 + 1) && nat_le (k % 12 + 1) 12 && nat_le 1 (day_within k d)) _
    (and_from (nat_le 1 (k / 12) && nat_le (k / 12) 9999 && nat_le 1 (k % 12 + 1) && nat_le (k % 12 + 1) 12) (nat_le 1 (day_within k d))
    (and_from (nat_le 1 (k / 12) && nat_le (k / 12) 9999 && nat_le 1 (k % 12 + 1)) (nat_le (k % 12 + 1) 12)
    (and_from (nat_le 1 (k / 12) && nat_le (k / 12) 9999) (nat_le 1 (k % 12 + 1))
    (and_from (nat_le 1 (k / 12)) (nat_le (k / 12) 9999) (to-le _ _ y) (to-le _ _ z)) (to-le _ _ one)) (to-le _ _ m)) (to-le _ _ e)) f

in-month : (k t : ℕ) → 12 ≤ k → k < 120000 → IsTick (in_month k t)
unfolding in_month
in-month k t low high =
    tick-of (date_number (k / 12) (k % 12 + 1) (day_within k (day_on (day_at t)))) (t % 864000000000)
    (is_date-day (k / 12) (k % 12 + 1) (day_within k (day_on (day_at t))) (month-date k (day_on (day_at t)) low high (day-first (day_at t)))) (omega arith)

to-month : (z : ℤ) (t : ℕ) → IfSome (to_month z t) IsMoment
unfolding to_month
to-month (pos k) t =
    if-some (nat_le 12 k && nat_lt k 120000) (pos (in_month k t)) IsMoment (λ e.
    let p = and_parts (nat_le 12 k) (nat_lt k 120000) e in
    tick-moment (in_month k t) (in-month k t (le-from 12 k p.0) (lt-from k 120000 p.1)))
to-month (negsuc k) t = tt

fit : (z : ℤ) → IfSome (fit_moment z) IsMoment
fit z = fit_moment_gives (fit_moment z) z refl

pub add_part-range : (p : Part) (n : ℤ) (t : ℕ) → IfSome (add_part p n t) IsMoment
add_part-range part.Year n t = to-month _ t
add_part-range part.Quarter n t = to-month _ t
add_part-range part.Month n t = to-month _ t
add_part-range _ n t = fit _

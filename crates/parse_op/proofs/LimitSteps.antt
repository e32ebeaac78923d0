-- How long a piece is that reads as a value of a type.
use Rattle.std.proofs.Common.{◌≡◌, ◌<◌, ◌≤◌, ◌+◌, ◌-◌, ◌*◌, ◌^◌, ◌&&◌, ◌||◌, ◌==◌, ℕ, zero, suc, Bool, true, false, List, [], ◌∷◌, length, take, drop, refl, sym, ap, ◌∙◌, arith, inl, inr, subst, length-drop, length-take, length-take-le}
use Rattle.std.specs.Prelude.{if◌then◌else◌, None, Option, Some, bytes_eq, codes, is_some, min, nat_le, nat_lt, not, option_and_then, option_map, ℤ, pos, neg_ℤ, ◌+ℤ◌, ◌-ℤ◌, slice_index, slice_range}
use Rattle.std.specs.Char.{digit_value, is_ascii_digit, to_ascii_lowercase}
use Rattle.std.specs.List.{position, position_or_len, prefix_len}
use Rattle.std.specs.Str.{all_ascii_digits, str_eq_ignore_ascii_case, str_to_ascii_lowercase}
use Rattle.std.specs.Str.Parse.{digits_value, digits_value_after}
use Rattle.std.proofs.lemmas.Bool.{and_parts, cases_Bool, eqb-false, eqb-true, leb-false, leb-true, ltb-false, ltb-true}
use Rattle.std.proofs.lemmas.List.{length-map}
use Rattle.std.proofs.lemmas.Slice.Eq.{bytes_eq-Decides}
use Rattle.std.proofs.Math.Nat.{pow-le-pow_right, pow-suc}
use Rattle.std.proofs.Math.Seq.{take-take}
use Rattle.kql_ticks.specs.Forms.{amount_in, clock_in, date_in, days_in, fraction_in, is_of_clock, is_of_number, length_from, length_in, long_time_in, minutes_in, moment_in, offset_in, quantity_in, seconds_in, span_in, ticks_in_range, time_in, time_of_day_in, unit_in, zone_in, zoned_in}
use Rattle.kql_ticks.specs.Ranges.{fit}
use Rattle.kql_ticks.specs.Numbers.{◌>>=◌, number}
use Rattle.kql_ticks.specs.Texts.{colon, dash, dot, letter_t, plus, space}
use Rattle.kql_cells.specs.Readings.{bool_written, is_whole, long_written}
use Rattle.kql_cells.specs.declared.value.Kind.{Kind}
use Rattle.kql_cells.specs.declared.value.Kind.TheVariants as kind
use Rattle.kql_cells.specs.declared.value.Value.TheVariants as value
use Rattle.kql_scalar_fns.specs.Conversion.{moment_written}
use Rattle.kql_meaning.specs.Cuts.{behind_dash, digits_length, filled_piece_read, number_length, piece_read}
use Rattle.parse_op.specs.Search.{LimitsPieces, NoPieceBelow, is_zero, long_limit, span_number}

-- Options.

map-some : {A B : Type 0} (f : A → B) (o : Option A) → is_some (option_map f o) ≡ true → is_some o ≡ true
map-some f None h = h
map-some f (Some x) h = refl

first-some : {A B : Type 0} (f : A → Option B) (o : Option A) → is_some (option_and_then f o) ≡ true → is_some o ≡ true
first-some f None h = h
first-some f (Some x) h = refl

-- A fact that what follows a step has, whatever the step gives.
second-some : {A B : Type 0} (P : Type 0) (f : A → Option B) (o : Option A) → ((x : A) → is_some (f x) ≡ true → P) → is_some (option_and_then f o) ≡ true → P
second-some P f None each h = cc
second-some P f (Some x) each h = each x h

-- Bools.

same-length : (a b : List ℕ) → str_eq_ignore_ascii_case a b ≡ true → length a ≡ length b
same-length a b h =
    let e = (bytes_eq-Decides (str_to_ascii_lowercase a) (str_to_ascii_lowercase b)).0 h in
    sym (length-map a to_ascii_lowercase) ∙ (ap (λ (xs : List ℕ). length xs) e ∙ length-map b to_ascii_lowercase)

bool-short : (t : List ℕ) → is_some (bool_written t) ≡ true → length t ≤ 5
unfolding bool_written
bool-short t h = elim (cases_Bool (str_eq_ignore_ascii_case t (codes "true"))) [
  | inl set ↦ omega (arith, same-length t (codes "true") set)
  | inr other ↦ elim (cases_Bool (str_eq_ignore_ascii_case t (codes "false"))) [
    | inl set ↦ omega (arith, same-length t (codes "false") set)
    | inr none ↦ let clash : false ≡ true = rw (other, none) at h in cc
  ]
]

-- Datetimes.

fraction-short : (t : List ℕ) → is_some (fraction_in t) ≡ true → length t ≤ 8
unfolding fraction_in
fraction-short [] h = omega arith
fraction-short (b ∷ bs) h = elim (cases_Bool (nat_le (length bs) 7)) [
  | inl le ↦ omega (arith, leb-true (length bs) 7 le)
  | inr gt ↦ elim (cases_Bool (b == dot)) [
    | inl point ↦ elim (cases_Bool (nat_le 1 (length bs))) [
      | inl some ↦ let clash : false ≡ true = rw (point, some, gt) at h in cc
      | inr few ↦ let clash : false ≡ true = rw (point, few) at h in cc
    ]
    | inr other ↦ let clash : false ≡ true = rw other at h in cc
  ]
]

seconds-short : (t : List ℕ) → is_some (seconds_in t) ≡ true → length t ≤ 11
unfolding seconds_in
seconds-short [] h = omega arith
seconds-short (b ∷ bs) h = elim (cases_Bool ((b == colon) && nat_le 2 (length bs))) [
  | inl both ↦
      let steps : is_some (option_and_then (λ (s : ℕ). fraction_in (drop 2 bs) >>= (λ (f : ℕ). if nat_lt s 60 then Some (10000000 * s + f) else None)) (number (slice_range bs 0 2))) ≡ true = rw both at h in
      second-some (length (b ∷ bs) ≤ 11) (λ (s : ℕ). fraction_in (drop 2 bs) >>= (λ (f : ℕ). if nat_lt s 60 then Some (10000000 * s + f) else None)) (number (slice_range bs 0 2))
      (λ s more.
      let short = fraction-short (drop 2 bs) (first-some (λ (f : ℕ). if nat_lt s 60 then Some (10000000 * s + f) else None) (fraction_in (drop 2 bs)) more) in
      omega (arith, short, length-drop 2 bs)) steps
  | inr other ↦ let clash : false ≡ true = rw other at h in cc
]

time-short : (t : List ℕ) → is_some (time_in t) ≡ true → length t ≤ 16
unfolding time_in
time-short t h =
    second-some (length t ≤ 16) (λ (m : ℕ). seconds_in (drop 5 t) >>= (λ (s : ℕ). Some (m + s))) (minutes_in (take 5 t))
    (λ m more. omega (arith, seconds-short (drop 5 t) (first-some (λ (s : ℕ). Some (m + s)) (seconds_in (drop 5 t)) more), length-drop 5 t)) h

long-time-short : (t : List ℕ) → is_some (long_time_in t) ≡ true → length t ≤ 18
unfolding long_time_in
long-time-short t h = elim (cases_Bool (nat_le (length t) 18)) [
  | inl le ↦ leb-true (length t) 18 le
  | inr gt ↦ elim (cases_Bool (nat_le (length t) 16)) [
    | inl few ↦ omega (arith, leb-true (length t) 16 few)
    | inr many ↦ let clash : false ≡ true = rw (many, gt) at h in cc
  ]
]

minutes-short : (t : List ℕ) → is_some (minutes_in t) ≡ true → length t ≤ 5
unfolding minutes_in
minutes-short t h = elim (cases_Bool (length t == 5)) [
  | inl five ↦ omega (arith, eqb-true (length t) 5 five)
  | inr other ↦ let clash : false ≡ true = rw other at h in cc
]

offset-short : (t : List ℕ) → is_some (offset_in t) ≡ true → length t ≤ 5
unfolding offset_in
offset-short [] h = omega arith
offset-short (a ∷ []) h = omega arith
offset-short (a ∷ b ∷ []) h = omega arith
offset-short (a ∷ b ∷ c ∷ []) h = omega arith
offset-short (a ∷ b ∷ c ∷ d ∷ []) h = omega arith
offset-short (a ∷ b ∷ c ∷ d ∷ e ∷ t) h = minutes-short (a ∷ b ∷ c ∷ d ∷ e ∷ t) h

word-short : (t w : List ℕ) → bytes_eq t w ≡ true → length t ≡ length w
word-short t w h = ap (λ (xs : List ℕ). length xs) ((bytes_eq-Decides t w).0 h)

zone-short : (t : List ℕ) → is_some (zone_in t) ≡ true → length t ≤ 6
unfolding zone_in
zone-short [] h = omega arith
zone-short (b ∷ bs) h = elim (cases_Bool (bytes_eq (b ∷ bs) (codes "Z"))) [
  | inl z ↦ omega (arith, word-short (b ∷ bs) (codes "Z") z)
  | inr not-z ↦ elim (cases_Bool (bytes_eq (b ∷ bs) (codes " UTC"))) [
    | inl utc ↦ omega (arith, word-short (b ∷ bs) (codes " UTC") utc)
    | inr not-utc ↦ elim (cases_Bool (b == plus)) [
      | inl ahead ↦
          let offset : is_some (option_map pos (offset_in bs)) ≡ true = rw (not-z, not-utc, ahead) at h in
          omega (arith, offset-short bs (map-some pos (offset_in bs) offset))
      | inr not-ahead ↦ elim (cases_Bool (b == dash)) [
        | inl behind ↦
            let offset : is_some (option_map (λ n. neg_ℤ (pos n)) (offset_in bs)) ≡ true = rw (not-z, not-utc, not-ahead, behind) at h in
            omega (arith, offset-short bs (map-some (λ n. neg_ℤ (pos n)) (offset_in bs) offset))
        | inr none ↦ let clash : false ≡ true = rw (not-z, not-utc, not-ahead, none) at h in cc
      ]
    ]
  ]
]

zoned-short : (o : Option ℕ) (t : List ℕ) → is_some (zoned_in o t) ≡ true → length t ≤ 24
unfolding zoned_in
zoned-short None t h = omega (arith, long-time-short t (map-some pos (long_time_in t) h))
zoned-short (Some i) t h =
    let parts : length (take i t) + length (drop i t) ≡ length t = omega (arith, length-take i t, length-drop i t) in
    let time = long-time-short (take i t) (first-some (λ (c : ℕ). zone_in (drop i t) >>= (λ z. Some (pos c -ℤ z))) (long_time_in (take i t)) h) in
    let zone = second-some (length (drop i t) ≤ 6) (λ (c : ℕ). zone_in (drop i t) >>= (λ z. Some (pos c -ℤ z))) (long_time_in (take i t))
    (λ c more. zone-short (drop i t) (first-some (λ z. Some (pos c -ℤ z)) (zone_in (drop i t)) more)) h in
    omega (arith, parts, time, zone)

day-short : (t : List ℕ) → is_some (time_of_day_in t) ≡ true → length t ≤ 25
unfolding time_of_day_in
day-short [] h = omega arith
day-short (b ∷ bs) h = elim (cases_Bool ((b == letter_t) || (b == space))) [
  | inl either ↦
      let steps : is_some (zoned_in (position (λ c. not (is_of_clock c)) bs) bs) ≡ true = rw either at h in
      omega (arith, zoned-short (position (λ c. not (is_of_clock c)) bs) bs steps)
  | inr other ↦ let clash : false ≡ true = rw other at h in cc
]

moment-short : (t : List ℕ) → is_some (moment_written t) ≡ true → length t ≤ 35
unfolding moment_written moment_in
moment-short t h =
    second-some (length t ≤ 35) (λ (d : ℕ). time_of_day_in (drop 10 t) >>= (λ (c : ℤ). ticks_in_range (pos (864000000000 * d) +ℤ c))) (date_in (take 10 t))
    (λ d more. omega (arith, day-short (drop 10 t) (first-some (λ (c : ℤ). ticks_in_range (pos (864000000000 * d) +ℤ c)) (time_of_day_in (drop 10 t)) more), length-drop 10 t))
    (map-some pos (moment_in t) h)

-- Longs.

digits-within : (m : ℕ) (xs : List ℕ) → m ≤ length xs → all_ascii_digits (take m xs) ≡ true → m ≤ prefix_len is_ascii_digit xs
digits-within zero xs low h = omega arith
digits-within (suc m) [] low h = absurd (omega (arith, low))
digits-within (suc m) (x ∷ xs) low h =
    let parts = and_parts (is_ascii_digit x) (all_ascii_digits (take m xs)) h in
    rw parts.0 (omega (arith, digits-within m xs (omega (arith, low)) parts.1))

whole-digits : (t : List ℕ) → is_whole t ≡ true → all_ascii_digits t ≡ true
whole-digits [] h = refl
whole-digits (x ∷ xs) h = h

whole-some : (t : List ℕ) → is_whole t ≡ true → 1 ≤ length t
whole-some [] h = cc
whole-some (x ∷ xs) h = omega arith

dash-long : (n m : ℕ) → 1 ≤ m → m ≤ n → m + 1 ≤ behind_dash n
unfolding behind_dash
dash-long zero m one le = absurd (omega (arith, one, le))
dash-long (suc n) m one le = omega (arith, le)

whole-of : {A : Type 0} (a b : Bool) (x : A) → is_some (if a && b then Some x else None) ≡ true → a ≡ true
whole-of true b x h = refl
whole-of false b x h = h

long-short : (m : ℕ) (rest : List ℕ) → m ≤ length rest → is_some (long_written (take m rest)) ≡ true → m ≤ number_length rest
unfolding long_written number_length digits_length
long-short zero rest low h = omega arith
long-short (suc m) [] low h = absurd (omega (arith, low))
long-short (suc m) (b ∷ bs) low h = elim (cases_Bool (b == 45)) [
  | inl dash ↦
      let some = rw dash at h in
      let whole = whole-of (is_whole (take m bs)) (nat_le (digits_value 10 (take m bs)) (2 ^ 63)) (neg_ℤ (pos (digits_value 10 (take m bs)))) some in
      let size = length-take-le m bs (omega (arith, low)) in
      let one : 1 ≤ m = omega (arith, whole-some (take m bs) whole, size) in
      let digits = digits-within m bs (omega (arith, low)) (whole-digits (take m bs) whole) in
      rw dash (omega (arith, dash-long (prefix_len is_ascii_digit bs) m one digits))
  | inr other ↦
      let some = rw other at h in
      let whole = whole-of (is_whole (b ∷ take m bs)) (nat_lt (digits_value 10 (b ∷ take m bs)) (2 ^ 63)) (pos (digits_value 10 (b ∷ take m bs))) some in
      rw other (digits-within (suc m) (b ∷ bs) low (whole-digits (b ∷ take m bs) whole))
]

-- Timespans.

digits-number : (m : ℕ) (xs : List ℕ) → m ≤ length xs → all_ascii_digits (take m xs) ≡ true → m ≤ prefix_len is_of_number xs
digits-number zero xs low h = omega arith
digits-number (suc m) [] low h = absurd (omega (arith, low))
digits-number (suc m) (x ∷ xs) low h =
    let parts = and_parts (is_ascii_digit x) (all_ascii_digits (take m xs)) h in
    rw parts.0 (omega (arith, digits-number m xs (omega (arith, low)) parts.1))

prefix-take : (p : ℕ → Bool) (n : ℕ) (xs : List ℕ) → prefix_len p (take n xs) ≤ prefix_len p xs
prefix-take p zero xs = omega arith
prefix-take p (suc n) [] = omega arith
prefix-take p (suc n) (x ∷ xs) = elim (cases_Bool (p x)) [
  | inl t ↦ rw t (omega (arith, prefix-take p n xs))
  | inr f ↦ rw f (omega arith)
]

prefix-same : (p q : ℕ → Bool) (xs : List ℕ) → ((x : ℕ) → p x ≡ q x) → prefix_len p xs ≡ prefix_len q xs
prefix-same p q [] h = refl
prefix-same p q (x ∷ xs) h = elim (cases_Bool (q x)) [
  | inl t ↦ rw (h x, t) (ap (λ n. 1 + n) (prefix-same p q xs h))
  | inr f ↦ rw (h x, f) refl
]

twice-not : (b : Bool) → not (not b) ≡ b
twice-not true = refl
twice-not false = refl

number-digits : (u : List ℕ) → is_some (number u) ≡ true → all_ascii_digits u ≡ true
unfolding number
number-digits u h = elim (cases_Bool (nat_le 1 (length u) && all_ascii_digits u)) [
  | inl both ↦ (and_parts (nat_le 1 (length u)) (all_ascii_digits u) both).1
  | inr other ↦ let clash : false ≡ true = rw other at h in cc
]

days-number : (m : ℕ) (t : List ℕ) → m ≤ length t → is_some (days_in (take m t)) ≡ true → m ≤ prefix_len is_of_number t + 1
unfolding days_in
days-number zero t low h = omega arith
days-number (suc m) [] low h = absurd (omega (arith, low))
days-number (suc m) (b ∷ bs) low h =
    let size = length-take-le m bs (omega (arith, low)) in
    elim (cases_Bool (slice_index (b ∷ take m bs) (length (take m bs)) == dot)) [
      | inl point ↦
          let some : is_some (number (take (length (take m bs)) (b ∷ take m bs))) ≡ true = rw point at h in
          let digits = number-digits (take (length (take m bs)) (b ∷ take m bs)) some in
          let within = digits-number (length (take m bs)) (b ∷ take m bs) (omega arith) digits in
          omega (arith, within, size, prefix-take is_of_number (suc m) (b ∷ bs))
      | inr other ↦ let clash : false ≡ true = rw other at h in cc
    ]

clock-short : (c : ℕ) (t : List ℕ) → is_some (clock_in c t) ≡ true → length t ≤ prefix_len is_of_number t + 17
unfolding clock_in
clock-short c t h = elim (cases_Bool (nat_le 2 c && nat_le (c + 6) (length t))) [
  | inl both ↦
      let steps : is_some (option_and_then (λ (d : ℕ). time_in (drop (c - 2) t) >>= (λ (s : ℕ). Some (864000000000 * d + s))) (days_in (take (c - 2) t))) ≡ true = rw both at h in
      let parts = and_parts (nat_le 2 c) (nat_le (c + 6) (length t)) both in
      let days = days-number (c - 2) t (omega (arith, leb-true (c + 6) (length t) parts.1)) (first-some (λ (d : ℕ). time_in (drop (c - 2) t) >>= (λ (s : ℕ). Some (864000000000 * d + s))) (days_in (take (c - 2) t)) steps) in
      second-some (length t ≤ prefix_len is_of_number t + 17) (λ (d : ℕ). time_in (drop (c - 2) t) >>= (λ (s : ℕ). Some (864000000000 * d + s))) (days_in (take (c - 2) t))
      (λ d more. omega (arith, days, time-short (drop (c - 2) t) (first-some (λ (s : ℕ). Some (864000000000 * d + s)) (time_in (drop (c - 2) t)) more), length-drop (c - 2) t)) steps
  | inr other ↦ let clash : false ≡ true = rw other at h in cc
]

of-length : (t x : List ℕ) → bytes_eq t x ≡ true → length t ≡ length x
of-length t x h = ap (λ (xs : List ℕ). length xs) ((bytes_eq-Decides t x).0 h)

unit-short : (t : List ℕ) → is_some (unit_in t) ≡ true → length t ≤ 11
unfolding unit_in
unit-short t h = elim (cases_Bool (bytes_eq t (codes "d"))) [
  | inl a ↦ omega (arith, of-length t (codes "d") a)
  | inr a ↦ elim (cases_Bool (bytes_eq t (codes "h"))) [
    | inl b ↦ omega (arith, of-length t (codes "h") b)
    | inr b ↦ elim (cases_Bool (bytes_eq t (codes "m"))) [
      | inl c ↦ omega (arith, of-length t (codes "m") c)
      | inr c ↦ elim (cases_Bool (bytes_eq t (codes "s"))) [
        | inl d ↦ omega (arith, of-length t (codes "s") d)
        | inr d ↦ elim (cases_Bool (bytes_eq t (codes "ms"))) [
          | inl e ↦ omega (arith, of-length t (codes "ms") e)
          | inr e ↦ elim (cases_Bool (bytes_eq t (codes "microsecond"))) [
            | inl f ↦ omega (arith, of-length t (codes "microsecond") f)
            | inr f ↦ elim (cases_Bool (bytes_eq t (codes "tick"))) [
              | inl g ↦ omega (arith, of-length t (codes "tick") g)
              | inr g ↦ let clash : false ≡ true = rw (a, b, c, d, e, f, g) at h in cc
            ]
          ]
        ]
      ]
    ]
  ]
]

place-is : (p : ℕ → Bool) (t : List ℕ) (i : ℕ) → position p t ≡ Some i → i ≡ position_or_len p t
place-is p t i h = elim (cases_Bool (nat_lt (position_or_len p t) (length t))) [
  | inl lt ↦ let e : Some (position_or_len p t) ≡ Some i = rw lt at h in cc
  | inr ge ↦ let e : None ≡ Some i = rw ge at h in cc
]

quantity-short : (t : List ℕ) (o : Option ℕ) → position (λ b. not (is_of_number b)) t ≡ o → is_some (quantity_in o t) ≡ true → length t ≤ prefix_len is_of_number t + 17
unfolding quantity_in
quantity-short t None at h = cc
quantity-short t (Some i) at h =
    let unit = unit-short (drop i t) (first-some (λ (unit : ℕ). amount_in unit (position (λ b. b == dot) (take i t)) (take i t)) (unit_in (drop i t)) h) in
    let place = place-is (λ b. not (is_of_number b)) t i at in
    let same = prefix-same (λ x. not (not (is_of_number x))) is_of_number t (λ x. twice-not (is_of_number x)) in
    let here : i ≡ prefix_len is_of_number t = place ∙ same in
    omega (arith, unit, here, length-drop i t)

by-place : (o : Option ℕ) (t : List ℕ) → is_some (length_from o t) ≡ true → length t ≤ prefix_len is_of_number t + 17
unfolding length_from
by-place (Some c) t h = clock-short c t h
by-place None t h = quantity-short t (position (λ b. not (is_of_number b)) t) refl h

length-short : (t : List ℕ) → is_some (length_in t) ≡ true → length t ≤ prefix_len is_of_number t + 17
unfolding length_in
length-short t h = by-place (position (λ b. b == colon) t) t h

span-short : (m : ℕ) (rest : List ℕ) → m ≤ length rest → is_some (span_in (take m rest)) ≡ true → m ≤ span_number rest + 17
unfolding span_in span_number
span-short zero rest low h = omega arith
span-short (suc m) [] low h = absurd (omega (arith, low))
span-short (suc m) (b ∷ bs) low h =
    let size = length-take-le m bs (omega (arith, low)) in
    elim (cases_Bool (b == dash)) [
      | inl minus ↦
          let steps : is_some (option_and_then (λ (n : ℕ). fit (neg_ℤ (pos n))) (length_in (take m bs))) ≡ true = rw minus at h in
          let short = length-short (take m bs) (first-some (λ (n : ℕ). fit (neg_ℤ (pos n))) (length_in (take m bs)) steps) in
          rw minus (omega (arith, short, size, prefix-take is_of_number m bs))
      | inr other ↦
          let steps : is_some (option_and_then (λ (n : ℕ). fit (pos n)) (length_in (b ∷ take m bs))) ≡ true = rw other at h in
          let short = length-short (b ∷ take m bs) (first-some (λ (n : ℕ). fit (pos n)) (length_in (b ∷ take m bs)) steps) in
          rw other (omega (arith, short, size, prefix-take is_of_number (suc m) (b ∷ bs)))
    ]

-- A timespan is longer than its number.

prefix-inside : (p : ℕ → Bool) (n : ℕ) (xs : List ℕ) → n ≤ length xs → prefix_len p (take n xs) < n → prefix_len p xs < n
prefix-inside p zero xs low h = absurd (omega (arith, h))
prefix-inside p (suc n) [] low h = absurd (omega (arith, low))
prefix-inside p (suc n) (x ∷ xs) low h = elim (cases_Bool (p x)) [
  | inl t ↦ let cut : 1 + prefix_len p (take n xs) < suc n = rw t at h in rw t (omega (arith, prefix-inside p n xs (omega (arith, low)) (omega (arith, cut))))
  | inr f ↦ rw f (omega arith)
]

prefix-less : (p q : ℕ → Bool) (xs : List ℕ) → ((x : ℕ) → p x ≡ true → q x ≡ true) → prefix_len p xs ≤ prefix_len q xs
prefix-less p q [] h = omega arith
prefix-less p q (x ∷ xs) h = elim (cases_Bool (p x)) [
  | inl t ↦ rw (t, h x t) (omega (arith, prefix-less p q xs h))
  | inr f ↦ rw f (omega arith)
]

no-colon : (x : ℕ) → is_of_number x ≡ true → not (x == colon) ≡ true
no-colon x h = elim (cases_Bool (x == colon)) [
  | inl same ↦ let clash : false ≡ true = subst (λ n. is_of_number n ≡ true) (eqb-true x colon same) h in cc
  | inr other ↦ rw other refl
]

clock-inside : (c : ℕ) (t : List ℕ) → position (λ b. b == colon) t ≡ Some c → is_some (clock_in c t) ≡ true → prefix_len is_of_number t < length t
unfolding clock_in
clock-inside c t at h = elim (cases_Bool (nat_le 2 c && nat_le (c + 6) (length t))) [
  | inl both ↦
      let parts = and_parts (nat_le 2 c) (nat_le (c + 6) (length t)) both in
      let place : c ≡ prefix_len (λ x. not (x == colon)) t = place-is (λ b. b == colon) t c at in
      omega (arith, leb-true (c + 6) (length t) parts.1, place, prefix-less is_of_number (λ x. not (x == colon)) t no-colon)
  | inr other ↦ let clash : false ≡ true = rw other at h in cc
]

unit-some : (t : List ℕ) → is_some (unit_in t) ≡ true → 1 ≤ length t
unfolding unit_in
unit-some [] h = let clash : false ≡ true = h in cc
unit-some (b ∷ bs) h = omega arith

quantity-inside : (t : List ℕ) (o : Option ℕ) → position (λ b. not (is_of_number b)) t ≡ o → is_some (quantity_in o t) ≡ true → prefix_len is_of_number t < length t
unfolding quantity_in
quantity-inside t None at h = cc
quantity-inside t (Some i) at h =
    let unit = unit-some (drop i t) (first-some (λ (unit : ℕ). amount_in unit (position (λ b. b == dot) (take i t)) (take i t)) (unit_in (drop i t)) h) in
    let place = place-is (λ b. not (is_of_number b)) t i at in
    let same = prefix-same (λ x. not (not (is_of_number x))) is_of_number t (λ x. twice-not (is_of_number x)) in
    let here : i ≡ prefix_len is_of_number t = place ∙ same in
    omega (arith, unit, here, length-drop i t)

inside-by-place : (o : Option ℕ) (t : List ℕ) → position (λ b. b == colon) t ≡ o → is_some (length_from o t) ≡ true → prefix_len is_of_number t < length t
unfolding length_from
inside-by-place (Some c) t at h = clock-inside c t at h
inside-by-place None t at h = quantity-inside t (position (λ b. not (is_of_number b)) t) refl h

length-inside : (t : List ℕ) → is_some (length_in t) ≡ true → prefix_len is_of_number t < length t
unfolding length_in
length-inside t h = inside-by-place (position (λ b. b == colon) t) t refl h

span-inside : (m : ℕ) (rest : List ℕ) → m ≤ length rest → is_some (span_in (take m rest)) ≡ true → span_number rest + 1 ≤ m
unfolding span_in span_number
span-inside zero [] low h = let clash : false ≡ true = h in cc
span-inside zero (b ∷ bs) low h = let clash : false ≡ true = h in cc
span-inside (suc m) [] low h = absurd (omega (arith, low))
span-inside (suc m) (b ∷ bs) low h =
    let size = length-take-le m bs (omega (arith, low)) in
    elim (cases_Bool (b == dash)) [
      | inl minus ↦
          let steps : is_some (option_and_then (λ (n : ℕ). fit (neg_ℤ (pos n))) (length_in (take m bs))) ≡ true = rw minus at h in
          let inside = length-inside (take m bs) (first-some (λ (n : ℕ). fit (neg_ℤ (pos n))) (length_in (take m bs)) steps) in
          rw minus (omega (arith, prefix-inside is_of_number m bs (omega (arith, low)) (omega (arith, inside, size))))
      | inr other ↦
          let steps : is_some (option_and_then (λ (n : ℕ). fit (pos n)) (length_in (b ∷ take m bs))) ≡ true = rw other at h in
          let inside : prefix_len is_of_number (take (suc m) (b ∷ bs)) < length (take (suc m) (b ∷ bs)) = length-inside (b ∷ take m bs) (first-some (λ (n : ℕ). fit (pos n)) (length_in (b ∷ take m bs)) steps) in
          rw other (omega (arith, prefix-inside is_of_number (suc m) (b ∷ bs) low (omega (arith, inside, size))))
    ]

-- A long has few digits behind its zeros.

digit-some : (d : ℕ) → (d == 48) ≡ false → 1 ≤ digit_value d
digit-some d other = elim (cases_Bool (nat_lt d 48)) [
  | inl low ↦ rw low (omega arith)
  | inr a ↦ elim (cases_Bool (nat_lt d 58)) [
    | inl digit ↦ rw (a, digit) (omega (arith, ltb-false d 48 a, eqb-false d 48 other))
    | inr b ↦ elim (cases_Bool (nat_lt d 65)) [
      | inl low ↦ rw (a, b, low) (omega arith)
      | inr c ↦ elim (cases_Bool (nat_lt d 91)) [
        | inl letter ↦ rw (a, b, c, letter) (omega (arith, ltb-false d 65 c))
        | inr e ↦ elim (cases_Bool (nat_lt d 97)) [
          | inl low ↦ rw (a, b, c, e, low) (omega arith)
          | inr f ↦ elim (cases_Bool (nat_lt d 123)) [
            | inl letter ↦ rw (a, b, c, e, f, letter) (omega (arith, ltb-false d 97 f))
            | inr high ↦ rw (a, b, c, e, f, high) (omega arith)
          ]
        ]
      ]
    ]
  ]
]

digits-grow : (k m n : ℕ) (ds : List ℕ) → m ≡ k + length ds → 10 ^ k ≤ n → 10 ^ m ≤ digits_value_after 10 n ds
digits-grow k m n [] e h = let same : k ≡ m = omega (arith, e) in subst (λ j. 10 ^ j ≤ n) same h
digits-grow k m n (d ∷ ds) e h =
    let more : 10 ^ suc k ≤ n * 10 + digit_value d = omega (arith, pow-suc 10 k, h) in
    digits-grow (suc k) m (n * 10 + digit_value d) ds (omega (arith, e)) more

few-digits : (ds : List ℕ) → 10 ^ length ds ≤ 2 ^ 63 → length ds ≤ 18
few-digits ds h = elim (cases_Bool (nat_le (length ds) 18)) [
  | inl few ↦ leb-true (length ds) 18 few
  | inr many ↦
      let high : 19 ≤ length ds = omega (arith, leb-false (length ds) 18 many) in
      let most : 10 ^ 19 ≤ 10 ^ length ds = pow-le-pow_right {n = 10} (omega arith) high in
      absurd (omega (arith, most, h))
]

zeros-first : (ds : List ℕ) → digits_value 10 ds ≤ 2 ^ 63 → length ds ≤ prefix_len is_zero ds + 19
zeros-first [] h = omega arith
zeros-first (d ∷ ds) h = elim (cases_Bool (d == 48)) [
  | inl null ↦
      let later : digits_value 10 ds ≤ 2 ^ 63 = subst (λ x. digits_value_after 10 (0 * 10 + digit_value x) ds ≤ 2 ^ 63) (eqb-true d 48 null) h in
      rw null (omega (arith, zeros-first ds later))
  | inr other ↦
      let start : 10 ^ 0 ≤ 0 * 10 + digit_value d = omega (arith, digit-some d other) in
      let grown : 10 ^ length ds ≤ digits_value_after 10 (0 * 10 + digit_value d) ds = digits-grow 0 (length ds) (0 * 10 + digit_value d) ds (omega arith) start in
      omega (arith, few-digits ds (omega (arith, grown, h)))
]

second-of : {A : Type 0} (a b : Bool) (x : A) → is_some (if a && b then Some x else None) ≡ true → b ≡ true
second-of true true x h = refl
second-of true false x h = h
second-of false b x h = cc

long-limited : (m : ℕ) (rest : List ℕ) → m ≤ length rest → is_some (long_written (take m rest)) ≡ true → m ≤ long_limit rest
unfolding long_written long_limit
long-limited zero rest low h = omega arith
long-limited (suc m) [] low h = absurd (omega (arith, low))
long-limited (suc m) (b ∷ bs) low h = elim (cases_Bool (b == 45)) [
  | inl minus ↦
      let some = rw minus at h in
      let size = length-take-le m bs (omega (arith, low)) in
      let value = second-of (is_whole (take m bs)) (nat_le (digits_value 10 (take m bs)) (2 ^ 63)) (neg_ℤ (pos (digits_value 10 (take m bs)))) some in
      rw minus (omega (arith, zeros-first (take m bs) (leb-true (digits_value 10 (take m bs)) (2 ^ 63) value), size, prefix-take is_zero m bs))
  | inr other ↦
      let some = rw other at h in
      let size = length-take-le m bs (omega (arith, low)) in
      let value = second-of (is_whole (b ∷ take m bs)) (nat_lt (digits_value 10 (b ∷ take m bs)) (2 ^ 63)) (pos (digits_value 10 (b ∷ take m bs))) some in
      let small : digits_value 10 (b ∷ take m bs) ≤ 2 ^ 63 = omega (arith, ltb-true (digits_value 10 (b ∷ take m bs)) (2 ^ 63) value) in
      let few : suc (length (take m bs)) ≤ prefix_len is_zero (b ∷ take m bs) + 19 = zeros-first (b ∷ take m bs) small in
      let more : prefix_len is_zero (b ∷ take m bs) ≤ prefix_len is_zero (b ∷ bs) = prefix-take is_zero (suc m) (b ∷ bs) in
      rw other (omega (arith, few, size, more))
]

-- Pieces.

bool-piece : (t : List ℕ) → is_some (piece_read kind.Bool t) ≡ true → is_some (bool_written t) ≡ true
unfolding piece_read filled_piece_read
bool-piece [] h = cc
bool-piece (b ∷ bs) h = map-some value.Bool (bool_written (b ∷ bs)) h

long-piece : (t : List ℕ) → is_some (piece_read kind.Long t) ≡ true → is_some (long_written t) ≡ true
unfolding piece_read filled_piece_read
long-piece [] h = cc
long-piece (b ∷ bs) h = map-some value.Long (long_written (b ∷ bs)) h

moment-piece : (t : List ℕ) → is_some (piece_read kind.Moment t) ≡ true → is_some (moment_written t) ≡ true
unfolding piece_read filled_piece_read
moment-piece [] h = cc
moment-piece (b ∷ bs) h = map-some value.Moment (moment_written (b ∷ bs)) h

span-piece : (t : List ℕ) → is_some (piece_read kind.Span t) ≡ true → is_some (span_in t) ≡ true
unfolding piece_read filled_piece_read
span-piece [] h = cc
span-piece (b ∷ bs) h = map-some value.Span (span_in (b ∷ bs)) h

pub bool-limit : (k : Kind) (rest : List ℕ) → k ≡ kind.Bool → LimitsPieces k rest 5
unfolding LimitsPieces
bool-limit k rest is =
    subst (λ x. (m : ℕ) → m ≤ length rest → is_some (piece_read x (take m rest)) ≡ true → m ≤ 5) (sym is)
    (λ m low h. omega (arith, bool-short (take m rest) (bool-piece (take m rest) h), length-take-le m rest low))

pub long-limit : (rest : List ℕ) (m limit n : ℕ) → m ≡ long_limit rest → limit ≡ min m (length rest) → n ≡ number_length (take limit rest) → LimitsPieces kind.Long rest n
unfolding LimitsPieces
long-limit rest m limit n most cut is = λ i low h.
    let some = long-piece (take i rest) h in
    let within : i ≤ limit = omega (arith, long-limited i rest low some, most, cut, low) in
    let size : length (take limit rest) ≡ limit = length-take-le limit rest (omega (arith, cut)) in
    let same : take i (take limit rest) ≡ take i rest = take-take i limit rest within in
    omega (arith, long-short i (take limit rest) (omega (arith, within, size)) (ap (λ (xs : List ℕ). is_some (long_written xs)) same ∙ some), is)

pub of-long : (k : Kind) (rest : List ℕ) (n : ℕ) → k ≡ kind.Long → LimitsPieces kind.Long rest n → LimitsPieces k rest n
of-long k rest n is h = subst (λ x. LimitsPieces x rest n) (sym is) h

pub moment-limit : (k : Kind) (rest : List ℕ) → k ≡ kind.Moment → LimitsPieces k rest 35
unfolding LimitsPieces
moment-limit k rest is =
    subst (λ x. (m : ℕ) → m ≤ length rest → is_some (piece_read x (take m rest)) ≡ true → m ≤ 35) (sym is)
    (λ m low h. omega (arith, moment-short (take m rest) (moment-piece (take m rest) h), length-take-le m rest low))

pub span-limit : (k : Kind) (rest : List ℕ) (n : ℕ) → k ≡ kind.Span → n ≡ span_number rest → LimitsPieces k rest (n + 17)
unfolding LimitsPieces
span-limit k rest n is size =
    subst (λ x. (m : ℕ) → m ≤ length rest → is_some (piece_read x (take m rest)) ≡ true → m ≤ n + 17) (sym is)
    (λ m low h. omega (arith, span-short m rest low (span-piece (take m rest) h), size))

pub span-least : (k : Kind) (rest : List ℕ) (n : ℕ) → k ≡ kind.Span → n ≡ span_number rest → NoPieceBelow k rest (n + 1)
unfolding NoPieceBelow
span-least k rest n is size =
    subst (λ x. (m : ℕ) → m ≤ length rest → is_some (piece_read x (take m rest)) ≡ true → n + 1 ≤ m) (sym is)
    (λ m low h. omega (arith, span-inside m rest low (span-piece (take m rest) h), size))

pub no-least : (k : Kind) (rest : List ℕ) → NoPieceBelow k rest 0
unfolding NoPieceBelow
no-least k rest = λ m low h. omega arith

pub any-limit : (k : Kind) (rest : List ℕ) → LimitsPieces k rest (length rest)
unfolding LimitsPieces
any-limit k rest = λ m low h. low

prefix-below : (p : ℕ → Bool) (xs : List ℕ) → prefix_len p xs ≤ length xs
prefix-below p [] = omega arith
prefix-below p (x ∷ xs) = elim (cases_Bool (p x)) [
  | inl t ↦ rw t (omega (arith, prefix-below p xs))
  | inr f ↦ rw f (omega arith)
]

pub numbers-below : (t : List ℕ) (n : ℕ) → n ≡ prefix_len is_of_number t → n ≤ length t
numbers-below t n is = omega (arith, is, prefix-below is_of_number t)

pub zeros-below : (t : List ℕ) (n : ℕ) → n ≡ prefix_len is_zero t → n ≤ length t
zeros-below t n is = omega (arith, is, prefix-below is_zero t)

pub span-number-below : (t : List ℕ) (n : ℕ) → n ≡ span_number t → n ≤ length t
unfolding span_number
span-number-below [] n is = omega (arith, is)
span-number-below (b ∷ bs) n is = elim (cases_Bool (b == 45)) [
  | inl minus ↦ let here : n ≡ prefix_len is_of_number bs + 1 = rw minus at is in omega (arith, here, prefix-below is_of_number bs)
  | inr other ↦ let here : n ≡ prefix_len is_of_number (b ∷ bs) = rw other at is in omega (arith, here, prefix-below is_of_number (b ∷ bs))
]

pub ruleset span_steps = (numbers-below, zeros-below)

pub ruleset long_steps = (long-limit)

pub ruleset limit_steps = (bool-limit, of-long, moment-limit, span-limit, any-limit, span-least, no-least, span-number-below)

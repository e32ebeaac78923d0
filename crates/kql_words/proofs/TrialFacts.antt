-- What `parse` reads as a count.
use Rattle.std.proofs.Common.{◌≡◌, ◌≢◌, ◌<◌, ◌^◌, ◌==◌, ◌&&◌, ℕ, Bool, true, false, List, [], ◌∷◌, length, get_or, refl, inl, inr, arith}
use Rattle.std.specs.Prelude.{nat_lt, Some, None, Result, Ok, Err, OkIff, if◌then◌else◌}
use Rattle.std.specs.Result.{result_ok}
use Rattle.std.specs.Str.{all_ascii_digits}
use Rattle.std.specs.Str.Parse.{ParsesUnsigned, digits_value}
use Rattle.std.proofs.lemmas.Bool.{cases_Bool, eqb-true}
use Rattle.std.proofs.lemmas.Bool.Decides.{nat_tests}
use Rattle.std.proofs.lemmas.Str.Parse.{IsNumeralModel, numerals_by_value, tells_all_ascii_digits, parse_plain}
use Rattle.kql_cells.specs.Readings.{is_whole}
use Rattle.kql_words.specs.Sizes.{count_in}

own : IsNumeralModel (λ ds. all_ascii_digits ds ≡ true) (digits_value 10)
own = numerals_by_value _ tells_all_ascii_digits

by_test : {E : Type 0} (r : Result ℕ E) (P : Type 0) (v : ℕ) (b : Bool) → OkIff r P v → (b ≡ true → P) → (P → b ≡ true) → result_ok r ≡ (if b then Some v else None)
by_test (Ok x) P v b h f g = rw (g h.0, h.1) refl
by_test (Err e) P v b h f g = elim (cases_Bool b) [ inl t ↦ absurd (h (f t)) | inr n ↦ rw n refl ]

to-whole : (ds : List ℕ) → all_ascii_digits ds ≡ true → 0 < length ds → is_whole ds ≡ true
to-whole [] a b = absurd (omega arith)
to-whole (d ∷ ds) a b = a

from-whole : (ds : List ℕ) → is_whole ds ≡ true → (all_ascii_digits ds ≡ true) × (0 < length ds)
from-whole [] e = cc
from-whole (d ∷ ds) e = (e, omega arith)

below : (n m : ℕ) → nat_lt n m ≡ true → n < m
below n m e = grind (arith, nat_tests)

above : (n m : ℕ) → n < m → nat_lt n m ≡ true
above n m e = grind (arith, nat_tests)

both : (a b : Bool) → (a && b) ≡ true → (a ≡ true) × (b ≡ true)
both true b e = (refl, e)
both false b e = cc

join : (a b : Bool) → a ≡ true → b ≡ true → (a && b) ≡ true
join a b p q = rw (p, q) refl

pub count-parse : {E : Type 0} (bs : List ℕ) (r : Result ℕ E) → ParsesUnsigned 64 10 bs r → get_or bs 0 0 ≢ 43 → result_ok r ≡ count_in bs
unfolding count_in
count-parse bs r p plus =
    by_test r _ _ (is_whole bs && nat_lt (digits_value 10 bs) (2 ^ 64)) (parse_plain own 64 bs r p plus)
    (λ e. let q = both _ _ e in let w = from-whole bs q.0 in (w.0, w.1, below _ _ q.1))
    (λ h. join _ _ (to-whole bs h.0 h.1) (above _ _ h.2))

-- a plus stands in no count
pub count-plus : (bs : List ℕ) → (get_or bs 0 0 == 43) ≡ true → count_in bs ≡ None
unfolding count_in
count-plus [] e = cc
count-plus (b ∷ bs) e = let same : b ≡ 43 = eqb-true b 43 e in rw same refl

pub ruleset count_facts = (count-parse, count-plus)

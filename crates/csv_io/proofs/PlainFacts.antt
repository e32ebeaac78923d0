-- Numbers, datetimes and timespans call for no quotes.
use Rattle.std.proofs.Common.{◌≡◌, ◌<◌, ◌^◌, ◌++◌, ℕ, suc, true, false, List, [], ◌∷◌, length, get_or, refl, arith, inl, inr, w64}
use Rattle.std.specs.Char.{is_ascii_digit}
use Rattle.std.specs.Fmt.{signed_decimal}
use Rattle.std.specs.Int.RustNames.{FitsSigned}
use Rattle.std.specs.List.{AllPass}
use Rattle.std.specs.Prelude.{ℤ, pos, negsuc, decimal, IsAscii, IsUtf8, Result, Ok, Err, OnOk, is_ok, if◌then◌else◌}
use Rattle.std.specs.Str.{all_ascii_digits}
use Rattle.std.proofs.lemmas.Bool.{cases_Bool, cases_lt}
use Rattle.std.proofs.lemmas.Bool.Decides.{nat_tests}
use Rattle.std.proofs.lemmas.Fmt.{digits_decimal}
use Rattle.std.proofs.lemmas.List.{get_or_past}
use Rattle.std.proofs.lemmas.List.Folds.{list_any_none}
use Rattle.std.proofs.lemmas.Str.{IsUtf8-from_ascii}
use Rattle.csv.specs.Writing.{default_writer, field_text, needs_byte, needs_quotes}
use Rattle.kql_cells.proofs.NumberLaws.{own}
use Rattle.kql_ticks.specs.Texts.{is_of_time}

pub field-plain : (t : List ℕ) → needs_quotes default_writer t ≡ false → field_text default_writer t ≡ t
field-plain t e = rw e refl

-- what a call that adds or keeps leaves where it adds
pub extended : {T E : Type 0} (old new more : List ℕ) (r : Result T E) → new ≡ (if is_ok r then old ++ more else old) → OnOk r (new ≡ old ++ more)
extended old new more (Ok x) e = e
extended old new more (Err f) e = tt

-- whole numbers
digit-plain : (b : ℕ) → is_ascii_digit b ≡ true → needs_byte default_writer b ≡ false
digit-plain b e = grind (arith, nat_tests)

digits-plain : (ds : List ℕ) → all_ascii_digits ds ≡ true → needs_quotes default_writer ds ≡ false
digits-plain [] e = refl
digits-plain (b ∷ bs) e = elim (cases_Bool (is_ascii_digit b)) [
  | inl t ↦ let rest = rw t at e in rw (digit-plain b t) (digits-plain bs rest)
  | inr f ↦ let none = rw f at e in cc none
]

decimal-plain : (n : ℕ) → n < 2 ^ 64 → needs_quotes default_writer (decimal n) ≡ false
decimal-plain n h = digits-plain (decimal n) (digits_decimal own n h)

pub long-plain : (z : ℤ) → FitsSigned w64 z → needs_quotes default_writer (signed_decimal z) ≡ false
long-plain (pos n) f = let size : n < 2 ^ 63 = f.sfits in decimal-plain n (omega arith)
long-plain (negsuc n) f = let size : n < 2 ^ 63 = f.sfits in decimal-plain (suc n) (omega arith)

-- datetimes and timespans
time-byte : (b : ℕ) → is_of_time b ≡ true → needs_byte default_writer b ≡ false
time-byte b e = grind (arith, nat_tests)

pub time-plain : (t : List ℕ) → AllPass is_of_time t → needs_quotes default_writer t ≡ false
time-plain t all = list_any_none (needs_byte default_writer) t (λ k d lt. time-byte (get_or t k d) (all k d lt))

time-small : (b : ℕ) → is_of_time b ≡ true → b < 128
time-small b e = grind (arith, nat_tests)

time-ascii : (t : List ℕ) → AllPass is_of_time t → IsAscii t
time-ascii t all i = elim (cases_lt i (length t)) [
  | inl lt ↦ time-small (get_or t i 0) (all i 0 lt)
  | inr ge ↦ let past = get_or_past t i 0 ge in omega arith
]

pub time-utf8 : (t : List ℕ) → AllPass is_of_time t → IsUtf8 t
time-utf8 t all = IsUtf8-from_ascii t (time-ascii t all)

-- The text of each value reads as the value.
use Rattle.std.proofs.Common.{◌≡◌, ◌≢◌, ◌≤◌, ◌<◌, ◌^◌, ◌==◌, ◌∙◌, ℕ, zero, suc, true, false, List, [], ◌∷◌, length, get_or, refl, ap, arith, w64}
use Rattle.std.specs.Prelude.{ℤ, pos, negsuc, unsigned_abs, nat_le, nat_lt, Result, Ok, Err, OnOk, Some, None, IsUtf8, option_map, decimal}
use Rattle.std.specs.Fmt.{signed_decimal}
use Rattle.std.specs.Int.RustNames.{FitsSigned}
use Rattle.std.specs.List.{AllPass}
use Rattle.std.proofs.lemmas.Bool.{ne_eqb}
use Rattle.std.proofs.lemmas.Bool.Decides.{nat_tests}
use Rattle.std.proofs.lemmas.Fmt.{decimal_nonempty, digits_decimal, digits_value-decimal}
use Rattle.std.proofs.lemmas.Str.{IsUtf8-nil}
use Rattle.std.proofs.lemmas.Str.Parse.{not_in_digits}
use Rattle.csv_io.specs.Blanks.{bare, behind_blanks, is_blank, trimmed}
use Rattle.csv_io.specs.Cells.{read_bare, read_cell, read_filled}
use Rattle.csv_io.specs.Reload.{ReadsBack}
use Rattle.csv_io.specs.Text.{cell_text}
use Rattle.csv_io.proofs.BlankFacts.{bare-same, trimmed-same}
use Rattle.kql_dynamic.specs.Json.{parsed}
use Rattle.kql_dynamic.specs.Parts.{value_of}
use Rattle.kql_dynamic.specs.Printed.{printed}
use Rattle.kql_ticks.specs.Forms.{date_in, moment_in, span_in}
use Rattle.kql_ticks.specs.Texts.{is_of_time, moment_text, span_text}
use Rattle.kql_cells.proofs.NumberLaws.{own, to-whole}
use Rattle.kql_cells.specs.Dynamic.{is_null}
use Rattle.kql_cells.specs.Keys.{absent}
use Rattle.kql_cells.specs.Readings.{bool_written, is_whole, long_written}
use Rattle.kql_cells.specs.Values.{IsOfKind}
use Rattle.kql_cells.specs.declared.dynamic.Dyn.{Dyn}
use Rattle.kql_cells.specs.declared.value.Kind.{Kind}
use Rattle.kql_cells.specs.declared.value.Kind.TheVariants as kind
use Rattle.kql_cells.specs.declared.value.Value.{Value}
use Rattle.kql_cells.specs.declared.value.Value.TheVariants as value

-- what holds anyway
pub always : {T E : Type 0} (r : Result T E) (P : Type 0) → P → OnOk r P
always (Ok x) P p = p
always (Err e) P p = tt

-- what follows from what holds of an Ok
pub along : {T E : Type 0} (r : Result T E) (P Q : Type 0) → (P → Q) → OnOk r P → OnOk r Q
along (Ok x) P Q f p = f p
along (Err e) P Q f p = tt

-- a field that is not empty, without blanks round it
filled-bare : (k : Kind) (t : List ℕ) (v : Value) → t ≢ [] → read_filled k t ≡ Some v → read_bare k t ≡ Some v
filled-bare k [] v n e = absurd (n refl)
filled-bare k (b ∷ bs) v n e = e

filled : (k : Kind) (t : List ℕ) (v : Value) → t ≢ [] → trimmed t ≡ t → read_filled k t ≡ Some v → read_cell k t ≡ Some v
filled k t v n whole e = rw (bare-same k t whole) (filled-bare k t v n e)

-- null
null-kinds : (k : Kind) → IsOfKind k value.Null → read_cell k [] ≡ Some value.Null
unfolding absent bare trimmed behind_blanks
null-kinds kind.Bool h = refl
null-kinds kind.Long h = refl
null-kinds kind.Text h = absurd h
null-kinds kind.Moment h = refl
null-kinds kind.Span h = refl
null-kinds kind.Dynamic h = refl

pub null-back : ReadsBack value.Null
null-back = (IsUtf8-nil, null-kinds)

-- a bool
true-kinds : (k : Kind) → IsOfKind k (value.Bool true) → read_cell k (cell_text (value.Bool true)) ≡ Some (value.Bool true)
unfolding bool_written bare trimmed behind_blanks
true-kinds kind.Bool h = refl
true-kinds kind.Long h = absurd h
true-kinds kind.Text h = absurd h
true-kinds kind.Moment h = absurd h
true-kinds kind.Span h = absurd h
true-kinds kind.Dynamic h = absurd h

false-kinds : (k : Kind) → IsOfKind k (value.Bool false) → read_cell k (cell_text (value.Bool false)) ≡ Some (value.Bool false)
unfolding bool_written bare trimmed behind_blanks
false-kinds kind.Bool h = refl
false-kinds kind.Long h = absurd h
false-kinds kind.Text h = absurd h
false-kinds kind.Moment h = absurd h
false-kinds kind.Span h = absurd h
false-kinds kind.Dynamic h = absurd h

pub true-back : (t : List ℕ) → IsUtf8 t → t ≡ cell_text (value.Bool true) → ReadsBack (value.Bool true)
true-back t u e = (rw e at u, true-kinds)

pub false-back : (t : List ℕ) → IsUtf8 t → t ≡ cell_text (value.Bool false) → ReadsBack (value.Bool false)
false-back t u e = (rw e at u, false-kinds)

-- a long
first-digit : (n : ℕ) → n < 2 ^ 64 → (get_or (decimal n) 0 0 == 45) ≡ false
first-digit n h = ne_eqb _ _ (not_in_digits own (decimal n) 45 (digits_decimal own n h) (λ r. omega (arith, r.0)) 0 (decimal_nonempty n h))

whole-decimal : (n : ℕ) → n < 2 ^ 64 → is_whole (decimal n) ≡ true
whole-decimal n h = to-whole (decimal n) (digits_decimal own n h) (decimal_nonempty n h)

below : (n m : ℕ) → n < m → nat_lt n m ≡ true
below n m e = grind (arith, nat_tests)

upto : (n m : ℕ) → n ≤ m → nat_le n m ≡ true
upto n m e = grind (arith, nat_tests)

long-text : (z : ℤ) → FitsSigned w64 z → long_written (signed_decimal z) ≡ Some z
unfolding long_written
long-text (pos n) f =
    let size : n < 2 ^ 63 = f.sfits in
    let wide : n < 2 ^ 64 = omega arith in
    rw (first-digit n wide, whole-decimal n wide, digits_value-decimal own n wide, below n (2 ^ 63) size) refl
long-text (negsuc n) f =
    let size : n < 2 ^ 63 = f.sfits in
    let wide : suc n < 2 ^ 64 = omega arith in
    let top : suc n ≤ 2 ^ 63 = omega arith in
    rw (whole-decimal (suc n) wide, digits_value-decimal own (suc n) wide, upto (suc n) (2 ^ 63) top) refl

long-filled : (z : ℤ) → FitsSigned w64 z → signed_decimal z ≢ []
long-filled (pos n) f e =
    let size : n < 2 ^ 63 = f.sfits in
    omega (arith, decimal_nonempty n (omega arith), ap length e)
long-filled (negsuc n) f e = cc e

digit-solid : (n : ℕ) → n < 2 ^ 64 → (k : ℕ) → k < length (decimal n) → is_blank (get_or (decimal n) k 0) ≡ false
digit-solid n h k lt =
    let digits = digits_decimal own n h in
    let space : (get_or (decimal n) k 0 == 32) ≡ false = ne_eqb _ _ (not_in_digits own (decimal n) 32 digits (λ r. omega (arith, r.0)) k lt) in
    let tab : (get_or (decimal n) k 0 == 9) ≡ false = ne_eqb _ _ (not_in_digits own (decimal n) 9 digits (λ r. omega (arith, r.0)) k lt) in
    rw (space, tab) refl

long-solid : (z : ℤ) → FitsSigned w64 z → (k : ℕ) → k < length (signed_decimal z) → is_blank (get_or (signed_decimal z) k 0) ≡ false
long-solid (pos n) f k lt =
    let size : n < 2 ^ 63 = f.sfits in
    digit-solid n (omega arith) k lt
long-solid (negsuc n) f zero lt = refl
long-solid (negsuc n) f (suc k) lt =
    let size : n < 2 ^ 63 = f.sfits in
    digit-solid (suc n) (omega arith) k (omega arith)

long-whole : (z : ℤ) → FitsSigned w64 z → trimmed (signed_decimal z) ≡ signed_decimal z
long-whole z f = trimmed-same (signed_decimal z) (long-solid z f)

long-kinds : (z : ℤ) → FitsSigned w64 z → (k : Kind) → IsOfKind k (value.Long z) → read_cell k (cell_text (value.Long z)) ≡ Some (value.Long z)
long-kinds z f kind.Bool h = absurd h
long-kinds z f kind.Long h = filled kind.Long (signed_decimal z) (value.Long z) (long-filled z f) (long-whole z f) (rw (long-text z f) refl)
long-kinds z f kind.Text h = absurd h
long-kinds z f kind.Moment h = absurd h
long-kinds z f kind.Span h = absurd h
long-kinds z f kind.Dynamic h = absurd h

pub long-back : (z : ℤ) (t : List ℕ) → FitsSigned w64 z → IsUtf8 t → t ≡ signed_decimal z → ReadsBack (value.Long z)
long-back z t f u e = (rw e at u, long-kinds z f)

-- a text
text-cell : (t : List ℕ) → read_cell kind.Text t ≡ Some (value.Text t)
unfolding absent bare
text-cell [] = refl
text-cell (b ∷ bs) = refl

text-kinds : (t : List ℕ) (k : Kind) → IsOfKind k (value.Text t) → read_cell k t ≡ Some (value.Text t)
text-kinds t kind.Bool h = absurd h
text-kinds t kind.Long h = absurd h
text-kinds t kind.Text h = text-cell t
text-kinds t kind.Moment h = absurd h
text-kinds t kind.Span h = absurd h
text-kinds t kind.Dynamic h = absurd h

pub text-back : (t : List ℕ) → IsUtf8 t → ReadsBack (value.Text t)
text-back t u = (u, text-kinds t)

-- a datetime or a timespan has no blanks
time-solid : (b : ℕ) → is_of_time b ≡ true → is_blank b ≡ false
time-solid b e = grind (arith, nat_tests)

time-whole : (t : List ℕ) → AllPass is_of_time t → trimmed t ≡ t
time-whole t all = trimmed-same t (λ k lt. time-solid (get_or t k 0) (all k 0 lt))

-- a datetime
moment-none : moment_in [] ≡ None
unfolding moment_in date_in
moment-none = refl

moment-filled : (x : ℤ) (t : List ℕ) → option_map pos (moment_in t) ≡ Some x → t ≢ []
moment-filled x t back e = let none = rw (e, moment-none) at back in cc none

moment-kinds : (x : ℤ) (t : List ℕ) → AllPass is_of_time t → option_map pos (moment_in t) ≡ Some x → (k : Kind) → IsOfKind k (value.Moment x) → read_cell k t ≡ Some (value.Moment x)
moment-kinds x t bytes back kind.Bool h = absurd h
moment-kinds x t bytes back kind.Long h = absurd h
moment-kinds x t bytes back kind.Text h = absurd h
moment-kinds x t bytes back kind.Moment h = filled kind.Moment t (value.Moment x) (moment-filled x t back) (time-whole t bytes) (rw back refl)
moment-kinds x t bytes back kind.Span h = absurd h
moment-kinds x t bytes back kind.Dynamic h = absurd h

pub moment-back : (x : ℤ) (t : List ℕ) → IsUtf8 t → AllPass is_of_time t → t ≡ moment_text (unsigned_abs x) → option_map pos (moment_in t) ≡ Some x → ReadsBack (value.Moment x)
moment-back x t u bytes e back = rw (← e) (u, moment-kinds x t bytes back)

-- a timespan
span-none : span_in [] ≡ None
unfolding span_in
span-none = refl

span-filled : (x : ℤ) (t : List ℕ) → span_in t ≡ Some x → t ≢ []
span-filled x t back e = let none = rw (e, span-none) at back in cc none

span-kinds : (x : ℤ) (t : List ℕ) → AllPass is_of_time t → span_in t ≡ Some x → (k : Kind) → IsOfKind k (value.Span x) → read_cell k t ≡ Some (value.Span x)
span-kinds x t bytes back kind.Bool h = absurd h
span-kinds x t bytes back kind.Long h = absurd h
span-kinds x t bytes back kind.Text h = absurd h
span-kinds x t bytes back kind.Moment h = absurd h
span-kinds x t bytes back kind.Span h = filled kind.Span t (value.Span x) (span-filled x t back) (time-whole t bytes) (rw back refl)
span-kinds x t bytes back kind.Dynamic h = absurd h

pub span-back : (x : ℤ) (t : List ℕ) → IsUtf8 t → AllPass is_of_time t → t ≡ span_text x → span_in t ≡ Some x → ReadsBack (value.Span x)
span-back x t u bytes e back = rw (← e) (u, span-kinds x t bytes back)

-- a dynamic value
dynamic-kinds : (d : Dyn) (t : List ℕ) → parsed t ≡ value_of d → t ≢ [] → is_null d ≡ false → (k : Kind) → IsOfKind k (value.Dynamic d) → read_cell k t ≡ Some (value.Dynamic d)
unfolding bare
dynamic-kinds d t back some n kind.Bool h = absurd h
dynamic-kinds d t back some n kind.Long h = absurd h
dynamic-kinds d t back some n kind.Text h = absurd h
dynamic-kinds d t back some n kind.Moment h = absurd h
dynamic-kinds d t back some n kind.Span h = absurd h
dynamic-kinds d t back some n kind.Dynamic h = filled-bare kind.Dynamic t (value.Dynamic d) some (ap Some (back ∙ rw n refl))

pub dynamic-back : (d : Dyn) (t : List ℕ) → IsUtf8 t → t ≡ printed d → parsed t ≡ value_of d → t ≢ [] → is_null d ≡ false → ReadsBack (value.Dynamic d)
dynamic-back d t u e back some n = rw (← e) (u, dynamic-kinds d t back some n)

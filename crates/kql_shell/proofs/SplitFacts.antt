-- Where the last byte of a value stands in a text.
use Rattle.std.proofs.Common.{◌≡◌, ◌≤◌, ◌<◌, ◌+◌, ◌-◌, ◌==◌, ℕ, true, false, List, length, drop, get_or, refl, ap, arith}
use Rattle.std.specs.Prelude.{not, slice_range}
use Rattle.std.specs.List.{after_last, before_last, list_any, suffix_len}
use Rattle.std.proofs.lemmas.Bool.{eqb-true}
use Rattle.std.proofs.lemmas.List.Folds.{list_any_none}
use Rattle.std.proofs.lemmas.List.Sums.{suffix_len_is}
use Rattle.std.proofs.lemmas.Grind.{get_or_default_zero}
use Rattle.kql_shell.specs.Names.{is_byte}

-- the text before and behind a byte behind which there is none
pub at-last : (byte : ℕ) (bs front back : List ℕ) (end : ℕ) → end < length bs → (get_or bs end 0 == byte) ≡ true → ((k : ℕ) → end + 1 ≤ k → k < length bs → (get_or bs k 0 == byte) ≡ false)
    → front ≡ slice_range bs 0 end → back ≡ drop (end + 1) bs → (front ≡ before_last (is_byte byte) bs) × (back ≡ after_last (is_byte byte) bs)
at-last byte bs front back end lt here behind ef eb =
    let size : suffix_len (λ b. not (is_byte byte b)) bs ≡ length bs - (end + 1) =
    suffix_len_is (λ b. not (is_byte byte b)) bs (end + 1) 0 (omega arith) (λ k a b. ap not (behind k a b))
    (λ z. let at : end + 1 - 1 ≡ end = omega arith in rw at (ap not here)) in
    let first : length bs - (length bs - (end + 1)) - 1 ≡ end = omega arith in
    let rest : length bs - (length bs - (end + 1)) ≡ end + 1 = omega arith in
    let none : end - 0 ≡ end = omega arith in
    (rw (size, first, ef, none) refl, rw (size, rest, eb) refl)

pub none-at-all : (byte : ℕ) (bs : List ℕ) (end : ℕ) → end ≤ 0 → ((k : ℕ) → end ≤ k → k < length bs → (get_or bs k 0 == byte) ≡ false) → list_any (is_byte byte) bs ≡ false
none-at-all byte bs end first behind =
    list_any_none (is_byte byte) bs (λ k d lt. let low : end ≤ k = omega arith in rw (get_or_default_zero bs k d lt) (behind k low lt))

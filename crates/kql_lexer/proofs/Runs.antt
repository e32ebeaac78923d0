-- Runs of bytes that pass a test, and pieces by the class of their first byte.
use Rattle.std.proofs.Common.{◌≡◌, ◌≤◌, ◌<◌, ◌+◌, ◌-◌, ℕ, suc, zero, Bool, true, false, ◌&&◌, ◌||◌, List, [], ◌∷◌, length, get_or, take, drop, cond, eqb, refl, ap, ◌∙◌, subst, arith}
use Rattle.std.specs.List.{prefix_len, list_all}
use Rattle.std.proofs.lemmas.List.{length-take-le, drop-take, take-take}
use Rattle.std.proofs.lemmas.Bool.Decides.{nat_tests}
use Rattle.kql_lexer.specs.Bytes.{class_of, is_blank, is_digit, is_quote, is_word_start, is_word_char}
use Rattle.kql_lexer.specs.Pieces.{piece_in, piece_of}
use Rattle.kql_lexer.specs.Strings.{between}
use Rattle.kql_lexer.specs.declared.classes.Class.{Class}
use Rattle.kql_lexer.specs.declared.classes.Class.TheVariants as class

pub one_more : (n : ℕ) → 1 + n ≡ suc n
one_more n = omega arith

-- a run of bytes that pass, and what is longer
pub in_run : (p : ℕ → Bool) (xs : List ℕ) → list_all p (take (prefix_len p xs) xs) ≡ true
in_run p [] = refl
in_run p (x ∷ xs) =
    elim (p x) as (λ v. p x ≡ v → list_all p (take (cond v (1 + prefix_len p xs) 0) (x ∷ xs)) ≡ true) [
      | true ↦ λ h. rw one_more (rw h (in_run p xs))
      | false ↦ λ h. refl
    ] refl

pub past_run : (p : ℕ → Bool) (xs : List ℕ) (m : ℕ) → prefix_len p xs < m → m ≤ length xs → list_all p (take m xs) ≡ false
past_run p [] m h k = absurd (omega arith)
past_run p (x ∷ xs) zero h k = absurd (omega arith)
past_run p (x ∷ xs) (suc m) h k =
    elim (p x) as (λ v. cond v (1 + prefix_len p xs) 0 < suc m → (v && list_all p (take m xs)) ≡ false) [
      | true ↦ λ h'. past_run p xs m (omega arith) (omega arith)
      | false ↦ λ h'. refl
    ] h

pub run_some : (p : ℕ → Bool) (xs : List ℕ) → 0 < length xs → p (get_or xs 0 0) ≡ true → 0 < prefix_len p xs
run_some p [] k h = absurd (omega arith)
run_some p (x ∷ xs) k h = rw h (omega arith)

-- a run that ends within a front is as long there
pub run_take : (p : ℕ → Bool) (xs : List ℕ) (m : ℕ) → prefix_len p xs < m → prefix_len p (take m xs) ≡ prefix_len p xs
run_take p [] m h = ap (prefix_len p) (nil m) where
  nil : (m : ℕ) → let E : List ℕ = [] in take m E ≡ []
  nil zero = refl
  nil (suc m) = refl
run_take p (x ∷ xs) zero h = absurd (omega arith)
run_take p (x ∷ xs) (suc m) h =
    elim (p x) as (λ v. cond v (1 + prefix_len p xs) 0 < suc m → cond v (1 + prefix_len p (take m xs)) 0 ≡ cond v (1 + prefix_len p xs) 0) [
      | true ↦ λ h'. ap (λ n. 1 + n) (run_take p xs m (omega arith))
      | false ↦ λ h'. refl
    ] h

-- what one byte fails all that hold it fail
pub fails_past : (p : ℕ → Bool) (xs : List ℕ) (n m : ℕ) → list_all p (take n xs) ≡ false → n ≤ m → list_all p (take m xs) ≡ false
fails_past p [] zero m h k = absurd cc
fails_past p [] (suc n) m h k = absurd cc
fails_past p (x ∷ xs) zero m h k = absurd cc
fails_past p (x ∷ xs) (suc n) zero h k = absurd (omega arith)
fails_past p (x ∷ xs) (suc n) (suc m) h k =
    elim (p x) as (λ v. (v && list_all p (take n xs)) ≡ false → (v && list_all p (take m xs)) ≡ false) [
      | true ↦ λ h'. fails_past p xs n m h' (omega arith)
      | false ↦ λ h'. refl
    ] h

-- what a byte of a class is
abbrev pub Means : Class → ℕ → Type 0
Means class.Blank b = is_blank b ≡ true
Means class.Letter b = is_word_start b ≡ true
Means class.Digit b = is_digit b ≡ true
Means class.Quote b = is_quote b ≡ true
Means class.At b = b ≡ 64
Means class.Dollar b = b ≡ 36
Means class.Bang b = b ≡ 33
Means class.Slash b = b ≡ 47
Means class.Other b = Unit {0}

is_byte : (b n : ℕ) → eqb b n ≡ true → b ≡ n
is_byte b n h = grind (arith, nat_tests)

choose : (b : ℕ) (v1 v2 v3 v4 v5 v6 v7 v8 : Bool)
    → is_blank b ≡ v1 → is_word_start b ≡ v2 → is_digit b ≡ v3 → is_quote b ≡ v4 → eqb b 64 ≡ v5 → eqb b 36 ≡ v6 → eqb b 33 ≡ v7 → eqb b 47 ≡ v8
    → Means (cond v1 class.Blank (cond v2 class.Letter (cond v3 class.Digit (cond v4 class.Quote
    (cond v5 class.At (cond v6 class.Dollar (cond v7 class.Bang (cond v8 class.Slash class.Other)))))))) b
choose b true v2 v3 v4 v5 v6 v7 v8 e1 e2 e3 e4 e5 e6 e7 e8 = e1
choose b false true v3 v4 v5 v6 v7 v8 e1 e2 e3 e4 e5 e6 e7 e8 = e2
choose b false false true v4 v5 v6 v7 v8 e1 e2 e3 e4 e5 e6 e7 e8 = e3
choose b false false false true v5 v6 v7 v8 e1 e2 e3 e4 e5 e6 e7 e8 = e4
choose b false false false false true v6 v7 v8 e1 e2 e3 e4 e5 e6 e7 e8 = is_byte b 64 e5
choose b false false false false false true v7 v8 e1 e2 e3 e4 e5 e6 e7 e8 = is_byte b 36 e6
choose b false false false false false false true v8 e1 e2 e3 e4 e5 e6 e7 e8 = is_byte b 33 e7
choose b false false false false false false false true e1 e2 e3 e4 e5 e6 e7 e8 = is_byte b 47 e8
choose b false false false false false false false false e1 e2 e3 e4 e5 e6 e7 e8 = tt

means : (b : ℕ) → Means (class_of b) b
unfolding class_of
means b = choose b (is_blank b) (is_word_start b) (is_digit b) (is_quote b) (eqb b 64) (eqb b 36) (eqb b 33) (eqb b 47) refl refl refl refl refl refl refl refl

pub class_means : (b : ℕ) (k : Class) → class_of b ≡ k → Means k b
class_means b k e = subst (λ c. Means c b) e (means b)

-- a piece by the class of its first byte
pub piece_at : (rest : List ℕ) (m : ℕ) (k : Class) → 0 < m → 0 < length rest → class_of (get_or rest 0 0) ≡ k → piece_of (take m rest) ≡ piece_in k (take m rest)
unfolding piece_of
piece_at [] m k p q e = absurd (omega arith)
piece_at (b ∷ bs) zero k p q e = absurd (omega arith)
piece_at (b ∷ bs) (suc m) k p q e = ap (λ c. piece_in c (b ∷ take m bs)) e

pub word_char : (b : ℕ) → is_word_start b ≡ true → is_word_char b ≡ true
unfolding is_word_char
word_char b h = rw h refl

either : (v : Bool) → (v || true) ≡ true
either true = refl
either false = refl

pub digit_char : (b : ℕ) → is_digit b ≡ true → is_word_char b ≡ true
unfolding is_word_char
digit_char b h = rw h (either (is_word_start b))

-- the bytes between two bytes of a front
pub between_take : (k n : ℕ) (xs : List ℕ) → k + 1 ≤ n → n ≤ length xs → between k (take n xs) ≡ take (n - (k + 2)) (drop (k + 1) xs)
between_take k n xs h l =
    let e : n ≡ (k + 1) + (n - (k + 1)) = omega arith in
    rw (length-take-le n xs l)
    (ap (λ j. take (n - (k + 2)) (drop (k + 1) (take j xs))) e
    ∙ ap (take (n - (k + 2))) (drop-take (k + 1) (n - (k + 1)) xs)
    ∙ take-take (n - (k + 2)) (n - (k + 1)) (drop (k + 1) xs) (omega arith))

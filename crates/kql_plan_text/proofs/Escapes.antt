-- A string that is escaped character by character is escaped byte by byte.
use Rattle.std.proofs.Common.{◌≡◌, ℕ, zero, suc, ◌<◌, ◌≤◌, List, [], ◌∷◌, ◌++◌, length, get_or, inl, inr, refl, sym, ap, ap₂, ◌∙◌, subst, arith, append_assoc, append-nil}
use Rattle.std.proofs.lemmas.Bool.{cases_lt}
use Rattle.std.proofs.lemmas.Str.{encode_ascii, inside_one}
use Rattle.std.specs.Char.{encode_utf8}
use Rattle.std.specs.List.{flat_map}
use Rattle.kql_plan_text.specs.Literals.{escaped_byte, escaped_char}

plain_byte : (sign b : ℕ) → sign < 128 → 128 ≤ b → escaped_byte sign b ≡ b ∷ []
unfolding escaped_byte
plain_byte sign b s h = grind arith

plain_char : (sign c : ℕ) → sign < 128 → 128 ≤ c → escaped_char sign c ≡ encode_utf8 c
unfolding escaped_char
plain_char sign c s h = grind arith

plain_bytes : (sign : ℕ) (xs : List ℕ) → sign < 128 → ((k : ℕ) → k < length xs → 128 ≤ get_or xs k 0) → flat_map (escaped_byte sign) xs ≡ xs
plain_bytes sign [] s h = refl
plain_bytes sign (x ∷ xs) s h =
    ap₂ (λ (a b : List ℕ). a ++ b) (plain_byte sign x s (h 0 (omega arith))) (plain_bytes sign xs s (λ k below. h (suc k) (omega arith)))

ascii_char : (sign c : ℕ) → c < 128 → escaped_char sign c ≡ escaped_byte sign c
unfolding escaped_char escaped_byte
ascii_char sign c small = rw (encode_ascii c small) refl

char_bytes : (sign c : ℕ) → sign < 128 → escaped_char sign c ≡ flat_map (escaped_byte sign) (encode_utf8 c)
char_bytes sign c s = elim (cases_lt c 128) [
  | inl small ↦ ascii_char sign c small ∙ sym (ap (flat_map (escaped_byte sign)) (encode_ascii c small) ∙ append-nil (escaped_byte sign c))
  | inr big ↦
      let high : (k : ℕ) → k < length (encode_utf8 c) → 128 ≤ get_or (encode_utf8 c) k 0 = λ k below. elim (cases_lt (get_or (encode_utf8 c) k 0) 128) [
        | inl low ↦ absurd (omega (arith, inside_one c [] (encode_utf8 c) k (sym (append-nil _)) below low))
        | inr h ↦ h
      ] in
      plain_char sign c s big ∙ sym (plain_bytes sign (encode_utf8 c) s high)
]

flat_map-append : (f : ℕ → List ℕ) (xs ys : List ℕ) → flat_map f (xs ++ ys) ≡ flat_map f xs ++ flat_map f ys
flat_map-append f [] ys = refl
flat_map-append f (x ∷ xs) ys = ap (λ l. f x ++ l) (flat_map-append f xs ys) ∙ sym (append_assoc (f x) _ _)

-- a character goes from what is left to what is written
pub one_more : (sign c : ℕ) (before after rest rest' whole : List ℕ) → sign < 128 → before ++ flat_map (escaped_byte sign) rest ≡ whole → rest ≡ encode_utf8 c ++ rest' → after ≡ before ++ escaped_char sign c → after ++ flat_map (escaped_byte sign) rest' ≡ whole
one_more sign c before after rest rest' whole s h next put =
    rw (put, char_bytes sign c s, append_assoc) (ap (λ l. before ++ l) (sym (flat_map-append (escaped_byte sign) (encode_utf8 c) rest') ∙ ap (flat_map (escaped_byte sign)) (sym next)) ∙ h)

pub none_left : (sign : ℕ) (before rest whole : List ℕ) → before ++ flat_map (escaped_byte sign) rest ≡ whole → length rest ≡ 0 → before ≡ whole
none_left sign before [] whole h n = sym (append-nil before) ∙ h
none_left sign before (x ∷ rest) whole h n = absurd (omega arith)

-- Terms by bytes and by characters are the same.
use Rattle.std.proofs.Common.{◌≡◌, ◌↔◌, ◌≤◌, ◌+◌, ◌/◌, ℕ, Bool, true, false, cond, IsTrue, ◌&&◌, ltb, List, [], ◌∷◌, ◌++◌, length, fold, take, drop, get_or, refl, sym, ap, ap₂, subst, ◌∙◌, arith, IsUtf8, length-append}
use Rattle.std.specs.Char.{is_ascii_alphanumeric}
use Rattle.std.specs.Str.{IsCharBoundary, chars, encode_utf8_all}
use Rattle.std.proofs.Math.Utf8.{encode, next}
use Rattle.std.proofs.lemmas.Bool.Decides.{nat_tests}
use Rattle.std.proofs.lemmas.List.{drop_at, get_or_at, take_at}
use Rattle.std.proofs.lemmas.List.Sums.{fold-append}
use Rattle.std.proofs.lemmas.Str.{IsCharBoundary-from_take, IsCharBoundary-start, IsUtf8-append, IsUtf8-drop, IsUtf8-take, chars-append, chars-nil, encodes-append, encodes-chars}
use borrow.Author.Tests.{ltb-false}
use Rattle.kql_texts.specs.Terms.{HasTerm, IsBorder, are_joined, first_of, last_of}
use Rattle.kql_texts.proofs.PlaceFacts.{bytes_of_cut}

abbrev alike : ℕ → ℕ → Type 0
alike x y = is_ascii_alphanumeric x ≡ is_ascii_alphanumeric y

high : (n : ℕ) → 128 ≤ n → is_ascii_alphanumeric n ≡ false
high n h = grind (arith, nat_tests)

both_high : (m n : ℕ) → 128 ≤ m → 128 ≤ n → alike m n
both_high m n h k = high m h ∙ sym (high n k)

by_cond : (P : List ℕ → Type 0) (b : Bool) (xs ys : List ℕ) → P xs → (b ≡ false → P ys) → P (cond b xs ys)
by_cond P true xs ys one more = one
by_cond P false xs ys one more = more refl

encode_last : (x c : ℕ) → alike (fold (λ _ y. y) x (encode c)) c
unfolding encode
encode_last x c =
    let P : List ℕ → Type 0 = λ l. alike (fold (λ _ y. y) x l) c in
    by_cond P (ltb c 128) _ _ refl
    (λ above.
    let big : 128 ≤ c = ltb-false c 128 above in
    let far : alike (next c) c = both_high (next c) c (omega arith) big in
    by_cond P (ltb c 2048) _ _ far (λ _. by_cond P (ltb c 65536) _ _ far (λ _. far)))

encode_first : (c : ℕ) (rest : List ℕ) → alike (first_of (encode c ++ rest)) c
unfolding encode
encode_first c rest =
    let P : List ℕ → Type 0 = λ l. alike (first_of (l ++ rest)) c in
    by_cond P (ltb c 128) _ _ refl
    (λ above.
    let big : 128 ≤ c = ltb-false c 128 above in
    by_cond P (ltb c 2048) _ _ (both_high (192 + c / 64) c (omega arith) big)
    (λ _. by_cond P (ltb c 65536) _ _ (both_high (224 + c / 4096) c (omega arith) big) (λ _. both_high (240 + c / 262144) c (omega arith) big)))

last_alike : (x y : ℕ) (cs : List ℕ) → alike x y → alike (fold (λ _ b. b) x (encode_utf8_all cs)) (fold (λ _ b. b) y cs)
last_alike x y [] same = same
last_alike x y (c ∷ cs) same =
    ap is_ascii_alphanumeric (fold-append (λ _ b. b) x (encode c) (encode_utf8_all cs)) ∙ last_alike (fold (λ _ b. b) x (encode c)) c cs (encode_last x c)

first_alike : (cs : List ℕ) → alike (first_of (encode_utf8_all cs)) (first_of cs)
first_alike [] = refl
first_alike (c ∷ cs) = encode_first c (encode_utf8_all cs)

joined_alike : (before after : List ℕ) → are_joined (last_of (encode_utf8_all before)) (first_of (encode_utf8_all after)) ≡ are_joined (last_of before) (first_of after)
joined_alike before after = ap₂ ◌&&◌ (last_alike 0 0 before refl) (first_alike after)

-- a border of bytes is one of characters
IsBorder-chars : (before after : List ℕ) → IsUtf8 before → IsUtf8 after → IsBorder before after → IsBorder (chars before) (chars after)
IsBorder-chars before after before_utf8 after_utf8 border =
    sym (joined_alike (chars before) (chars after)) ∙ ap₂ (λ a b. are_joined (last_of a) (first_of b)) (encodes-chars before before_utf8) (encodes-chars after after_utf8) ∙ border

from_chars : (t p : List ℕ) → IsUtf8 t → IsUtf8 p → HasTerm (chars t) (chars p) → HasTerm t p
from_chars t p t_utf8 p_utf8 term =
    let before = term.0 in
    let after = term.1 in
    let p_is = encodes-chars p p_utf8 in (
      encode_utf8_all before,
      encode_utf8_all after,
      bytes_of_cut t p before after t_utf8 p_utf8 term.2,
      ap (λ l. are_joined (last_of (encode_utf8_all before)) (first_of l)) (ap (λ l. l ++ encode_utf8_all after) (sym p_is) ∙ sym (encodes-append (chars p) after)) ∙ joined_alike before (chars p ++ after) ∙ term.3,
      ap (λ l. are_joined (last_of l) (first_of (encode_utf8_all after))) (ap (λ l. encode_utf8_all before ++ l) (sym p_is) ∙ sym (encodes-append before (chars p))) ∙ joined_alike (before ++ chars p) after ∙ term.4,
    )

-- the parts of a text round one that is not empty are texts
module _ (t before after : List ℕ) (b : ℕ) (bs : List ℕ) (t_utf8 : IsUtf8 t) (p_utf8 : IsUtf8 (b ∷ bs)) (cut : t ≡ before ++ (b ∷ bs ++ after)) where
  boundary : IsCharBoundary t (length before)
  boundary =
      let first : get_or t (length before) 0 ≡ b = ap (λ l. get_or l (length before) 0) cut ∙ get_or_at before b (bs ++ after) 0 (length before) refl in
      let start = (IsCharBoundary-start (b ∷ bs) p_utf8).1 in (
        omega (arith, ap length cut, length-append before (b ∷ bs ++ after)),
        λ _ above. subst (λ x. 192 ≤ x) (sym first) (start (omega arith) (subst (λ x. 128 ≤ x) first above)),
      )

  before_utf8 : IsUtf8 before
  before_utf8 = subst IsUtf8 (ap (take (length before)) cut ∙ take_at before (b ∷ bs ++ after) (length before) refl) (IsUtf8-take t (length before) t_utf8 boundary)

  behind_utf8 : IsUtf8 (b ∷ bs ++ after)
  behind_utf8 = subst IsUtf8 (ap (drop (length before)) cut ∙ drop_at before (b ∷ bs ++ after) (length before) refl) (IsUtf8-drop t (length before) t_utf8 boundary)

  after_utf8 : IsUtf8 after
  after_utf8 =
      let size = length (b ∷ bs) in
      let seam = IsCharBoundary-from_take (b ∷ bs ++ after) size behind_utf8 (omega (arith, length-append (b ∷ bs) after)) (subst IsUtf8 (sym (take_at (b ∷ bs) after size refl)) p_utf8) in
      subst IsUtf8 (drop_at (b ∷ bs) after size refl) (IsUtf8-drop (b ∷ bs ++ after) size behind_utf8 seam)

to_chars : (t p : List ℕ) → IsUtf8 t → IsUtf8 p → HasTerm t p → HasTerm (chars t) (chars p)
to_chars t [] t_utf8 p_utf8 term = (
  [],
  chars t,
  ap (λ l. l ++ chars t) (sym chars-nil),
  refl,
  ap (λ l. are_joined (last_of l) (first_of (chars t))) chars-nil,
)
to_chars t (b ∷ bs) t_utf8 p_utf8 (before, after, cut, start, end) =
    let p = b ∷ bs in
    let front = before_utf8 t before after b bs t_utf8 p_utf8 cut in
    let behind = behind_utf8 t before after b bs t_utf8 p_utf8 cut in
    let back = after_utf8 t before after b bs t_utf8 p_utf8 cut in
    let inner = chars-append p after p_utf8 in
    let outer = chars-append before p front in (
      chars before,
      chars after,
      ap chars cut ∙ chars-append before (p ++ after) front ∙ ap (λ l. chars before ++ l) inner,
      subst (IsBorder (chars before)) inner (IsBorder-chars before (p ++ after) front behind start),
      subst (λ l. IsBorder l (chars after)) outer (IsBorder-chars (before ++ p) after (IsUtf8-append before p front p_utf8) back end),
    )

pub HasTerm-chars : (s n t p : List ℕ) (r : Bool) → IsUtf8 s → IsUtf8 n → s ≡ t → n ≡ p → IsTrue r ↔ HasTerm s n → IsTrue r ↔ HasTerm (chars t) (chars p)
HasTerm-chars s n t p r s_utf8 n_utf8 same_text same_part h =
    rw (← same_text, ← same_part) (λ yes. to_chars s n s_utf8 n_utf8 (h.0 yes), λ term. h.1 (from_chars s n s_utf8 n_utf8 term))
